-- `buckets::is_small` meets its contract: the prime, and the two ends of the range, are the bounds.
use borrow.Author.Rules.{rules}
use Rattle.buckets.specs.Buckets.{is_small}
use Rattle.buckets.proofs.is_small.Goals as goal

pub returns-in-minus1000000000-to-1000000000 : goal.returns-in-minus1000000000-to-1000000000
unfolding is_small
returns-in-minus1000000000-to-1000000000 c = search rules

pub returns-in_default : goal.returns-in_default
unfolding is_small
returns-in_default c = search rules

pub returns-in_default-2 : goal.returns-in_default-2
unfolding is_small
returns-in_default-2 c = search rules

pub returns-else-s-lt-PRIME : goal.returns-else-s-lt-PRIME
unfolding is_small
returns-else-s-lt-PRIME c = search rules
