-- `buckets::within` meets its contract: the two ends of the range are the limits.
use borrow.Author.Rules.{rules}
use Rattle.buckets.specs.Buckets.{in_limits}
use Rattle.buckets.proofs.within.Goals as goal

pub returns-in-minus2147483646-to-2147483646 : goal.returns-in-minus2147483646-to-2147483646
unfolding in_limits
returns-in-minus2147483646-to-2147483646 c = search rules

pub returns-in_default : goal.returns-in_default
unfolding in_limits
returns-in_default c = search rules

pub returns-in_default-2 : goal.returns-in_default-2
unfolding in_limits
returns-in_default-2 c = search rules
