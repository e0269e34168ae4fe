-- `buckets::is_number` meets its contract: its comparisons are the bounds.
use borrow.Author.Tests.{le-leb, lt-leb}
use Rattle.buckets.specs.Buckets.{is_number}
use Rattle.buckets.proofs.is_number.Goals as goal

pub returns-then-n-ge1 : goal.returns-then-n-ge1
unfolding is_number
returns-then-n-ge1 c = simp (le-leb _ _ c.if-n-ge1.true)

pub returns-else-n-ge1 : goal.returns-else-n-ge1
unfolding is_number
returns-else-n-ge1 c = simp (lt-leb _ _ c.if-n-ge1.false)
