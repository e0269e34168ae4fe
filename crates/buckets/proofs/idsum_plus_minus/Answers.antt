-- `buckets::idsum_plus_minus` meets its contract: the definition, case by case.
use native.Mathlib.Omega.{arith}
use borrow.Author.Tests.{lt-ltb, le-ltb}
use Rattle.buckets.specs.Buckets.{idsum_plus_minus}
use Rattle.buckets.proofs.idsum_plus_minus.Goals as goal

pub returns-then-s-t : goal.returns-then-s-t
unfolding idsum_plus_minus
returns-then-s-t c = rw (c.if-minus.true, lt-ltb _ _ c.if-s-t.true) (omega arith)

pub returns-else-s-t : goal.returns-else-s-t
unfolding idsum_plus_minus
returns-else-s-t c = rw (c.if-minus.true, le-ltb _ _ c.if-s-t.false)

pub returns-then-sum-lt-PRIME : goal.returns-then-sum-lt-PRIME
unfolding idsum_plus_minus
returns-then-sum-lt-PRIME c = rw (c.if-minus.false, lt-ltb _ _ c.if-sum-lt-PRIME.true)

pub returns-else-sum-lt-PRIME : goal.returns-else-sum-lt-PRIME
unfolding idsum_plus_minus
returns-else-sum-lt-PRIME c = rw (c.if-minus.false, le-ltb _ _ c.if-sum-lt-PRIME.false)
