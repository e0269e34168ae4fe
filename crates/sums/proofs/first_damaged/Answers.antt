-- `sums::first_damaged` meets its contract. The loop's invariant: no bucket passed is at fault.
use mathlib.Core.Path.{sym}
use borrow.Author.Count.{below_more}
use Rattle.std.proofs.Common.{arith}
use Rattle.std.proofs.lemmas.Int.{ints, to_z-of_z}
use Rattle.sums.specs.Sums.{either_damaged}
use Rattle.params.proofs.Searches.{found_first, found_nothing}
use Rattle.sums.proofs.first_damaged.Goals as goal

pub returns-then-not-undamaged : goal.returns-then-not-undamaged
unfolding either_damaged
returns-then-not-undamaged c = sym (found_first _ _ _ c.loop-i-test.true (grind (arith, ints, to_z-of_z)) c.loop-i.invariant)

pub returns-then-not-undamaged-2 : goal.returns-then-not-undamaged-2
unfolding either_damaged
returns-then-not-undamaged-2 c = sym (found_first _ _ _ c.loop-i-test.true (grind (arith, ints, to_z-of_z)) c.loop-i.invariant)

pub loop-i-preserved : goal.loop-i-preserved
unfolding either_damaged
loop-i-preserved c = below_more _ _ c.loop-i.invariant (grind (arith, ints, to_z-of_z))

pub returns : goal.returns
returns c = sym (found_nothing _ _ (λ k l. c.loop-i.invariant k (omega arith)))
