-- `fold::sum_of` meets its contract. The loop's invariant: both sums are those over the buckets passed.
use native.Mathlib.Omega.{arith}
use mathlib.Core.Path.{refl}
use Rattle.std.proofs.lemmas.Int.{ints, to_z-of_z}
use Rattle.fold.specs.Fold.{total}
use Rattle.fold.proofs.Totals.{total_next}
use Rattle.fold.proofs.sum_of.Goals as goal

pub loop-init : goal.loop-init
unfolding total
loop-init c = (omega arith, (refl, omega arith), refl, omega arith)

pub loop-preserved : goal.loop-preserved
loop-preserved c = grind (arith, ints, to_z-of_z, total_next)
