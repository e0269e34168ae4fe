-- `fold::sources_fit` meets its contract. The loop's invariant: the buckets passed are undamaged, and the sum is that over their counts.
use Rattle.std.proofs.Common.{arith, refl}
use Rattle.std.proofs.lemmas.Grind.{common_steps}
use Rattle.std.proofs.lemmas.Int.{ints, to_z-of_z}
use Rattle.params.specs.Lists.{below}
use Rattle.params.proofs.Searches.{below_next, below_fails}
use Rattle.fold.specs.Fold.{total}
use Rattle.fold.proofs.Totals.{total_next}
use Rattle.fold.proofs.sources_fit.Goals as goal

pub loop-q-init : goal.loop-q-init
unfolding total below
loop-q-init c = (refl, omega arith, refl)

pub returns-then-not-undamaged : goal.returns-then-not-undamaged
returns-then-not-undamaged c = grind (arith, common_steps, below_fails c.args.n c.loop-q.q)

pub loop-q-preserved : goal.loop-q-preserved
loop-q-preserved c = grind (arith, ints, to_z-of_z, total_next, below_next)
