-- `sums::all_small` meets its contract. The loop's invariant: the count is at most 2 for each bucket passed, and it is 0 where all of them are small and only there.
use Rattle.std.proofs.Common.{arith, refl}
use Rattle.std.proofs.lemmas.Int.{ints, to_z-of_z}
use Rattle.std.proofs.lemmas.Bool.Decides.{nat_tests}
use Rattle.params.specs.Lists.{below}
use Rattle.params.proofs.Searches.{below_next}
use Rattle.sums.proofs.all_small.Goals as goal

pub loop-i-init : goal.loop-i-init
unfolding below
loop-i-init c = (omega arith, refl)

pub loop-i-preserved : goal.loop-i-preserved
loop-i-preserved c = (grind arith, grind (arith, ints, to_z-of_z, nat_tests, below_next))
