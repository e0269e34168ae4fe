-- `peel::take::apply` meets its contract. The invariant: both slices are changed in the first i arrays, and `nonzero` counts what is not all zero in them.
use mathlib.Core.Path.{◌≡◌}
use lib.IntN.{pos, ◌-ℤ◌}
use lib.ListN.{get_or}
use Rattle.field.specs.Residue.{residue}
use Rattle.params.specs.Lists.{touched}
use Rattle.params.specs.Params.{prime}
use Rattle.params.specs.Positions.{stands_in}
use Rattle.peel.specs.Nonzero.{nonzero_buckets}
use Rattle.peel.proofs.take.apply.Given as goal

abbrev pub invariant-loop-i : goal.invariant-loop-i
invariant-loop-i l = (l.counts ≡ touched (stands_in l.i l.m (λ j. get_or l.ks j 0)) (λ k x. x -ℤ l.c) l.initial.counts)
    × (l.idsums ≡ touched (stands_in l.i l.m (λ j. get_or l.ks j 0)) (λ k x. residue prime (pos x -ℤ pos l.s)) l.initial.idsums)
    × (l.nonzero ≡ nonzero_buckets l.counts l.idsums)
