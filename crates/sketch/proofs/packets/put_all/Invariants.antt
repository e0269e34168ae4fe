-- `sketch::packets::put_all` meets its contract. The invariant: both slices are changed in the first i arrays.
use mathlib.Core.Path.{◌≡◌}
use lib.IntN.{pos}
use lib.ListN.{get_or}
use Rattle.field.specs.Residue.{residue}
use Rattle.params.specs.Lists.{touched}
use Rattle.params.specs.Params.{prime}
use Rattle.params.specs.Positions.{stands_in}
use Rattle.buckets.specs.Buckets.{plus_minus}
use Rattle.sketch.proofs.packets.put_all.Given as goal

abbrev pub invariant-loop-i : goal.invariant-loop-i
invariant-loop-i l = (l.counts ≡ touched (stands_in l.i l.m (λ j. get_or l.ks j 0)) (λ k x. plus_minus l.minus x l.n) l.initial.counts)
    × (l.idsums ≡ touched (stands_in l.i l.m (λ j. get_or l.ks j 0)) (λ k x. residue prime (plus_minus l.minus (pos x) (pos l.w))) l.initial.idsums)
