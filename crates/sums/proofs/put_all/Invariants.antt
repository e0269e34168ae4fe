-- `sums::put_all` meets its contract. The loop's invariant: the buckets passed are changed, and no others.
use mathlib.Core.Path.{◌≡◌}
use lib.IntN.{pos}
use lib.ListN.{get_or}
use Rattle.field.specs.Residue.{residue}
use Rattle.params.specs.Lists.{touched}
use Rattle.params.specs.Params.{prime}
use Rattle.buckets.specs.Buckets.{plus_minus}
use Rattle.params.proofs.Changes.{up_to}
use Rattle.sums.proofs.put_all.Given as goal

abbrev pub invariant-loop-i : goal.invariant-loop-i
invariant-loop-i l = (l.counts ≡ touched (up_to l.i) (λ k x. plus_minus l.minus x (get_or l.other_counts k (pos 0))) l.initial.counts)
    × (l.idsums ≡ touched (up_to l.i) (λ k x. residue prime (plus_minus l.minus (pos x) (pos (get_or l.other_idsums k 0)))) l.initial.idsums)
