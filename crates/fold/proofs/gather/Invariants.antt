-- `fold::gather` meets its contract. The loops' invariants: the buckets passed are those of the folded sketch, and no other has changed.
use Prim.Native.Nat.{◌+◌, ◌*◌}
use mathlib.Core.Path.{◌≡◌}
use Rattle.field.specs.Residue.{residue}
use Rattle.params.specs.Lists.{touched}
use Rattle.params.specs.Params.{prime}
use Rattle.params.proofs.Changes.{up_to}
use Rattle.fold.specs.Fold.{whole_count, whole_idsum}
use Rattle.fold.proofs.gather.Given as goal

abbrev pub invariant-loop-i : goal.invariant-loop-i
invariant-loop-i l = (l.counts ≡ touched (up_to (l.i * l.m2)) (λ k x. whole_count l.d l.m l.m2 l.fn.counts k) l.fn.counts)
    × (l.idsums ≡ touched (up_to (l.i * l.m2)) (λ k x. residue prime (whole_idsum l.d l.m l.m2 l.fn.idsums k)) l.fn.idsums)

abbrev pub invariant-loop-j : goal.invariant-loop-j
invariant-loop-j l = (l.counts ≡ touched (up_to (l.i * l.m2 + l.j)) (λ k x. whole_count l.d l.m l.m2 l.fn.counts k) l.fn.counts)
    × (l.idsums ≡ touched (up_to (l.i * l.m2 + l.j)) (λ k x. residue prime (whole_idsum l.d l.m l.m2 l.fn.idsums k)) l.fn.idsums)
