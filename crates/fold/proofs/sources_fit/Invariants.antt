-- `fold::sources_fit` meets its contract. The loop's invariant: the buckets passed are undamaged, and the sum is that over their counts.
use Prim.Native.Nat.{◌+◌, ◌*◌, ◌≤◌}
use mathlib.Core.Path.{◌≡◌}
use mathlib.Core.Bool.{true, not}
use lib.IntN.{pos, nat_abs}
use lib.ListN.{get_or}
use Rattle.params.specs.Lists.{below}
use Rattle.buckets.specs.Buckets.{damaged_of}
use Rattle.fold.specs.Fold.{total}
use Rattle.fold.proofs.sources_fit.Given as goal

abbrev pub invariant-loop-q : goal.invariant-loop-q
invariant-loop-q l = (l.count ≡ total l.q (λ p. get_or l.counts (l.start + p * l.step) (pos 0))) × (nat_abs l.count ≤ l.q * 2147483648)
    × (below l.q (λ p. not (damaged_of l.counts l.idsums (l.start + p * l.step))) ≡ true)
