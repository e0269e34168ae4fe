-- `fold::sum_of` meets its contract. The loop's invariant: both sums are those over the buckets passed.
use Prim.Native.Nat.{◌+◌, ◌*◌, ◌≤◌}
use mathlib.Core.Path.{◌≡◌}
use lib.IntN.{pos, nat_abs}
use lib.ListN.{get_or}
use Rattle.fold.specs.Fold.{total}
use Rattle.fold.proofs.sum_of.Given as goal

abbrev pub invariant-loop : goal.invariant-loop
invariant-loop l = (l.s ≡ l.start + l.counter * l.step)
    × ((l.count ≡ total l.counter (λ p. get_or l.counts (l.start + p * l.step) (pos 0))) × (nat_abs l.count ≤ l.counter * 2147483648))
    × (pos l.idsum ≡ total l.counter (λ p. pos (get_or l.idsums (l.start + p * l.step) 0))) × (l.idsum ≤ l.counter * 4294967296)
