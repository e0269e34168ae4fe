-- `buckets::first_damaged` meets its contract: the buckets passed are undamaged.
use mathlib.Core.Path.{◌≡◌}
use mathlib.Core.Bool.{false}
use Prim.Native.Nat.{ℕ, ◌<◌}
use Rattle.buckets.specs.Buckets.{damaged_of}
use Rattle.buckets.proofs.first_damaged.Given as goal

abbrev pub invariant-loop-i : goal.invariant-loop-i
invariant-loop-i l = (k : ℕ) → k < l.i → damaged_of l.counts l.idsums k ≡ false
