-- `sums::first_damaged` meets its contract. The loop's invariant: no bucket passed is at fault.
use Prim.Native.Nat.{ℕ, ◌<◌}
use mathlib.Core.Path.{◌≡◌}
use mathlib.Core.Bool.{false}
use Rattle.sketch.specs.Sketch.{sketch}
use Rattle.sums.specs.Sums.{either_damaged}
use Rattle.sums.proofs.first_damaged.Given as goal

abbrev pub invariant-loop-i : goal.invariant-loop-i
invariant-loop-i l = (k : ℕ) → k < l.i → either_damaged (sketch l.counts l.idsums) (sketch l.other_counts l.other_idsums) k ≡ false
