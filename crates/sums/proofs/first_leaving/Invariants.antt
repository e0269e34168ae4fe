-- `sums::first_leaving` meets its contract. The loop's invariant: no bucket passed is at fault.
use Prim.Native.Nat.{ℕ, ◌<◌}
use mathlib.Core.Path.{◌≡◌}
use mathlib.Core.Bool.{false}
use Rattle.sums.specs.Sums.{leaves}
use Rattle.sums.proofs.first_leaving.Given as goal

abbrev pub invariant-loop-i : goal.invariant-loop-i
invariant-loop-i l = (k : ℕ) → k < l.i → leaves l.minus l.counts l.other_counts k ≡ false
