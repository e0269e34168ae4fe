-- `sketch::packets::first_leaving` meets its contract. The invariant: the flow's buckets in the arrays passed are not at fault.
use mathlib.Core.Path.{◌≡◌}
use mathlib.Core.Bool.{false}
use Prim.Native.Nat.{ℕ, ◌+◌, ◌*◌, ◌<◌}
use lib.ListN.{get_or}
use Rattle.sketch.specs.Sketch.{leaves_at}
use Rattle.sketch.proofs.packets.first_leaving.Given as goal

abbrev pub invariant-loop-i : goal.invariant-loop-i
invariant-loop-i l = (j : ℕ) → j < l.i → leaves_at l.minus l.n l.counts (j * l.m + get_or l.ks j 0) ≡ false
