-- `sketch::packets::first_damaged` meets its contract. The invariant: the flow's buckets in the arrays passed are not at fault.
use mathlib.Core.Path.{◌≡◌}
use mathlib.Core.Bool.{false}
use Prim.Native.Nat.{ℕ, ◌+◌, ◌*◌, ◌<◌}
use lib.ListN.{get_or}
use Rattle.sketch.specs.Sketch.{sketch, damaged_at}
use Rattle.sketch.proofs.packets.first_damaged.Given as goal

abbrev pub invariant-loop-i : goal.invariant-loop-i
invariant-loop-i l = (j : ℕ) → j < l.i → damaged_at (sketch l.counts l.idsums) (j * l.m + get_or l.ks j 0) ≡ false
