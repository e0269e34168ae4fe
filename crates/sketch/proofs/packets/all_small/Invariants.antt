-- `sketch::packets::all_small` meets its contract. The invariant: the flow's buckets in the arrays passed are small.
use mathlib.Core.Path.{◌≡◌}
use mathlib.Core.Bool.{true}
use Prim.Native.Nat.{ℕ, ◌+◌, ◌*◌, ◌<◌}
use lib.ListN.{get_or}
use Rattle.sketch.specs.Sketch.{sketch, small_at}
use Rattle.sketch.proofs.packets.all_small.Given as goal

abbrev pub invariant-loop-i : goal.invariant-loop-i
invariant-loop-i l = (j : ℕ) → j < l.i → small_at (sketch l.counts l.idsums) (j * l.m + get_or l.ks j 0) ≡ true
