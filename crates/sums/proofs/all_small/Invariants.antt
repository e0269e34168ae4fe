-- `sums::all_small` meets its contract. The loop's invariant: the count is at most 2 for each bucket passed, and it is 0 where all of them are small and only there.
use Prim.Native.Nat.{ℕ, ◌*◌, ◌≤◌}
use mathlib.Core.Path.{◌≡◌}
use mathlib.Core.Bool.{Bool, ◌&&◌}
use lib.Dec.{eqb}
use Rattle.params.specs.Lists.{below}
use Rattle.sketch.specs.Sketch.{Sketch, sketch, small_at}
use Rattle.sums.proofs.all_small.Given as goal

-- bucket k is small in both sketches
abbrev pub both : Sketch → Sketch → ℕ → Bool
both S T k = small_at S k && small_at T k

abbrev pub invariant-loop-i : goal.invariant-loop-i
invariant-loop-i l = (l.large ≤ 2 * l.i) × (eqb l.large 0 ≡ below l.i (both (sketch l.counts l.idsums) (sketch l.other_counts l.other_idsums)))
