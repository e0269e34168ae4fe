-- `sketchfile::writing::nonzero_buckets` meets its contract. The invariant: those that are counted and those that are left make all.
use mathlib.Core.Path.{◌≡◌}
use Prim.Native.Nat.{◌+◌, ◌-◌, ◌≤◌}
use lib.ListN.{length}
use Rattle.sketch.specs.Sketch.{sketch}
use Rattle.sketchfile.specs.Writing.{nonzero_from}
use Rattle.sketchfile.proofs.writing.nonzero_buckets.Given as goal

abbrev pub invariant-loop-k : goal.invariant-loop-k
invariant-loop-k l = (l.n ≤ l.k) × (l.n + nonzero_from l.k (length l.counts - l.k) (sketch l.counts l.idsums) ≡ nonzero_from 0 (length l.counts) (sketch l.counts l.idsums))
