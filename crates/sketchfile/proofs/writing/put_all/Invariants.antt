-- `sketchfile::writing::put_all` meets its contract. The invariant: the records that are left, written from `at` on, give what is asked for.
use mathlib.Core.Path.{◌≡◌}
use Prim.Native.Nat.{◌+◌, ◌-◌}
use lib.ListN.{length}
use Rattle.sketch.specs.Sketch.{sketch}
use Rattle.files.specs.Bytes.{overwritten}
use Rattle.sketchfile.specs.Writing.{buckets_bytes}
use Rattle.sketchfile.proofs.writing.put_all.Given as goal

abbrev pub invariant-loop-k : goal.invariant-loop-k
invariant-loop-k l = (l.at + length (buckets_bytes l.k (length l.counts - l.k) (sketch l.counts l.idsums)) ≡ l.first + length (buckets_bytes 0 (length l.counts) (sketch l.counts l.idsums)))
    × (overwritten l.out l.at (buckets_bytes l.k (length l.counts - l.k) (sketch l.counts l.idsums)) ≡ overwritten l.initial.out l.first (buckets_bytes 0 (length l.counts) (sketch l.counts l.idsums)))
