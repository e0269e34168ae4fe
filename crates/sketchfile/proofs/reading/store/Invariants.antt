-- `sketchfile::reading::store` meets its contract. The invariant: the buckets before the offset are stored.
use Prim.Native.Nat.{◌-◌}
use lib.ListN.{length}
use Rattle.sketch.specs.Sketch.{sketch}
use Rattle.sketchfile.proofs.BucketRecords.{Storing}
use Rattle.sketchfile.proofs.reading.store.Given as goal

abbrev pub invariant-loop-index : goal.invariant-loop-index
invariant-loop-index l = Storing l.bytes (sketch l.initial.counts l.initial.idsums) l.at (sketch l.counts l.idsums)

abbrev pub decreases-loop-index : goal.decreases-loop-index
decreases-loop-index l = length l.bytes - l.at
