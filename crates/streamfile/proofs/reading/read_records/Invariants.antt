-- `streamfile::reading::read_records` meets its contract. The invariant: n packets went in, and what they made stands in the sketch.
use mathlib.Core.Path.{◌≡◌}
use Prim.Native.Nat.{◌-◌}
use lib.ListN.{length}
use Rattle.sketch.specs.Sketch.{sketch}
use Rattle.files.specs.Records.{head_length_in}
use Rattle.files.specs.Turns.{packet_offset}
use Rattle.streamfile.proofs.InTurn.{Gone}
use Rattle.streamfile.proofs.reading.read_records.Given as goal

abbrev pub invariant-loop-flow : goal.invariant-loop-flow
invariant-loop-flow l =
    (l.at ≡ packet_offset l.bytes l.n) × Gone l.p (head_length_in l.bytes) l.bytes (sketch l.initial.counts l.initial.idsums) l.n (sketch l.counts l.idsums)

abbrev pub decreases-loop-flow : goal.decreases-loop-flow
decreases-loop-flow l = length l.bytes - l.at
