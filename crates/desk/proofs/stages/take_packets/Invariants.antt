-- `desk::stages::take_packets` meets its contract. The invariant: so many packets went in, and what they made stands in the sketch.
use mathlib.Core.Path.{◌≡◌}
use Prim.Native.Nat.{◌-◌}
use lib.ListN.{length}
use Rattle.sketch.specs.Sketch.{sketch}
use Rattle.files.specs.Turns.{packet_from}
use Rattle.streamfile.proofs.InTurn.{Gone}
use Rattle.desk.proofs.stages.take_packets.Given as goal

abbrev pub invariant-loop-flow : goal.invariant-loop-flow
invariant-loop-flow l = (l.at ≡ packet_from 0 l.taken) × Gone l.p 0 l.bytes (sketch l.initial.counts l.initial.idsums) l.taken (sketch l.counts l.idsums)

abbrev pub decreases-loop-flow : goal.decreases-loop-flow
decreases-loop-flow l = length l.bytes - l.at
