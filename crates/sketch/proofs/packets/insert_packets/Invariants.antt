-- `sketch::packets::insert_packets` meets its contract. The invariant: the first i packets were accepted, and what is left to do from here answers as the whole.
use mathlib.Core.Path.{◌≡◌}
use lib.ListN.{take, drop}
use Rattle.sketch.specs.Sketch.{sketch}
use Rattle.sketch.specs.Packets.{after, packets_answer, Accepted}
use Rattle.sketch.proofs.packets.insert_packets.Given as goal

abbrev pub invariant-loop-i : goal.invariant-loop-i
invariant-loop-i l = Accepted l.p l.flows l.numbers (sketch l.initial.counts l.initial.idsums) l.i
    × (sketch l.counts l.idsums ≡ after l.p (take l.i l.flows) (take l.i l.numbers) (sketch l.initial.counts l.initial.idsums))
    × (packets_answer l.p (drop l.i l.flows) (drop l.i l.numbers) (sketch l.counts l.idsums) ≡ packets_answer l.p l.flows l.numbers (sketch l.initial.counts l.initial.idsums))
