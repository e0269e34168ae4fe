-- `streamfile::reading::withdraw_packets` meets its contract. The invariant: the sketch is what the first i packets made of the one they went into.
use mathlib.Core.Path.{◌≡◌}
use lib.ListN.{take}
use Rattle.sketch.specs.Sketch.{Sketch, sketch}
use Rattle.sketch.specs.Packets.{after, Accepted}
use Rattle.streamfile.specs.Streams.{flows_in, numbers_in}
use Rattle.streamfile.proofs.reading.withdraw_packets.Given as goal

abbrev pub invariant-loop-i : goal.invariant-loop-i
invariant-loop-i l =
    (S : Sketch) → Accepted l.p (flows_in l.bytes) (numbers_in l.bytes) S l.n → sketch l.initial.counts l.initial.idsums ≡ after l.p (take l.n (flows_in l.bytes)) (take l.n (numbers_in l.bytes)) S
    → sketch l.counts l.idsums ≡ after l.p (take l.i (flows_in l.bytes)) (take l.i (numbers_in l.bytes)) S
