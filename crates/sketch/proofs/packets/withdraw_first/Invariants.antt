-- `sketch::packets::withdraw_first` meets its contract. The invariant: the sketch is what the first i packets made of the one they went into.
use mathlib.Core.Path.{◌≡◌}
use lib.ListN.{take}
use Rattle.sketch.specs.Sketch.{Sketch, sketch}
use Rattle.sketch.specs.Packets.{after, Accepted}
use Rattle.sketch.proofs.packets.withdraw_first.Given as goal

abbrev pub invariant-loop-i : goal.invariant-loop-i
invariant-loop-i l = (S : Sketch) → Accepted l.p l.flows l.numbers S l.n → sketch l.initial.counts l.initial.idsums ≡ after l.p (take l.n l.flows) (take l.n l.numbers) S
    → sketch l.counts l.idsums ≡ after l.p (take l.i l.flows) (take l.i l.numbers) S
