-- `sketch::packets::withdraw_first` meets its contract. The invariant: the sketch is what the first i packets made of the one they went into.
use mathlib.Core.Path.{◌≡◌}
use native.Mathlib.Omega.{arith}
use Rattle.sketch.specs.Packets.{after}
use Rattle.sketch.proofs.ManyPackets.{unwind}
use Rattle.sketch.proofs.packets.withdraw_first.Goals as goal

pub loop-i-preserved : goal.loop-i-preserved
loop-i-preserved c = λ S a e. unwind _ _ _ S c.loop-i.i _ _ _ c.loop-i-test.true (omega arith) (omega arith) (λ j m. a j (omega arith)) (c.loop-i.invariant S a e) c.step.ensures

pub returns : goal.returns
unfolding after
returns c =
    let none : c.loop-i.i ≡ 0 = omega arith in
    record { back = λ S a e. rw none at (c.loop-i.invariant S a e) }
