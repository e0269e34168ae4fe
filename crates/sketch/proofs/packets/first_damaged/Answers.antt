-- `sketch::packets::first_damaged` meets its contract. The invariant: the flow's buckets in the arrays passed are not at fault.
use mathlib.Core.Path.{sym}
use native.Mathlib.Omega.{arith}
use Rattle.std.proofs.lemmas.Grind.{common_steps}
use Rattle.sketch.specs.Sketch.{damaged_in}
use Rattle.sketch.proofs.Standing.{array_found, none_found}
use Rattle.sketch.proofs.packets.first_damaged.Goals as goal

pub returns-then-not-undamaged : goal.returns-then-not-undamaged
unfolding damaged_in
returns-then-not-undamaged c = sym (array_found _ _ _ _ c.loop-i.i c.loop-i-test.true (c.requires.inside c.loop-i.i c.loop-i-test.true) (grind (arith, common_steps)) c.loop-i.invariant)

pub returns : goal.returns
unfolding damaged_in
returns c = sym (none_found _ _ _ _ (λ i h. c.loop-i.invariant i (omega arith)))
