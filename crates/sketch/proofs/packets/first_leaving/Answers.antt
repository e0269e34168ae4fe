-- `sketch::packets::first_leaving` meets its contract. The invariant: the flow's buckets in the arrays passed are not at fault.
use mathlib.Core.Path.{sym}
use native.Mathlib.Omega.{arith}
use borrow.Author.Count.{below_more}
use borrow.Author.Rules.{rules}
use mir.Facts.{to_z-of_z}
use Rattle.std.proofs.lemmas.Grind.{common_steps}
use Rattle.sketch.specs.Sketch.{leaves_in}
use Rattle.sketch.proofs.Standing.{array_found, none_found}
use Rattle.sketch.proofs.packets.first_leaving.Goals as goal

pub returns-then-not-within : goal.returns-then-not-within
unfolding leaves_in
returns-then-not-within c = rw (sym (to_z-of_z c.ranges.n)) (sym (array_found _ _ _ _ c.loop-i.i c.loop-i-test.true (c.requires.inside c.loop-i.i c.loop-i-test.true) (grind (arith, common_steps)) c.loop-i.invariant))

pub returns : goal.returns
unfolding leaves_in
returns c = rw (sym (to_z-of_z c.ranges.n)) (sym (none_found _ _ _ _ (λ i h. c.loop-i.invariant i (omega arith))))

pub loop-i-preserved : goal.loop-i-preserved
loop-i-preserved c = below_more _ _ c.loop-i.invariant (search rules)
