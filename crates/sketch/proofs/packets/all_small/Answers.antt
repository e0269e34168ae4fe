-- `sketch::packets::all_small` meets its contract. The invariant: the flow's buckets in the arrays passed are small.
use mathlib.Core.Path.{sym}
use native.Mathlib.Omega.{arith}
use Rattle.std.proofs.lemmas.Grind.{common_steps}
use Rattle.params.proofs.Searches.{below_fails, all_below}
use Rattle.sketch.proofs.packets.all_small.Goals as goal

pub returns-then-not-is_small : goal.returns-then-not-is_small
returns-then-not-is_small c = sym (below_fails _ c.loop-i.i _ c.loop-i-test.true (grind (arith, common_steps)))

pub returns : goal.returns
returns c = sym (all_below _ _ (λ j h. c.loop-i.invariant j (omega arith)))
