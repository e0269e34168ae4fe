-- `peel::table::find` meets its contract: no slot that the chain has passed holds the flow, and each step goes to a lower one.
use native.Mathlib.Omega.{arith}
use Rattle.peel.proofs.Chains.{follow_first, follow_next}
use Rattle.peel.proofs.table.find.Goals as goal

pub loop-x-init : goal.loop-x-init
loop-x-init c = follow_first c.requires.0

pub loop-x-preserved : goal.loop-x-preserved
loop-x-preserved c = follow_next c.loop-x.invariant (omega arith) c.if-flows-e.false
