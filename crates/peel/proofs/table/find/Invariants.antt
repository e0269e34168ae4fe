-- `peel::table::find` meets its contract: no slot that the chain has passed holds the flow, and each step goes to a lower one.
use lib.ListN.{length}
use Rattle.peel.proofs.Chains.{Following}
use Rattle.peel.proofs.table.find.Given as goal

abbrev pub invariant-loop-x : goal.invariant-loop-x
invariant-loop-x l = Following (length l.queue) l.flows l.queue l.marks l.n l.f l.k l.x

abbrev pub decreases-loop-x : goal.decreases-loop-x
decreases-loop-x l = l.x
