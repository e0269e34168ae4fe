-- `peel::queue::requeue` meets its contract: the rest of the requeueing, from the ring as it stands, gives the queue that the whole gives from the ring at the start.
use mathlib.Core.Path.{◌∙◌}
use native.Mathlib.Omega.{arith}
use borrow.Author.Rules.{rules}
use Rattle.peel.proofs.Queues.{requeue_past, requeue_join, requeue_all}
use Rattle.peel.proofs.queue.requeue.Goals as goal
use Rattle.peel.proofs.queue.requeue.Goals.{else-counts-j-ne0, then-counts-j-ne0}

pub loop-i-preserved : goal.loop-i-preserved
loop-i-preserved c =
    let i = c.loop-i.i in
    let v = c.loop-i.invariant in
    elim c.if-counts-j-ne0.branch [
      | then-counts-j-ne0 w ↦
          rw (w.queue-is, w.marks-is, w.waiting-is) (
            rw v.0.long at w.push-waiting.ensures.ringed,
            requeue_join v.1 c.loop-i-test.true (search rules) w.push-waiting.ensures.list,
            λ k. w.push-waiting.ensures.above k ∙ v.2 k,
            λ k. w.push-waiting.ensures.above_marks k ∙ v.3 k,
          )
      | else-counts-j-ne0 w ↦
          rw (w.queue-is, w.marks-is, w.waiting-is) (
            v.0,
            requeue_past v.1 c.loop-i-test.true (search rules),
            v.2,
            v.3,
          )
    ]

pub returns : goal.returns
returns c = let v = c.loop-i.invariant in record { list = requeue_all v.1 (omega arith); ringed = v.0; above = v.2; above_marks = v.3 }
