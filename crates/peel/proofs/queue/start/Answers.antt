-- `peel::queue::start` meets its contract: the ring and the buckets that are still to be queued give the first queue.
use mathlib.Core.Path.{sym, ◌∙◌}
use Prim.Native.Nat.{ℕ}
use native.Mathlib.Omega.{arith}
use borrow.Author.Rules.{rules}
use Rattle.peel.proofs.Clearing.{all_cleared}
use Rattle.peel.proofs.Rings.{ring_nothing, ring_empty}
use Rattle.peel.proofs.Queues.{first_none, first_past, first_join, first_all}
use Rattle.peel.proofs.queue.start.Goals as goal
use Rattle.peel.proofs.queue.start.Goals.{else-c-ne0, then-c-ne0}

pub loop-i-init : goal.loop-i-init
loop-i-init c =
    let h = c.requires in
    let zero = λ (k : ℕ). all_cleared c.fill-2.new.self _ k (c.fill-2.ensures.after (search rules)) in (
      ring_empty _ _ _ (omega (arith, h.0, h.2)) (c.fill.ensures.len ∙ sym h.0) (c.fill-2.ensures.len ∙ h.1 ∙ sym h.0) zero,
      first_none (ring_nothing _ 0),
      λ k. omega (arith, zero k),
    )

pub loop-i-preserved : goal.loop-i-preserved
loop-i-preserved c =
    let v = c.loop-i.invariant in
    elim c.if-c-ne0.branch [
      | then-c-ne0 w ↦
          rw (w.queue-is, w.marks-is, w.waiting-is) (
            rw v.0.long at w.push-waiting.ensures.ringed,
            first_join v.1 c.loop-i-test.true (search rules) w.push-waiting.ensures.list,
            λ k. w.push-waiting.ensures.above_marks k ∙ v.2 k,
          )
      | else-c-ne0 w ↦
          rw (w.queue-is, w.marks-is, w.waiting-is) (
            v.0,
            first_past v.1 c.loop-i-test.true (search rules),
            v.2,
          )
    ]

pub returns : goal.returns
returns c =
    let v = c.loop-i.invariant in
    record { list = first_all v.1 (omega arith) (omega arith); ringed = rw c.requires.0 at v.0; above_marks = v.2 }
