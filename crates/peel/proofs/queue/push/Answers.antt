-- `peel::queue::push` meets its contract: an index without a mark goes to the place after the last.
use native.Mathlib.Omega.{arith}
use Rattle.peel.proofs.Rings.{ring_most, back_below, ring_stay, ring_push}
use Rattle.peel.proofs.queue.push.Goals as goal

pub ring_place-at-requires : goal.ring_place-at-requires
ring_place-at-requires c = let h = c.requires in (h.0.head_in, ring_most h.0, h.2)

pub offset_bounds-queue-at : goal.offset_bounds-queue-at
offset_bounds-queue-at c = grind (arith, back_below)

pub bounds-queue-at : goal.bounds-queue-at
bounds-queue-at c = grind (arith, back_below)

pub offset_bounds-queue-at-then-marks-k-eq0 : goal.offset_bounds-queue-at-then-marks-k-eq0
offset_bounds-queue-at-then-marks-k-eq0 c = grind (arith, back_below)

pub bounds-queue-at-then-marks-k-eq0 : goal.bounds-queue-at-then-marks-k-eq0
bounds-queue-at-then-marks-k-eq0 c = grind (arith, back_below)

pub overflow_add-result : goal.overflow_add-result
overflow_add-result c = omega (arith, ring_most c.requires.0)

pub returns-then-marks-k-eq0 : goal.returns-then-marks-k-eq0
returns-then-marks-k-eq0 c = let h = c.requires in rw c.ring_place-at.ensures (ring_push h.0 _ h.1 h.2 c.if-marks-k-eq0.true)

pub returns : goal.returns
returns c = ring_stay c.requires.0 _ c.if-marks-k-eq0.false
