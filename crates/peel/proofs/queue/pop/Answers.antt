-- `peel::queue::pop` meets its contract: the index at the head is a bucket's, whose mark goes.
use native.Mathlib.Omega.{arith}
use Rattle.peel.proofs.Rings.{pop_inside, ring_pop}
use Rattle.peel.proofs.queue.pop.Goals as goal

pub bounds-marks-k : goal.bounds-marks-k
bounds-marks-k c = let h = c.requires in omega (arith, h.0.long_marks, pop_inside h.0 h.1)

pub bounds-marks-k-2 : goal.bounds-marks-k-2
bounds-marks-k-2 c = let h = c.requires in omega (arith, h.0.long_marks, pop_inside h.0 h.1)

pub returns : goal.returns
returns c = ring_pop c.requires.0 c.requires.1
