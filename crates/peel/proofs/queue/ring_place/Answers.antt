-- `peel::queue::ring_place` meets its contract: the place by its two cases.
use borrow.Author.Rules.{rules}
use Rattle.peel.specs.Ring.{ring_place}
use Rattle.peel.proofs.queue.ring_place.Goals as goal

pub returns-then-head-i : goal.returns-then-head-i
unfolding ring_place
returns-then-head-i c = search rules

pub returns-else-head-i : goal.returns-else-head-i
unfolding ring_place
returns-else-head-i c = search rules
