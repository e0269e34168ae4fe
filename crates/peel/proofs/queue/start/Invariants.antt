-- `peel::queue::start` meets its contract: the ring and the buckets that are still to be queued give the first queue.
use mathlib.Core.Path.{◌≡◌}
use Prim.Native.Nat.{ℕ, ◌/◌}
use lib.ListN.{get_or, length}
use Rattle.walk.specs.Walk.{first_queue}
use Rattle.peel.specs.Ring.{Ring, ring}
use Rattle.peel.proofs.Queues.{Starting}
use Rattle.peel.proofs.queue.start.Given as goal

abbrev pub invariant-loop-i : goal.invariant-loop-i
invariant-loop-i l = Ring (length l.counts) l.queue l.marks 0 l.waiting
    × Starting l.counts l.i (ring l.queue 0 l.waiting) (first_queue 0 l.counts)
    × ((k : ℕ) → get_or l.marks k 0 / 2 ≡ 0)
