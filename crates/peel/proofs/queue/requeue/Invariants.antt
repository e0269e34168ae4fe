-- `peel::queue::requeue` meets its contract: the rest of the requeueing, from the ring as it stands, gives the queue that the whole gives from the ring at the start.
use mathlib.Core.List.{[]}
use Prim.Native.Nat.{◌+◌, ◌*◌}
use lib.ListN.{get_or}
use Rattle.sketch.specs.Sketch.{sketch}
use Rattle.walk.specs.Walk.{requeue}
use Rattle.peel.specs.Ring.{Ring, ring, SameAbove}
use Rattle.peel.proofs.Queues.{Requeueing}
use Rattle.peel.proofs.queue.requeue.Given as goal

abbrev pub invariant-loop-i : goal.invariant-loop-i
invariant-loop-i l = Ring (l.d * l.m) l.queue l.marks l.head l.waiting
    × Requeueing (λ i. i * l.m + get_or l.ks i 0) (sketch l.counts []) l.d l.i (ring l.queue l.head l.waiting)
    (requeue (λ i. i * l.m + get_or l.ks i 0) (sketch l.counts []) 0 l.d (ring l.initial.queue l.head l.first))
    × SameAbove 65536 l.initial.queue l.queue
    × SameAbove 2 l.initial.marks l.marks
