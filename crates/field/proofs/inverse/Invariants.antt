-- `field::inverse` meets its contract. The loop's invariant: x times what is left of the definition's work leaves what the definition gives. The measure is what is left.
use mathlib.Core.Path.{◌≡◌}
use Prim.Native.Nat.{◌*◌, ◌%◌, ◌≤◌, ◌<◌}
use Rattle.field.specs.Flow.{inverse_in, inverse}
use Rattle.field.proofs.inverse.Given as goal

abbrev pub invariant-loop-left : goal.invariant-loop-left
invariant-loop-left l = (l.left ≤ l.p) × (0 < l.left → l.x < l.p) × ((l.x * inverse_in l.left l.p l.left) % l.p ≡ inverse l.p l.a)

abbrev pub decreases-loop-left : goal.decreases-loop-left
decreases-loop-left l = l.left
