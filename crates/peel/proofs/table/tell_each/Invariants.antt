-- `peel::table::tell_each` meets its contract. The invariant: the slots passed are told, the others as they were.
use mathlib.Core.Path.{◌≡◌}
use mathlib.Core.List.{◌++◌}
use Prim.Native.Nat.{◌/◌}
use lib.ListN.{drop}
use Rattle.params.specs.Lists.{touched}
use Rattle.params.proofs.Changes.{up_to}
use Rattle.peel.proofs.table.tell_each.Given as goal

abbrev pub invariant-loop-x : goal.invariant-loop-x
invariant-loop-x l = l.x-items ++ drop l.n l.fn.flows ≡ touched (up_to l.x-index) (λ j x. x / 256) l.fn.flows
