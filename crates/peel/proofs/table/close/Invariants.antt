-- `peel::table::close` meets its contract: what is kept so far, with the close of the entries still to come, is the close of all. The
-- figures are those of what is kept, of which each adds at most 2147483648.
use Prim.Native.Nat.{◌+◌, ◌*◌, ◌≤◌}
use Rattle.peel.proofs.Closing.{Closing}
use Rattle.peel.proofs.table.close.Given as goal

abbrev pub invariant-loop-i : goal.invariant-loop-i
invariant-loop-i l = (l.entries ≤ l.i) × (l.lost + l.extra ≤ l.entries * 2147483648) × Closing l.initial.flows l.initial.numbers l.n l.i l.entries l.lost l.extra l.flows l.numbers
