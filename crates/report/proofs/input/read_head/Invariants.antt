-- `report::input::read_head` is safe: no more is held than the buffer has room for.
use Rattle.std.proofs.Common.{◌≡◌, ◌≤◌, length}
use Rattle.report.proofs.input.read_head.Given as goal

abbrev pub invariant-loop : goal.invariant-loop
invariant-loop g l = (length l.buf ≡ length l.initial.buf) × (l.held ≤ length l.buf)
