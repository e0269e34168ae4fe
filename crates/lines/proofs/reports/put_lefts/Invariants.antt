-- `lines::reports::put_lefts` meets its contract. The loop's invariant: the lines of the buckets passed stand there.
use Prim.Native.Nat.{◌+◌, ◌*◌, ◌≤◌}
use Rattle.lines.specs.Lines.{line_room}
use Rattle.lines.specs.Reports.{left_lines}
use Rattle.lines.specs.Texts.{TextWritten}
use Rattle.lines.proofs.reports.put_lefts.Given as goal

abbrev pub invariant-loop-i : goal.invariant-loop-i
invariant-loop-i l = TextWritten (left_lines l.counts l.idsums l.i) l.initial.out l.from l.at l.out × (l.at ≤ l.from + line_room * l.i)
