-- `lines::reports::put_losses` meets its contract. The loop's invariant: the lines of the entries passed stand there.
use Prim.Native.Nat.{◌+◌, ◌*◌, ◌≤◌}
use Rattle.lines.specs.Lines.{line_room}
use Rattle.lines.specs.Reports.{loss_lines}
use Rattle.lines.specs.Texts.{TextWritten}
use Rattle.lines.proofs.reports.put_losses.Given as goal

abbrev pub invariant-loop-i : goal.invariant-loop-i
invariant-loop-i l = TextWritten (loss_lines l.flows l.numbers l.i) l.initial.out l.from l.at l.out × (l.at ≤ l.from + line_room * l.i)
