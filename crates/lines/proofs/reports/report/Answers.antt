-- `lines::reports::report` meets its contract: the lines of the table, those of what is left, and the end, one after another.
use mathlib.Core.Path.{sym}
use native.Mathlib.Omega.{arith}
use Rattle.std.proofs.lemmas.Grind.{common_steps}
use Rattle.lines.specs.Reports.{report_text}
use Rattle.lines.proofs.Joining.{text_of_three}
use Rattle.lines.proofs.Reporting.{length_end, line_in_the_rest}
use Rattle.lines.proofs.reports.report.Goals as goal

pub returns : goal.returns
unfolding report_text
returns c =
    let a = c.args in
    let short = length_end a.ending a.pops a.lost a.extra (omega arith) (omega arith) (omega arith) in
    text_of_three (sym c.if-not-room.ensures) c.put_losses-at.ensures.text_written c.put_lefts-at.ensures.text_written (line_in_the_rest _ _ _ _ (grind (arith, common_steps)) short c.end_line.ensures).0

pub overflow_add-result : goal.overflow_add-result
overflow_add-result c = grind (arith, common_steps, length_end)
