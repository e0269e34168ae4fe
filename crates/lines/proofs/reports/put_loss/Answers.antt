-- `lines::reports::put_loss` meets its contract: the line is written into the rest of the output.
use native.Mathlib.Omega.{arith}
use mir.Facts.{to_z-of_z}
use Rattle.lines.proofs.Reporting.{length_loss, line_in_the_rest}
use Rattle.lines.proofs.reports.put_loss.Goals as goal

pub returns : goal.returns
returns c =
    let line = line_in_the_rest _ _ _ _ (omega arith) (length_loss _ _ (omega arith) c.ranges.count) (rw (to_z-of_z c.ranges.count) at c.loss_line.ensures) in
    record { text_written = line.0; upper_bound = line.1 }

pub overflow_add-result : goal.overflow_add-result
overflow_add-result c = omega (arith, (returns c).upper_bound)
