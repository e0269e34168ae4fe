-- `lines::reports::put_left` meets its contract: nothing for a bucket that is all zero, else the line in the rest of the output.
use mathlib.Core.Path.{sym}
use native.Mathlib.Omega.{arith}
use mir.Facts.{to_z-of_z}
use Rattle.lines.proofs.Reporting.{length_left, line_in_the_rest, no_left}
use Rattle.lines.proofs.reports.put_left.Goals as goal

pub returns-then-all_zero-clause-text_written : goal.returns-then-all_zero-clause-text_written
returns-then-all_zero-clause-text_written c =
    (no_left c.args.index c.args.count c.args.idsum _ _ (sym (rw (to_z-of_z c.ranges.count) at c.if-all_zero.ensures))).0

pub returns : goal.returns
returns c =
    let some = sym (rw (to_z-of_z c.ranges.count) at c.if-all_zero.ensures) in
    let line = line_in_the_rest _ _ _ _ (omega arith) (length_left _ _ _ (omega arith) c.ranges.count (omega arith)) (rw (to_z-of_z c.ranges.count) at c.left_line.ensures) in
    record { text_written = rw some line.0; upper_bound = line.1 }

pub overflow_add-result : goal.overflow_add-result
overflow_add-result c = omega (arith, (returns c).upper_bound)
