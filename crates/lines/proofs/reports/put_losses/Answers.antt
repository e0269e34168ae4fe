-- `lines::reports::put_losses` meets its contract. The loop's invariant: the lines of the entries passed stand there.
use native.Mathlib.Omega.{arith}
use mir.Syntax.{w32}
use lib.IntN.{pos}
use lib.ListN.{get_or}
use Rattle.field.proofs.Casts.{back}
use Rattle.lines.specs.Reports.{loss_lines}
use Rattle.lines.proofs.Reporting.{losses_next, nothing_written, one_more}
use Rattle.lines.proofs.reports.put_losses.Goals as goal

pub loop-i-init : goal.loop-i-init
unfolding loss_lines
loop-i-init c = nothing_written _ _

pub loop-i-preserved : goal.loop-i-preserved
loop-i-preserved c =
    let i = c.loop-i.i in
    let line = rw (back w32 (get_or c.args.numbers.now i (pos 0)) (omega arith)) at c.put_loss-at.ensures in
    rw (losses_next _ _ i) (one_more i (omega arith) c.loop-i.invariant (line.text_written, line.upper_bound))
