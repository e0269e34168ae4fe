-- `lines::lines::loss_line` meets its contract: the word, the flow, the count and the newline, one after another.
use native.Mathlib.Omega.{arith}
use mir.Facts.{sfits_widen}
use Rattle.field.proofs.Casts.{widened}
use Rattle.lines.specs.Lines.{loss_line}
use Rattle.lines.proofs.Digits.{length_short, length_read}
use Rattle.lines.proofs.Joining.{line_of_three}
use Rattle.lines.proofs.lines.loss_line.Goals as goal

pub put_named-at-requires : goal.put_named-at-requires
put_named-at-requires c = omega (arith, length_short)

pub put_named_signed-at-requires : goal.put_named_signed-at-requires
put_named_signed-at-requires c = omega (arith, length_short)

pub put-requires : goal.put-requires
put-requires c = omega (arith, length_short c.args.flow (omega arith), length_read (widened c.ranges.count) (sfits_widen tt c.ranges.count))

pub returns : goal.returns
unfolding loss_line
returns c =
    let count = rw (widened c.ranges.count) at c.put_named_signed-at.ensures in
    line_of_three (omega arith) c.put_named-at.ensures count c.put.ensures
