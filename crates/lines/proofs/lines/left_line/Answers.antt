-- `lines::lines::left_line` meets its contract: the word, the index, the count, the idsum and the newline, one after another.
use native.Mathlib.Omega.{arith}
use mir.Facts.{sfits_widen}
use Rattle.field.proofs.Casts.{widened}
use Rattle.lines.specs.Lines.{left_line}
use Rattle.lines.proofs.Digits.{length_decimal, length_short, length_read}
use Rattle.lines.proofs.Joining.{line_of_four}
use Rattle.lines.proofs.lines.left_line.Goals as goal

pub put_named-at-requires : goal.put_named-at-requires
put_named-at-requires c = omega (arith, length_decimal)

pub put_named_signed-at-requires : goal.put_named_signed-at-requires
put_named_signed-at-requires c = omega (arith, length_decimal)

pub put_named-at-requires-2 : goal.put_named-at-requires-2
put_named-at-requires-2 c = omega (arith, length_decimal c.args.index (omega arith), length_read (widened c.ranges.count) (sfits_widen tt c.ranges.count), length_short c.args.idsum (omega arith))

pub put-requires : goal.put-requires
put-requires c = omega (arith, length_decimal c.args.index (omega arith), length_read (widened c.ranges.count) (sfits_widen tt c.ranges.count), length_short c.args.idsum (omega arith))

pub returns : goal.returns
unfolding left_line
returns c =
    let count = rw (widened c.ranges.count) at c.put_named_signed-at.ensures in
    line_of_four (omega arith) c.put_named-at.ensures count c.put_named-at-2.ensures c.put.ensures
