-- `lines::lines::end_line` meets its contract: the words, the pops, the two sums and the newline, one after another.
use native.Mathlib.Omega.{arith}
use Rattle.lines.specs.Lines.{end_line}
use Rattle.lines.proofs.Digits.{length_short, length_decimal}
use Rattle.lines.proofs.Joining.{then, line_of_five, length_ending}
use Rattle.lines.proofs.lines.end_line.Goals as goal

pub put_named-at-requires : goal.put_named-at-requires
put_named-at-requires c = omega (arith, length_ending, length_short, length_decimal)

pub put_named-at-requires-2 : goal.put_named-at-requires-2
put_named-at-requires-2 c = omega (arith, length_ending, length_short, length_decimal)

pub put_named-at-requires-3 : goal.put_named-at-requires-3
put_named-at-requires-3 c = omega (arith, length_ending, length_short, length_decimal)

pub put-requires : goal.put-requires
put-requires c = omega (arith, length_ending, length_short, length_decimal)

pub returns : goal.returns
unfolding end_line
returns c =
    let ending = then (omega arith) c.put-at.ensures c.put_ending-at.ensures in
    let pops = c.put_named-at.ensures in
    let lost = c.put_named-at-2.ensures in
    let extra = c.put_named-at-3.ensures in
    line_of_five (omega arith) ending pops lost extra c.put.ensures
