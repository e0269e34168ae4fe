-- `lines::lines::refused_line` meets its contract: the words, the number, the byte and the newline, one after another.
use native.Mathlib.Omega.{arith}
use Rattle.lines.specs.Lines.{refused_line}
use Rattle.lines.proofs.Digits.{length_decimal}
use Rattle.lines.proofs.Joining.{line_of_three}
use Rattle.lines.proofs.lines.refused_line.Goals as goal

pub put_named-at-requires : goal.put_named-at-requires
put_named-at-requires c = omega (arith, length_decimal)

pub put_named-at-requires-2 : goal.put_named-at-requires-2
put_named-at-requires-2 c = omega (arith, length_decimal)

pub put-requires : goal.put-requires
put-requires c = omega (arith, length_decimal)

pub returns : goal.returns
unfolding refused_line
returns c =
    let refusal = rw c.number-number.ensures at c.put_named-at.ensures in
    line_of_three (omega arith) refusal c.put_named-at-2.ensures c.put.ensures
