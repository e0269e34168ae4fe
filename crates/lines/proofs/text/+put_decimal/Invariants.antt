-- `lines::text::put_decimal` meets its contract: the digits of the tenth, by a call of itself, and then the last one. The measure is the number.
use Rattle.lines.proofs.text.+put_decimal.Given as goal

abbrev pub decreases-put_decimal : goal.decreases-put_decimal
decreases-put_decimal l = l.n
