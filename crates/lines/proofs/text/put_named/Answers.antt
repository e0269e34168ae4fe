-- `lines::text::put_named` meets its contract: the number right after the word.
use native.Mathlib.Omega.{arith}
use Rattle.lines.proofs.Joining.{then}
use Rattle.lines.proofs.text.put_named.Goals as goal

pub returns : goal.returns
returns c = then (omega arith) c.put-next.ensures c.put_decimal.ensures
