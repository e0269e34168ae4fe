-- `lines::text::put_named_signed` meets its contract: the number right after the word.
use native.Mathlib.Omega.{arith}
use mir.Facts.{to_z-of_z}
use Rattle.lines.proofs.Joining.{then}
use Rattle.lines.proofs.text.put_named_signed.Goals as goal

pub returns : goal.returns
returns c = then (omega arith) c.put-next.ensures (rw (to_z-of_z c.ranges.z) at c.put_signed.ensures)
