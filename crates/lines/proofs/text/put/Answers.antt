-- `lines::text::put` meets its contract.
use Rattle.std.proofs.Common.{refl, arith}
use Rattle.files.proofs.Overwriting.{overwritten_part}
use Rattle.lines.proofs.text.put.Goals as goal

pub returns : goal.returns
returns c = record { next = refl; bytes = overwritten_part _ _ _ _ _ c.copy_from_slice.ensures.after (omega arith) }
