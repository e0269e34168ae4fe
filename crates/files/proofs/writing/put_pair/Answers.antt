-- `files::writing::put_pair` meets its contract.
use native.Mathlib.Omega.{arith}
use Rattle.std.proofs.lemmas.Grind.{common_steps}
use Rattle.files.specs.Bytes.{word_bytes}
use Rattle.files.proofs.Overwriting.{overwritten_then}
use Rattle.files.proofs.writing.put_pair.Goals as goal

pub returns : goal.returns
unfolding word_bytes
returns c = grind (arith, common_steps, overwritten_then)
