-- `files::writing::put_end` meets its contract.
use Rattle.std.proofs.Common.{rules}
use native.Mathlib.Omega.{arith}
use Rattle.std.proofs.lemmas.Grind.{common_steps}
use Rattle.files.specs.Bytes.{word_bytes}
use Rattle.files.specs.Layout.{end_bytes}
use Rattle.files.specs.Writing.{written}
use Rattle.files.proofs.Overwriting.{overwritten_store, overwritten_then}
use Rattle.files.proofs.writing.put_end.Goals as goal

pub returns-then-not-fits : goal.returns-then-not-fits
unfolding written end_bytes word_bytes
returns-then-not-fits c = search rules

pub returns : goal.returns
unfolding written end_bytes word_bytes
returns c = grind (arith, common_steps, overwritten_store, overwritten_then)
