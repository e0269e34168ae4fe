-- `files::writing::put_bucket` meets its contract.
use mathlib.Core.Path.{◌≡◌, refl}
use mathlib.Core.List.{◌∷◌, ◌++◌}
use Rattle.std.proofs.Common.{rules}
use native.Mathlib.Omega.{arith}
use Rattle.std.proofs.lemmas.Grind.{common_steps}
use Rattle.files.specs.Bytes.{word_bytes, count_word, overwritten}
use Rattle.files.specs.Records.{bucket_kind}
use Rattle.files.specs.Layout.{bucket_bytes}
use Rattle.files.specs.Writing.{written}
use Rattle.files.proofs.Overwriting.{overwritten_store, overwritten_then, overwritten_next}
use Rattle.files.proofs.writing.put_bucket.Goals as goal

pub returns-then-not-fits : goal.returns-then-not-fits
unfolding written bucket_bytes word_bytes
returns-then-not-fits c = search rules

pub returns : goal.returns
unfolding written bucket_bytes word_bytes
returns c =
    let a = c.args in
    let two : c.put_word-2.new.out ≡ overwritten a.out.now a.at (bucket_kind ∷ word_bytes a.k ++ word_bytes (count_word a.c)) = grind (arith, common_steps, overwritten_store, overwritten_then) in
    rw (← c.if-not-fits.ensures) (overwritten_next _ _ _ _ _ two c.put_word-3.ensures (grind arith) refl)
