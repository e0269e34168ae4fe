-- `files::writing::put_arrays` meets its contract: two bytes, then nine words.
use mathlib.Core.Path.{refl}
use mathlib.Core.List.{[], ◌∷◌}
use native.Mathlib.Omega.{arith}
use Rattle.params.proofs.Rules.{good_dimensions_lem}
use Rattle.files.specs.Bytes.{word_bytes}
use Rattle.files.specs.Layout.{arrays_bytes}
use Rattle.files.proofs.Overwriting.{overwritten_stores, overwritten_next}
use Rattle.files.proofs.writing.put_arrays.Goals as goal

pub overflow_cast-out : goal.overflow_cast-out
overflow_cast-out c = omega (arith, good_dimensions_lem _ c.requires.0)

pub overflow_cast-m : goal.overflow_cast-m
overflow_cast-m c = omega (arith, good_dimensions_lem _ c.requires.0)

pub returns : goal.returns
unfolding arrays_bytes word_bytes
returns c =
    let room = c.requires.1 in
    let start = overwritten_next _ _ _ _ _ (overwritten_stores c.args.out.now (c.args.kind ∷ c.args.p.d ∷ []) 0 (omega arith)) c.put_word.ensures (omega arith) refl in
    let one = overwritten_next _ _ _ _ _ start c.put_pair.ensures (omega arith) refl in
    let two = overwritten_next _ _ _ _ _ one c.put_pair-2.ensures (omega arith) refl in
    let three = overwritten_next _ _ _ _ _ two c.put_pair-3.ensures (omega arith) refl in
    overwritten_next _ _ _ _ _ three c.put_pair-4.ensures (omega arith) refl
