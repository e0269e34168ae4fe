-- Bytes written over others: one store, bytes after bytes, what stays as long as it was, where there is room for a record, a whole file, and what a writer leaves.
use mathlib.Core.Path.{◌≡◌, refl, sym, ap, ap₂, ◌∙◌}
use mathlib.Core.Bool.{true, cond}
use mathlib.Core.List.{List, [], ◌∷◌, ◌++◌, append_assoc}
use Prim.Native.Nat.{ℕ, ◌+◌, ◌≤◌, ◌<◌}
use Rattle.std.proofs.Common.{rules}
use Rattle.std.proofs.lemmas.Grind.{common_steps}
use native.Mathlib.Omega.{arith}
use borrow.Rule.Slice.PartMut.{put_mid}
use lib.ListN.{length, take, drop, set, length-append}
use lib.Seq.{sets, sets-eq, length-take-le, take_at, take-append_seam, drop-append-add, drop-drop}
use Rattle.params.specs.declared.params.Params.{Params}
use Rattle.params.specs.Params.{good_params}
use Rattle.params.specs.Answers.{kept, Answer, Done, given}
use Rattle.files.specs.Bytes.{word_bytes, overwritten}
use Rattle.files.specs.Layout.{head_bytes, end_bytes}
use Rattle.files.specs.Writing.{written}
use Rattle.files.specs.Records.{end_length}
use Rattle.files.specs.Heads.{head_length_of}
use Rattle.files.proofs.Profiles.{length_head_bytes}
use Rattle.std.specs.Prelude.{Ok}

-- how long an end is
pub length_end_bytes : (n : ℕ) → length (end_bytes n) ≡ end_length
unfolding end_bytes word_bytes
length_end_bytes n = refl

-- nothing is written
pub overwritten_none : (xs : List ℕ) (at : ℕ) → xs ≡ overwritten xs at []
unfolding overwritten
overwritten_none xs at = grind (arith, common_steps)

-- bytes are stored one by one, or just one
pub overwritten_stores : (xs ys : List ℕ) (at : ℕ) → at + length ys ≤ length xs → sets xs at ys ≡ overwritten xs at ys
unfolding overwritten
overwritten_stores xs ys at h = grind (arith, common_steps, sets-eq)

pub overwritten_store : (xs : List ℕ) (at b : ℕ) → at < length xs → set xs at b ≡ overwritten xs at (b ∷ [])
overwritten_store xs at b h = overwritten_stores xs (b ∷ []) at (omega arith)

-- or into a part of the output that is as long as they are
pub overwritten_part : (xs ys zs : List ℕ) (at k : ℕ) → zs ≡ ys → k ≡ length ys → put_mid at k xs zs ≡ overwritten xs at ys
unfolding overwritten
overwritten_part xs ys zs at k e l = rw (e, l, drop-drop) refl

-- what lies before, and what is written, are as long as the offset where they end
length_up_to : (xs ys : List ℕ) (at : ℕ) → at ≤ length xs → length (take at xs ++ ys) ≡ at + length ys
length_up_to xs ys at h = rw (length-append, length-take-le)

-- what is written right after what was written
pub overwritten_then : (xs ys zs : List ℕ) (at next : ℕ) → at ≤ length xs → next ≡ at + length ys → overwritten (overwritten xs at ys) next zs ≡ overwritten xs at (ys ++ zs)
unfolding overwritten
overwritten_then xs ys zs at next h e =
    let before : List ℕ = take at xs ++ ys in
    let after : List ℕ = drop (at + length ys) xs in
    let long : length before ≡ next = length_up_to xs ys at h ∙ sym e in
    let end : at + length ys + length zs ≡ at + length (ys ++ zs) = omega (arith, length-append ys zs) in
    let left = ap (λ n. drop (n + length zs) (before ++ after)) (sym long) ∙ drop-append-add before after (length zs) ∙ drop-drop (length zs) (at + length ys) xs ∙ ap (λ n. drop n xs) end in
    ap (λ l. take next l ++ (zs ++ drop (next + length zs) l)) (sym (append_assoc (take at xs) ys after))
    ∙ ap₂ (λ l r. l ++ (zs ++ r)) (take_at before after next long) left
    ∙ simp append_assoc

-- the same, where what is held before and after are known by equations
pub overwritten_next : (xs ys zs : List ℕ) (at next : ℕ) {now last : List ℕ} → now ≡ overwritten xs at ys → last ≡ overwritten now next zs → at ≤ length xs → next ≡ at + length ys → last ≡ overwritten xs at (ys ++ zs)
overwritten_next xs ys zs at next e f h l = grind (arith, overwritten_then)

-- the output stays as long as it was
pub length_overwritten : (xs ys : List ℕ) (at : ℕ) → at + length ys ≤ length xs → length (overwritten xs at ys) ≡ length xs
unfolding overwritten
length_overwritten xs ys at h = grind (arith, common_steps)

-- a record for which there is room
pub written_whole : (xs ys : List ℕ) (at : ℕ) → at + length ys ≤ length xs → written xs at ys ≡ overwritten xs at ys
unfolding written
written_whole xs ys at h = search rules

-- a turn of a loop that writes record after record: `goal` is what the output holds once `rest` is written too
pub written_next : (xs ys rest goal : List ℕ) (at next : ℕ) {last : List ℕ} → overwritten xs at (ys ++ rest) ≡ goal → last ≡ written xs at ys → at + length ys ≤ length xs → next ≡ at + length ys
    → overwritten last next rest ≡ goal
written_next xs ys rest goal at next e w h l = grind (arith, written_whole, overwritten_then)

-- a file: a head, records, an end
pub length_file : (P : Params) (records : List ℕ) (n : ℕ) → length (head_bytes P ++ (records ++ end_bytes n)) ≡ head_length_of P + length records + end_length
length_file P records n = grind (arith, common_steps, length_head_bytes, length_end_bytes)

pub overwritten_file : (P : Params) (out records : List ℕ) (n start at : ℕ) {headed full last : List ℕ} → good_params P ≡ true → start ≡ head_length_of P → at ≡ start + length records → at + end_length ≤ length out
    → headed ≡ cond (good_params P) (written out 0 (head_bytes P)) out → full ≡ overwritten headed start records → last ≡ written full at (end_bytes n)
    → last ≡ overwritten out 0 (head_bytes P ++ (records ++ end_bytes n))
overwritten_file P out records n start at good s e h a b c = search (rules, length-append, length_end_bytes, length_head_bytes, length_overwritten, overwritten_then, written_whole)

-- a writer whose answer is a length was not refused, and the file is the front of its output
pub written_front : (a : Answer) (out file : List ℕ) {out' : List ℕ} {n : ℕ} → Ok n ≡ given a (length file) → out' ≡ kept a out (overwritten out 0 file) → (a ≡ Done) × (take n out' ≡ file)
unfolding kept overwritten
written_front a out file e q = search (rules, take-append_seam)
