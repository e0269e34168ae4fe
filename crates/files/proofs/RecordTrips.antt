-- Records there and back: where they stand, what was written and is read, what was read and is written, and the end.
use mathlib.Core.Path.{◌≡◌, sym, ap, ◌∙◌}
use mathlib.Core.Bool.{true, false, not}
use mathlib.Core.List.{List, ◌∷◌, ◌++◌}
use Prim.Native.Nat.{ℕ, suc, ◌+◌, ◌≤◌, ◌<◌}
use native.Mathlib.Omega.{arith}
use borrow.Author.Tests.{ltb-false, eqb-true, not-false}
use Rattle.std.proofs.Common.{rules}
use Rattle.std.proofs.lemmas.Grind.{common_steps}
use lib.Dec.{eqb, ltb}
use lib.ListN.{get_or, length, take, drop, length-drop}
use lib.Seq.{take_all}
use Rattle.params.specs.declared.answers.Refusal.TheVariants.{Form}
use Rattle.params.proofs.Judging.{refuse_done}
use Rattle.files.specs.Bytes.{word, word_bytes}
use Rattle.files.specs.Records.{body_length, record_at, is_kind, offset_of, end_kind, end_length}
use Rattle.files.specs.Layout.{end_bytes}
use Rattle.files.specs.Turns.{end_answer}
use Rattle.files.specs.Fields.{records_field}
use Rattle.files.proofs.Standing.{kind_stands, kind_ends}
use Rattle.files.proofs.RoundTrips.{word_after, word_bytes_lem}
use Rattle.params.specs.Answers.{Done}

-- a record stands where its kind byte and as many bytes of body as the kind asks for do, and only there
pub record_whole : (bs : List ℕ) (at k : ℕ) → get_or bs at 0 ≡ k → 0 < body_length k → at + 1 + body_length k ≤ length bs → is_kind k (record_at bs at) ≡ true
unfolding record_at
record_whole bs at k e p h = search rules

pub not_kind : (bs : List ℕ) (at k : ℕ) → (get_or bs at 0 ≡ k → ⊥) → is_kind k (record_at bs at) ≡ false
unfolding record_at
not_kind bs at k n = search rules

-- a record that was written after other bytes, by its kind and by the numbers in it
module _ (bs xs body ys : List ℕ) (at k : ℕ) (form : bs ≡ xs ++ (k ∷ body ++ ys)) (before : length xs ≡ at) where
  pub kind_written : length body ≡ body_length k → 0 < body_length k → is_kind k (record_at bs at) ≡ true
  kind_written e p = grind (arith, common_steps, record_whole)

  pub word_written : (i : ℕ) → word bs (at + i) ≡ word (k ∷ body ++ ys) i
  word_written i = ap (λ (zs : List ℕ). word zs (at + i)) form ∙ word_after xs (k ∷ body ++ ys) at i before

-- a record that was read is written as it stands, if its body is
pub record_read : (bs : List ℕ) (at k : ℕ) (body : List ℕ) → is_kind k (record_at bs at) ≡ true → body ≡ take (body_length k) (drop (at + 1) bs) → k ∷ body ≡ take (suc (body_length k)) (drop at bs)
record_read bs at k body h e = grind (arith, common_steps, kind_stands)

-- the end
pub end_written : (xs : List ℕ) (at n : ℕ) → length xs ≡ at → n < 4294967296 → end_answer (xs ++ end_bytes n) at n ≡ Done
unfolding end_answer end_bytes word_bytes record_at word
end_written xs at n e h = grind (arith, common_steps)

pub end_read : (bs : List ℕ) (at n : ℕ) → ((k : ℕ) → get_or bs k 0 < 256) → end_answer bs at n ≡ Done → (at + end_length ≤ length bs) × (end_bytes n ≡ drop at bs)
unfolding end_answer end_bytes
end_read bs at n small e =
    let h = refuse_done (not (is_kind end_kind (record_at bs at))) Form (offset_of bs at) _ e in
    let k = refuse_done (not (eqb (word bs (at + records_field)) n)) Form at _ h.1 in
    let l = refuse_done (ltb (at + end_length) (length bs)) Form (at + end_length) Done k.1 in
    let kind : is_kind end_kind (record_at bs at) ≡ true = not-false _ h.0 in
    let long = kind_ends end_kind bs at kind in
    let said : word bs (at + records_field) ≡ n = eqb-true _ _ (not-false _ k.0) in
    let last : length bs ≤ at + end_length = ltb-false (at + end_length) (length bs) l.0 in
    let short : length (drop at bs) ≤ end_length = rw length-drop (omega arith) in
    (omega arith, ap (λ (n : ℕ). end_kind ∷ word_bytes n) (sym said) ∙ record_read bs at end_kind _ kind (word_bytes_lem bs small (at + records_field) (omega arith)) ∙ take_all end_length (drop at bs) short)
