-- Heads there and back: the head that is written is read as the parameters, and a head that was read is the one that is written.
use mathlib.Core.Path.{◌≡◌, refl, sym, ap, ap₂, ◌∙◌}
use mathlib.Core.Bool.{Bool, true, false, ◌&&◌}
use mathlib.Core.List.{List, [], ◌∷◌, ◌++◌, append_assoc, append-nil}
use Prim.Native.Nat.{ℕ, suc, ◌+◌, ◌≤◌, ◌<◌}
use Rattle.std.proofs.lemmas.Grind.{common_steps}
use native.Mathlib.Omega.{arith}
use Rattle.std.proofs.Common.{rules}
use lib.Dec.{ltb}
use lib.ListN.{get_or, length, take, drop}
use Rattle.params.specs.declared.params.Params.{Params}
use Rattle.params.specs.Lists.{below}
use Rattle.params.specs.Answers.{first, Done}
use Rattle.params.specs.Params.{prime, fingerprinted, pair_ok, pair_at, twins, good_dimensions, good_params, same_pair, same_params, lengths_answer, lent_answer}
use Rattle.params.proofs.Searches.{and_true, below_at}
use Rattle.params.proofs.Rules.{good_dimensions_lem, good_fifth}
use Rattle.params.proofs.SameParams.{same_itself, dimensions_same, fifth_same, pair_same}
use Rattle.files.specs.Bytes.{word, word_bytes}
use Rattle.files.specs.Records.{body_length, record_length, head_length_in, record_at, is_kind, is_head, head_kind, extended_head_kind}
use Rattle.files.specs.Heads.{head_kind_of, head_length_of, params_in, good_head, head_answer, head_of, parameters_answer}
use Rattle.files.specs.Layout.{arrays_bytes, head_bytes}
use Rattle.files.specs.Fields.{arrays_field, buckets_field, multiplier_field, offset_field}
use Rattle.files.proofs.HeadStages.{good_head_lem, rules_kept, good_parts, opening_answer}
use Rattle.files.proofs.Profiles.{extended_kind, extended_length, extended_bytes, plain_kind, plain_length, plain_bytes, length_head_bytes, kind_long}
use Rattle.files.proofs.Standing.{kind_ends, head_is_kind}
use Rattle.files.proofs.Bodies.{params_fields, plain_fields, extended_fields}
use Rattle.files.proofs.RoundTrips.{digits_make, byte_then, word_then, two_words}
use Rattle.files.proofs.RecordTrips.{record_read}
use Rattle.std.specs.Prelude.{Ok}

-- the numbers of good parameters have four bytes
pair_small : (used : Bool) (a b : ℕ) → pair_ok prime used a b ≡ true → (a < 4294967296) × (b < 4294967296)
pair_small used a b e = grind arith

good_pair : (P : Params) (i : ℕ) → good_params P ≡ true → i < 4 → (get_or P.a i 0 < 4294967296) × (get_or P.b i 0 < 4294967296)
unfolding good_params pair_at
good_pair P i g l =
    let h = (and_true (good_dimensions P) _ (and_true (good_dimensions P && below 4 (pair_at prime P.d P.a P.b)) _ (and_true _ _ g).0).0).1 in
    pair_small (ltb i P.d) (get_or P.a i 0) (get_or P.b i 0) (below_at 4 i (pair_at prime P.d P.a P.b) h l)

-- in the plain profile there is no fifth pair
no_fifth : (P : Params) → good_params P ≡ true → fingerprinted P ≡ false → (P.a5 ≡ 0) × (P.b5 ≡ 0)
unfolding good_params
no_fifth P g plain = grind arith

-- all that a head can say of parameters: their first four pairs, and the fifth
abbrev five_pairs : Params → ℕ → ℕ → Params
five_pairs P x y =
    record {
      d = P.d;
      m = P.m;
      a = get_or P.a 0 0 ∷ get_or P.a 1 0 ∷ get_or P.a 2 0 ∷ get_or P.a 3 0 ∷ [];
      b = get_or P.b 0 0 ∷ get_or P.b 1 0 ∷ get_or P.b 2 0 ∷ get_or P.b 3 0 ∷ [];
      a5 = x;
      b5 = y;
    }

abbrev pub said_of : Params → Params
said_of P = five_pairs P P.a5 P.b5

said_good : (P : Params) → good_params (said_of P) ≡ good_params P
unfolding good_params good_dimensions below pair_at twins
said_good P = refl

said_same : (P : Params) → same_params P (said_of P) ≡ true
unfolding same_params same_pair below
said_same P = search rules

said_alike : (P Q : Params) → same_params Q (said_of P) ≡ same_params Q P
unfolding same_params same_pair below
said_alike P Q = refl

-- the numbers in a head of whatever kind, zs being what follows the fourth pair
module _ (P : Params) (good : good_params P ≡ true) (k : ℕ) where
  four_written : (zs : List ℕ) (x y : ℕ) → params_fields (arrays_bytes k P ++ zs) x y ≡ five_pairs P x y
  unfolding arrays_bytes word word_bytes
  four_written zs x y = search rules

  fifth_written : (ys : List ℕ) → let zs : List ℕ = arrays_bytes k P ++ ((word_bytes P.a5 ++ word_bytes P.b5) ++ ys) in
      (word zs (multiplier_field 4) ≡ P.a5) × (word zs (offset_field 4) ≡ P.b5)
  unfolding arrays_bytes word word_bytes
  fifth_written ys = search rules

-- a head that was written, and what follows it
module _ (P : Params) (ys : List ℕ) where
  -- its kind is the one that the profile asks for
  pub headed_kind : get_or (head_bytes P ++ ys) 0 0 ≡ head_kind_of P
  unfolding head_bytes arrays_bytes
  headed_kind = refl

  -- it is as long as the profile says, by its bytes and by its first byte
  pub headed_long : length (head_bytes P ++ ys) ≡ head_length_of P + length ys
  headed_long = grind (arith, common_steps, length_head_bytes)

  pub headed_length : head_length_in (head_bytes P ++ ys) ≡ head_length_of P
  headed_length = kind_long P (head_bytes P ++ ys) headed_kind

  headed : is_head (record_at (head_bytes P ++ ys) 0) ≡ true
  unfolding record_at head_bytes arrays_bytes word_bytes
  headed = search rules

  params_written : good_params P ≡ true → params_in (head_bytes P ++ ys) ≡ said_of P
  params_written g = go (fingerprinted P) refl
    where
      go : (b : Bool) → fingerprinted P ≡ b → params_in (head_bytes P ++ ys) ≡ said_of P
      go true e =
          let fifth = fifth_written P g (head_kind_of P) ys in
          let form : head_bytes P ++ ys ≡ arrays_bytes (head_kind_of P) P ++ ((word_bytes P.a5 ++ word_bytes P.b5) ++ ys) = ap (λ (xs : List ℕ). xs ++ ys) (extended_bytes P e) ∙ append_assoc (arrays_bytes (head_kind_of P) P) _ ys in
          extended_fields (head_bytes P ++ ys) (headed_kind ∙ extended_kind P e)
          ∙ ap (λ (zs : List ℕ). params_fields zs (word zs (multiplier_field 4)) (word zs (offset_field 4))) form
          ∙ four_written P g (head_kind_of P) _ _ _
          ∙ ap₂ (five_pairs P) fifth.0 fifth.1
      go false e =
          let none = no_fifth P g e in
          plain_fields (head_bytes P ++ ys) (headed_kind ∙ plain_kind P e)
          ∙ ap (λ (xs : List ℕ). params_fields (xs ++ ys) 0 0) (plain_bytes P e)
          ∙ four_written P g (head_kind_of P) ys 0 0
          ∙ ap₂ (five_pairs P) (sym none.0) (sym none.1)

  good_written : good_params P ≡ true → good_head (head_bytes P ++ ys) ≡ true
  good_written g = search (rules, headed_kind, params_written, rules_kept, said_good)

  -- it is accepted, and read as the parameters
  pub head_written : good_params P ≡ true → head_of (head_bytes P ++ ys) ≡ Ok (said_of P)
  head_written g = sym (good_head_lem (head_bytes P ++ ys) headed (good_written g)) ∙ ap (λ Q. Ok Q) (params_written g)

  pub opening_written : (c s : ℕ) → good_params P ≡ true → opening_answer P (head_bytes P ++ ys) c s ≡ lengths_answer P c s
  unfolding parameters_answer first
  opening_written c s g = rw (headed, good_written g, params_written g, g, said_same P)

  -- parameters that are the same as those in the head are the same as those that were written
  pub same_written : (Q : Params) → good_params P ≡ true → same_params Q (params_in (head_bytes P ++ ys)) ≡ same_params Q P
  same_written Q g = rw (params_written g) (said_alike P Q)

-- the same parameters are of the same profile
pub same_kind : (P Q : Params) → same_params P Q ≡ true → head_kind_of Q ≡ head_kind_of P
unfolding same_params
same_kind P Q e = search rules

-- where the opening is not refused
pub record Opened (P : Params) (bs : List ℕ) (c s : ℕ) : Type 0 where
  pub head : is_head (record_at bs 0) ≡ true
  pub good : good_params P ≡ true
  pub file_good : good_head bs ≡ true
  pub same : same_params P (params_in bs) ≡ true
  pub lengths : lengths_answer P c s ≡ Done

-- the head is as long as the profile says
pub opened_length : {P : Params} {bs : List ℕ} {c s : ℕ} → Opened P bs c s → head_length_in bs ≡ head_length_of P
opened_length {P} {bs} o = kind_long P bs ((good_parts bs o.file_good).1 ∙ same_kind P (params_in bs) o.same)

-- where the parameters are not refused the lengths decide
pub opening_lent : (P : Params) (bs : List ℕ) (c s : ℕ) → parameters_answer P bs ≡ Done → lent_answer P c s ≡ opening_answer P bs c s
unfolding parameters_answer lent_answer first
opening_lent P bs c s e = search rules

pub opening_done : (P : Params) (bs : List ℕ) (c s : ℕ) → opening_answer P bs c s ≡ Done → Opened P bs c s
unfolding parameters_answer first
opening_done P bs c s e = search rules

-- an accepted head is whole and good
pub head_accepted : (bs : List ℕ) → head_answer bs ≡ Done → (is_head (record_at bs 0) ≡ true) × (good_head bs ≡ true)
unfolding head_answer
head_accepted bs e = search rules

-- and as long as its profile says
pub accepted_length : (bs : List ℕ) → head_answer bs ≡ Done → head_length_in bs ≡ head_length_of (params_in bs)
accepted_length bs e = kind_long (params_in bs) bs (good_parts bs (head_accepted bs e).1).1

-- the head that was read is the one that is written
module _ (bs : List ℕ) (small : (k : ℕ) → get_or bs k 0 < 256) where
  pair_then : {a b : ℕ} {xs : List ℕ} (at n : ℕ) → at + 8 ≤ length bs → a ≡ word bs at → b ≡ word bs (at + 4) → xs ≡ take n (drop (at + 8) bs)
      → (word_bytes a ++ word_bytes b) ++ xs ≡ take (n + 8) (drop at bs)
  pair_then at n h p q r = grind (arith, common_steps, word_then bs small)

  -- a head of kind k, with n bytes after its fourth pair
  module _ (P : Params) (k n : ℕ) (h : is_kind k (record_at bs 0) ≡ true) (l : body_length k ≡ body_length head_kind + n) where
    arrays_read : (x y : ℕ) {zs : List ℕ} → same_params P (params_fields bs x y) ≡ true → zs ≡ take n (drop (multiplier_field 4) bs) → arrays_bytes k P ++ zs ≡ take (record_length k) bs
    unfolding arrays_bytes word_bytes
    arrays_read x y {zs} e q =
        let Q : Params = params_fields bs x y in
        let long : record_length head_kind ≤ length bs = omega (arith, kind_ends k bs 0 h) in
        let dimensions = dimensions_same P Q e in
        let p = pair_same P Q e 0 (omega arith) in
        let u = pair_same P Q e 1 (omega arith) in
        let r = pair_same P Q e 2 (omega arith) in
        let t = pair_same P Q e 3 (omega arith) in
        let fourth = pair_then (multiplier_field 3) n (omega arith) t.0 t.1 q in
        let third = pair_then (multiplier_field 2) (n + 8) (omega arith) r.0 r.1 fourth in
        let second = pair_then (multiplier_field 1) (n + 8 + 8) (omega arith) u.0 u.1 third in
        let pairs = pair_then (multiplier_field 0) (n + 8 + 8 + 8) (omega arith) p.0 p.1 second in
        let bytes : suc (4 + (n + 8 + 8 + 8 + 8)) ≡ body_length k = omega arith in
        record_read bs 0 k _ h
        (ap₂ {C = List ℕ} ◌∷◌ dimensions.0
        (ap₂ {C = List ℕ} (λ m xs. word_bytes m ++ xs) dimensions.1 pairs ∙ word_then bs small buckets_field (multiplier_field 0) (n + 8 + 8 + 8 + 8) (omega arith) refl)
        ∙ byte_then bs arrays_field buckets_field (4 + (n + 8 + 8 + 8 + 8)) (omega arith) refl
        ∙ ap (λ (j : ℕ). take j (drop arrays_field bs)) bytes)
        ∙ ap (λ (j : ℕ). take j bs) {x = suc (body_length k)} {y = record_length k} (omega arith)

  pub head_read : (P : Params) → is_head (record_at bs 0) ≡ true → good_head bs ≡ true → same_params P (params_in bs) ≡ true → head_bytes P ≡ take (head_length_of P) bs
  head_read P h g q = go (fingerprinted P) refl
    where
      kind : get_or bs 0 0 ≡ head_kind_of P
      kind = (good_parts bs g).1 ∙ same_kind P (params_in bs) q

      there : is_kind (head_kind_of P) (record_at bs 0) ≡ true
      there = ap (λ (k : ℕ). is_kind k (record_at bs 0)) (sym kind) ∙ head_is_kind bs 0 h

      go : (b : Bool) → fingerprinted P ≡ b → head_bytes P ≡ take (head_length_of P) bs
      go true e =
          let byte = kind ∙ extended_kind P e in
          let same : same_params P (params_fields bs (word bs (multiplier_field 4)) (word bs (offset_field 4))) ≡ true = ap (same_params P) (sym (extended_fields bs byte)) ∙ q in
          let fifth = fifth_same P (params_fields bs (word bs (multiplier_field 4)) (word bs (offset_field 4))) same in
          let long : record_length extended_head_kind ≤ length bs = omega (arith, kind_ends (head_kind_of P) bs 0 there, extended_length P e) in
          let pair : word_bytes P.a5 ++ word_bytes P.b5 ≡ take 8 (drop (multiplier_field 4) bs) =
          ap₂ {C = List ℕ} (λ a b. word_bytes a ++ word_bytes b) fifth.0 fifth.1 ∙ two_words bs small (multiplier_field 4) (offset_field 4) (omega arith) refl in
          extended_bytes P e ∙ arrays_read P (head_kind_of P) 8 there (omega (arith, extended_length P e)) _ _ same pair
      go false e =
          let byte = kind ∙ plain_kind P e in
          let same : same_params P (params_fields bs 0 0) ≡ true = ap (same_params P) (sym (plain_fields bs byte)) ∙ q in
          plain_bytes P e ∙ sym (append-nil (arrays_bytes (head_kind_of P) P)) ∙ arrays_read P (head_kind_of P) 0 there (omega (arith, plain_length P e)) 0 0 same refl

  -- and so the parameters of an accepted head are written as they stand
  pub accepted_written : head_answer bs ≡ Done → head_bytes (params_in bs) ≡ take (head_length_in bs) bs
  accepted_written e = search (rules, accepted_length, head_accepted, head_read, same_itself)
