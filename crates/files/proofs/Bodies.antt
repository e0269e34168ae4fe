-- Bodies: their length is the one that their kind fixes, and what stands in a body stands in the file, after the kind byte.
use mathlib.Core.Path.{◌≡◌, ap, ap₂, ◌∙◌}
use mathlib.Core.Bool.{true, false, cond}
use mathlib.Core.List.{List, [], ◌∷◌}
use Prim.Native.Nat.{ℕ, ◌+◌, ◌≤◌, ◌<◌}
use native.Mathlib.Omega.{arith}
use Rattle.std.proofs.Common.{rules}
use Rattle.std.proofs.lemmas.Grind.{common_steps}
use lib.Dec.{eqb}
use lib.ListN.{get_or, length, take, drop, length-take}
use Rattle.params.specs.declared.params.Params.{Params}
use Rattle.files.specs.Bytes.{word, count_of}
use Rattle.files.specs.Records.{body_length, record_at, is_kind, body_of, body_start, body_from, body_of_kind, Body, head_kind, extended_head_kind, packets_kind, bucket_kind, end_kind}
use Rattle.files.specs.Heads.{params_in_body, params_in}
use Rattle.files.specs.Layout.{packets_in_body, packets_at, bucket_in_body, bucket_at, end_in_body, end_at}
use Rattle.files.specs.Fields.{flow_field, number_field, index_field, count_field, idsum_field, records_field, arrays_field, buckets_field, multiplier_field, offset_field, arrays_in_body, buckets_in_body, multiplier_in_body, offset_in_body}
use Rattle.files.proofs.Standing.{stands_whole, kind_ends}
use Rattle.std.specs.Prelude.{None, Some}

module _ (k : ℕ) (bs : List ℕ) (at : ℕ) where
  -- what stands in a body stands in the file, after the kind byte
  pub byte_in_body : (i : ℕ) → i < body_length k → get_or (body_from k bs at) i 0 ≡ get_or bs (at + (1 + i)) 0
  unfolding body_from
  byte_in_body i l = grind (arith, common_steps)

  pub word_in_body : (i : ℕ) → i + 4 ≤ body_length k → word (body_from k bs at) i ≡ word bs (at + (1 + i))
  unfolding word
  word_in_body i h = grind (arith, byte_in_body)

  -- where a whole record of the kind stands, its body is what stands there, and has as many bytes as the kind fixes
  from_long : at + 1 + body_length k ≤ length bs → length (body_from k bs at) ≡ body_length k
  unfolding body_from
  from_long h = grind (arith, common_steps)

  pub body_there : is_kind k (record_at bs at) ≡ true → body_of (record_at bs at) at bs ≡ body_from k bs at
  unfolding body_of body_from
  body_there e = search (rules, stands_whole)

  pub body_starts : is_kind k (record_at bs at) ≡ true → body_start (record_at bs at) at ≡ at + 1
  unfolding body_start
  body_starts e = grind arith

  pub body_length_lem : is_kind k (record_at bs at) ≡ true → length (body_of (record_at bs at) at bs) ≡ body_length k
  body_length_lem e = ap length (body_there e) ∙ from_long (kind_ends k bs at e)

  pub kind_body : is_kind k (record_at bs at) ≡ true → body_of_kind k bs at ≡ body_from k bs at
  unfolding body_of_kind
  kind_body e = rw e

  pub kind_body_none : is_kind k (record_at bs at) ≡ false → body_of_kind k bs at ≡ []
  unfolding body_of_kind
  kind_body_none e = rw e

  pub kind_body_length : is_kind k (record_at bs at) ≡ true → length (body_of_kind k bs at) ≡ body_length k
  kind_body_length e = ap length (kind_body e) ∙ from_long (kind_ends k bs at e)

  -- so that its length says whether such a record stands there
  pub body_decides : 0 < body_length k → eqb (length (body_of_kind k bs at)) (body_length k) ≡ is_kind k (record_at bs at)
  body_decides p = grind (arith, kind_body_none, kind_body_length)

-- h is what the contract of `body` gives
module _ (k : ℕ) {at : ℕ} {whole part : ℕ × ℕ} {bs xs : List ℕ} where
  pub body_long : Body at whole bs part xs → is_kind k (record_at bs at) ≡ true → length xs ≡ body_length k
  body_long h e = ap length h.content ∙ body_length_lem k bs at e

module _ (bs : List ℕ) (at : ℕ) where
  -- what a record at an offset says, by the bytes of the file
  pub packets_fields : packets_at bs at ≡ cond (is_kind packets_kind (record_at bs at)) (Some (word bs (at + flow_field), word bs (at + number_field))) None
  unfolding packets_at packets_in_body
  packets_fields = grind (arith, body_decides, kind_body, word_in_body)

  pub bucket_fields :
      bucket_at bs at
      ≡ cond (is_kind bucket_kind (record_at bs at)) (Some (word bs (at + index_field), count_of (word bs (at + count_field)), word bs (at + idsum_field))) None
  unfolding bucket_at bucket_in_body
  bucket_fields = grind (arith, body_decides, kind_body, word_in_body)

  pub end_fields : end_at bs at ≡ cond (is_kind end_kind (record_at bs at)) (Some (word bs (at + records_field))) None
  unfolding end_at end_in_body
  end_fields = grind (arith, body_decides, kind_body, word_in_body)

-- a number that would stand past the end of a body reads as 0
pub word_past : (xs : List ℕ) (i : ℕ) → length xs ≤ i → word xs i ≡ 0
unfolding word
word_past xs i h = grind (arith, common_steps)

-- the parameters in a head, by the bytes of the file; x and y are the fifth pair
abbrev pub params_fields : List ℕ → ℕ → ℕ → Params
params_fields bs x y =
    record {
      d = get_or bs arrays_field 0;
      m = word bs buckets_field;
      a = word bs (multiplier_field 0) ∷ word bs (multiplier_field 1) ∷ word bs (multiplier_field 2) ∷ word bs (multiplier_field 3) ∷ [];
      b = word bs (offset_field 0) ∷ word bs (offset_field 1) ∷ word bs (offset_field 2) ∷ word bs (offset_field 3) ∷ [];
      a5 = x;
      b5 = y;
    }

module _ (bs : List ℕ) where
  four_fields : (k : ℕ) → body_length head_kind ≤ body_length k
      → params_in_body (body_from k bs 0) ≡ params_fields bs (word (body_from k bs 0) (multiplier_in_body 4)) (word (body_from k bs 0) (offset_in_body 4))
  unfolding params_in_body
  four_fields k l = search (rules, byte_in_body, word_in_body)

  -- a head of kind 1 has no fifth pair, one of kind 10 has
  plain_past : (i : ℕ) → body_length head_kind ≤ i → word (body_from head_kind bs 0) i ≡ 0
  unfolding body_from
  plain_past i l = word_past (take (body_length head_kind) (drop 1 bs)) i (omega (arith, length-take (body_length head_kind) (drop 1 bs)))

  pub plain_fields : get_or bs 0 0 ≡ head_kind → params_in bs ≡ params_fields bs 0 0
  unfolding params_in
  plain_fields e = search (rules, four_fields, plain_past)

  pub extended_fields : get_or bs 0 0 ≡ extended_head_kind → params_in bs ≡ params_fields bs (word bs (multiplier_field 4)) (word bs (offset_field 4))
  unfolding params_in
  extended_fields e = search (rules, four_fields, word_in_body)
