-- Bucket records there and back, and the records of a stretch of buckets.
use mathlib.Core.Path.{◌≡◌, refl, sym, ap, ◌∙◌}
use mathlib.Core.Bool.{true, cond}
use mathlib.Core.List.{List, [], ◌++◌, append_assoc}
use Prim.Native.Nat.{ℕ, zero, suc, ◌+◌, ◌≤◌, ◌<◌}
use native.Mathlib.Nat.{zero-add, suc-add}
use native.Mathlib.Omega.{arith}
use borrow.Author.Tests.{eqb-true}
use lib.Dec.{eqb}
use lib.IntN.{ℤ, pos}
use lib.ListN.{get_or, length, take, drop}
use mir.Syntax.{w32}
use mir.Val.{SFits, to_z}
use mir.ValLaws.{to_z-of_z, of_z-to_z, of_z_fits}
use Rattle.sketch.specs.Sketch.{Sketch, count_in, idsum_in}
use Rattle.params.proofs.Searches.{and_true}
use Rattle.buckets.specs.Buckets.{is_zero}
use Rattle.buckets.proofs.Zeros.{zero_is}
use Rattle.files.specs.Bytes.{word, word_bytes, count_word, count_of}
use Rattle.files.specs.Records.{record_at, is_kind, bucket_kind, bucket_length}
use Rattle.files.specs.Layout.{bucket_bytes}
use Rattle.files.specs.Fields.{index_field, count_field, idsum_field}
use Rattle.files.proofs.Standing.{kind_ends}
use Rattle.files.proofs.RoundTrips.{digits_make, word_small, word_then, two_words}
use Rattle.files.proofs.RecordTrips.{kind_written, word_written, record_read}
use Rattle.buckets.specs.Buckets.{all_zero}
use Rattle.sketchfile.specs.Writing.{zero_at, buckets_bytes}

-- a whole bucket record at an offset, by what it says
pub record Bucketed (bs : List ℕ) (at k : ℕ) (c : ℤ) (s : ℕ) : Type 0 where
  pub kind : is_kind bucket_kind (record_at bs at) ≡ true
  pub index : word bs (at + index_field) ≡ k
  pub count : count_of (word bs (at + count_field)) ≡ c
  pub idsum : word bs (at + idsum_field) ≡ s

pub bucket_written : (bs xs ys : List ℕ) (at k : ℕ) (c : ℤ) (s : ℕ) → bs ≡ xs ++ (bucket_bytes k c s ++ ys) → length xs ≡ at → k < 4294967296 → SFits w32 c → s < 4294967296
    → Bucketed bs at k c s
unfolding bucket_bytes word_bytes word
bucket_written bs xs ys at k c s form e h f l =
    let body = word_bytes k ++ (word_bytes (count_word c) ++ word_bytes s) in
    let read = word_written bs xs body ys at bucket_kind form e in
    record {
      kind = kind_written bs xs body ys at bucket_kind form e refl (omega arith);
      index = read index_field ∙ digits_make k h;
      count = ap (to_z w32) (read count_field ∙ digits_make (count_word c) (of_z_fits w32 c f).fits) ∙ to_z-of_z w32 c f;
      idsum = read idsum_field ∙ digits_make s l;
    }

pub bucket_read : (bs : List ℕ) (at : ℕ) → ((k : ℕ) → get_or bs k 0 < 256) → is_kind bucket_kind (record_at bs at) ≡ true
    → bucket_bytes (word bs (at + index_field)) (count_of (word bs (at + count_field))) (word bs (at + idsum_field)) ≡ take bucket_length (drop at bs)
unfolding bucket_bytes
bucket_read bs at small h =
    let long = kind_ends bucket_kind bs at h in
    let count = of_z-to_z w32 (word bs (at + count_field)) (record { fits = word_small bs small (at + count_field) }) in
    let both = ap (λ (n : ℕ). word_bytes n ++ word_bytes (word bs (at + idsum_field))) count ∙ two_words bs small (at + count_field) (at + idsum_field) (omega arith) (omega arith) in
    record_read bs at bucket_kind _ h (ap (λ (xs : List ℕ). word_bytes (word bs (at + index_field)) ++ xs) both ∙ word_then bs small (at + index_field) (at + count_field) 8 (omega arith) (omega arith))

-- a bucket that is all zero, by its test
pub all_zero_lem : (c : ℤ) (s : ℕ) → all_zero c s ≡ true → (c ≡ pos 0) × (s ≡ 0)
all_zero_lem c s e = let h = and_true (is_zero c) (eqb s 0) e in (zero_is c h.0, eqb-true s 0 h.1)

-- the records of n buckets from k on
module _ (S : Sketch) where
  -- none for a stretch of zeros
  pub no_records : (k n : ℕ) → ((x : ℕ) → k ≤ x → zero_at S x ≡ true) → buckets_bytes k n S ≡ []
  unfolding buckets_bytes
  no_records k zero h = refl
  no_records k (suc n) h = rw (h k (omega arith)) (no_records (suc k) n (λ x l. h x (omega arith)))

  pub buckets_split : (k n m : ℕ) → buckets_bytes k (n + m) S ≡ buckets_bytes k n S ++ buckets_bytes (k + n) m S
  unfolding buckets_bytes
  buckets_split k zero m =
      let same : k ≡ k + 0 = omega arith in
      ap (λ (i : ℕ). buckets_bytes k i S) (zero-add m) ∙ ap (λ (i : ℕ). buckets_bytes i m S) same
  buckets_split k (suc n) m =
      let same : suc k + n ≡ k + suc n = omega arith in
      let here = cond (zero_at S k) [] (bucket_bytes k (count_in S k) (idsum_in S k)) in
      ap (λ (i : ℕ). buckets_bytes k i S) (suc-add n m)
      ∙ ap (λ (xs : List ℕ). here ++ xs) (buckets_split (suc k) n m ∙ ap (λ (i : ℕ). buckets_bytes (suc k) n S ++ buckets_bytes i m S) same)
      ∙ sym (append_assoc here (buckets_bytes (suc k) n S) (buckets_bytes (k + suc n) m S))

-- they tell nothing of the buckets before and after
pub buckets_same : (S T : Sketch) (k n : ℕ) → ((x : ℕ) → k ≤ x → x < k + n → (count_in S x ≡ count_in T x) × (idsum_in S x ≡ idsum_in T x)) → buckets_bytes k n S ≡ buckets_bytes k n T
unfolding buckets_bytes
buckets_same S T k zero h = refl
buckets_same S T k (suc n) h =
    let e = h k (omega arith) (omega arith) in
    rw (e.0, e.1, buckets_same S T (suc k) n (λ x l m. h x (omega arith) (omega arith)))
