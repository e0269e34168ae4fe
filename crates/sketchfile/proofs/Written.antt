-- Sketch files written: the bucket records in turn, how many and how long they are, how long a file is, what is answered, and what holds where nothing is refused.
use mathlib.Core.Path.{◌≡◌, refl, ap}
use mathlib.Core.Bool.{Bool, true, false, not, cond}
use mathlib.Core.List.{[], ◌++◌}
use Prim.Native.Nat.{ℕ, zero, suc, ◌+◌, ◌*◌, ◌-◌, ◌≤◌, ◌<◌}
use native.Mathlib.Numerals.{add-one}
use native.Mathlib.Omega.{arith}
use borrow.Author.Tests.{ltb-false, not-false}
use lib.Dec.{ltb}
use lib.ListN.{length}
use Rattle.params.specs.declared.params.Params.{Params}
use Rattle.params.specs.declared.answers.Refusal.TheVariants.{Param, Length, Damage}
use Rattle.params.specs.Answers.{Done}
use Rattle.params.specs.Params.{size, good_params, lent_answer}
use Rattle.sketch.specs.Sketch.{Sketch, count_in, idsum_in, damaged_at}
use Rattle.params.proofs.Judging.{first_done, refuse_done, refuse_at_done}
use Rattle.params.proofs.Rules.{good_dimensions_lem, dimensions_small, lent_done}
use Rattle.files.specs.Bytes.{word_bytes}
use Rattle.files.specs.Layout.{bucket_bytes}
use Rattle.files.specs.Records.{bucket_length, end_length}
use Rattle.files.specs.Heads.{head_length_of}
use Rattle.files.proofs.Overwriting.{length_file}
use Rattle.sketchfile.specs.Writing.{zero_at, buckets_bytes, nonzero_from, sketch_bytes, sketch_write_answer}

module _ (S : Sketch) where
  pub left_few : (k n : ℕ) → nonzero_from k n S ≤ n
  unfolding nonzero_from
  left_few k zero = omega arith
  left_few k (suc n) = go (zero_at S k) (left_few (suc k) n)
    where
      go : (b : Bool) → nonzero_from (suc k) n S ≤ n → cond b 0 1 + nonzero_from (suc k) n S ≤ suc n
      go true h = omega arith
      go false h = omega arith

  pub buckets_long : (k n : ℕ) → length (buckets_bytes k n S) ≡ bucket_length * nonzero_from k n S
  unfolding buckets_bytes nonzero_from bucket_bytes word_bytes
  buckets_long k zero = refl
  buckets_long k (suc n) = go (zero_at S k) (buckets_long (suc k) n)
    where
      go : (b : Bool) → length (buckets_bytes (suc k) n S) ≡ bucket_length * nonzero_from (suc k) n S
          → length (cond b [] (bucket_bytes k (count_in S k) (idsum_in S k)) ++ buckets_bytes (suc k) n S) ≡ bucket_length * (cond b 0 1 + nonzero_from (suc k) n S)
      go true h = omega arith
      go false h = omega arith

  -- what is left of the records of n buckets, from bucket k on
  module _ (n : ℕ) where
    pub all_left : buckets_bytes 0 (n - 0) S ≡ buckets_bytes 0 n S
    all_left = let all : n - 0 ≡ n = omega arith in ap (λ (i : ℕ). buckets_bytes 0 i S) all

    pub none_left : (k : ℕ) → n ≤ k → buckets_bytes k (n - k) S ≡ []
    unfolding buckets_bytes
    none_left k h = let none : n - k ≡ 0 = omega arith in rw none

    next_left : (k : ℕ) → k < n
        → buckets_bytes k (n - k) S ≡ cond (zero_at S k) [] (bucket_bytes k (count_in S k) (idsum_in S k)) ++ buckets_bytes (k + 1) (n - (k + 1)) S
    unfolding buckets_bytes
    next_left k h = let some : n - k ≡ suc (n - (k + 1)) = omega arith in rw (some, add-one k)

    pub zero_next : (k : ℕ) → k < n → zero_at S k ≡ true → buckets_bytes k (n - k) S ≡ buckets_bytes (k + 1) (n - (k + 1)) S
    zero_next k h e = rw e at (next_left k h)

    pub nonzero_next : (k : ℕ) → k < n → zero_at S k ≡ false
        → buckets_bytes k (n - k) S ≡ bucket_bytes k (count_in S k) (idsum_in S k) ++ buckets_bytes (k + 1) (n - (k + 1)) S
    nonzero_next k h e = rw e at (next_left k h)

    -- and how many those records are
    pub none_counted : (k : ℕ) → n ≤ k → nonzero_from k (n - k) S ≡ 0
    none_counted k h = omega (arith, left_few k (n - k))

    pub next_counted : (k : ℕ) → k < n → nonzero_from k (n - k) S ≡ cond (zero_at S k) 0 1 + nonzero_from (k + 1) (n - (k + 1)) S
    unfolding nonzero_from
    next_counted k h = let some : n - k ≡ suc (n - (k + 1)) = omega arith in rw (some, add-one k)

pub sketch_long : (P : Params) (S : Sketch) → length (sketch_bytes P S) ≡ head_length_of P + bucket_length * nonzero_from 0 (size P) S + end_length
unfolding sketch_bytes
sketch_long P S = omega (arith, length_file P (buckets_bytes 0 (size P) S) (nonzero_from 0 (size P) S), buckets_long S 0 (size P))

-- a sketch whose writing is not refused
pub record Writable (P : Params) (S : Sketch) : Type 0 where
  pub good : good_params P ≡ true
  pub counts : length S.counts ≡ size P
  pub idsums : length S.idsums ≡ size P
  pub undamaged : (k : ℕ) → k < size P → damaged_at S k ≡ false

-- it has few enough buckets
pub writable_few : {P : Params} {S : Sketch} → Writable P S → length S.counts ≤ 65536
writable_few {P} able = omega (arith, able.counts, dimensions_small (good_dimensions_lem P able.good))

-- where nothing is refused it is one, and the output has room for its file
pub writing_done : (P : Params) (S : Sketch) (o : ℕ) → sketch_write_answer P S o ≡ Done → Writable P S × (head_length_of P + bucket_length * nonzero_from 0 (length S.counts) S + end_length ≤ o)
unfolding sketch_write_answer lent_answer
writing_done P S o e =
    let h = first_done (lent_answer P (length S.counts) (length S.idsums)) _ e in
    let k = refuse_done (ltb o (length (sketch_bytes P S))) Length 0 _ h.1 in
    let lengths = lent_done P _ _ h.0 in (
      record {
        good = not-false _ (refuse_done (not (good_params P)) Param 0 _ h.0).0;
        counts = lengths.1;
        idsums = lengths.2;
        undamaged = (refuse_at_done (size P) (damaged_at S) Damage Done k.1).0;
      },
      rw lengths.1 (omega (arith, ltb-false o (length (sketch_bytes P S)) k.0, sketch_long P S)),
    )
