-- A sketch filled from a file in rising index: its first records tell the buckets below some index, and the others are zero yet.
use mathlib.Core.Path.{◌≡◌, refl, sym, ap, ◌∙◌}
use mathlib.Core.Bool.{Bool, true, false, cond}
use mathlib.Core.List.{List, [], ◌++◌, append_assoc}
use Prim.Native.Nat.{ℕ, zero, suc, ◌+◌, ◌≤◌, ◌<◌}
use native.Mathlib.Decide.{ℕ_discrete, dec_lt}
use native.Mathlib.Omega.{arith}
use borrow.Author.Count.{below_more}
use lib.IntN.{pos}
use lib.ListN.{length, get_or, set, replicate, length-append, length-set, length-replicate, get_or-replicate, get_or-eq_default}
use lib.Seq.{ext_get_or, get_or-set_same, get_or-set_other}
use Rattle.params.specs.declared.params.Params.{Params}
use Rattle.params.specs.Params.{size}
use Rattle.sketch.specs.Sketch.{Sketch, count_in, idsum_in, damaged_at, zeros}
use Rattle.buckets.proofs.Limits.{whole, limits_fit}
use Rattle.files.specs.Bytes.{word_bytes}
use Rattle.files.specs.Records.{record_at, is_kind, bucket_kind}
use Rattle.files.specs.Layout.{bucket_bytes}
use Rattle.files.specs.Turns.{bucket_offset}
use Rattle.sketchfile.specs.Reading.{bucket_index, bucket_count, bucket_idsum, lowest, bucket_judged, stored}
use Rattle.sketchfile.specs.Writing.{zero_at, buckets_bytes, nonzero_from}
use Rattle.sketchfile.proofs.BucketRecords.{SoundBucket, sound_done}
use Rattle.sketchfile.proofs.BucketTrips.{Bucketed, bucket_written, all_zero_lem}
use Rattle.params.specs.Answers.{Done}

-- ys is xs below k, and blank from there on
pub record Filled {A : Type 0} (blank : A) (xs ys : List A) (k : ℕ) : Type 0 where
  pub before : (x : ℕ) → x < k → get_or ys x blank ≡ get_or xs x blank
  pub after : (x : ℕ) → k ≤ x → get_or ys x blank ≡ blank

module _ {A : Type 0} (blank : A) (xs : List A) where
  pub filled_none : (n : ℕ) → Filled blank xs (replicate n blank) 0
  filled_none n = record { before = λ x l. absurd (omega arith); after = λ x l. at x (dec_lt x n) }
    where
      at : (x : ℕ) → Dec (x < n) → get_or (replicate n blank) x blank ≡ blank
      at x (yes l) = get_or-replicate n x blank blank l
      at x (no l) = get_or-eq_default (replicate n blank) blank (omega (arith, length-replicate n blank))

  pub filled_skip : {ys : List A} {k : ℕ} → get_or xs k blank ≡ blank → Filled blank xs ys k → Filled blank xs ys (suc k)
  filled_skip {ys} {k} e f = record { before = λ x l. at x l (ℕ_discrete x k); after = λ x l. f.after x (omega arith) }
    where
      at : (x : ℕ) → x < suc k → Dec (x ≡ k) → get_or ys x blank ≡ get_or xs x blank
      at x l (yes p) = f.after x (omega arith) ∙ sym (rw p e)
      at x l (no q) = f.before x (omega arith)

  pub filled_next : {ys : List A} {i k : ℕ} {a : A} → i ≡ k → a ≡ get_or xs k blank → k < length ys → Filled blank xs ys k → Filled blank xs (set ys i a) (suc k)
  filled_next {ys} {i} {k} {a} p e h f = record { before = λ x l. at x l (ℕ_discrete x i); after = λ x l. get_or-set_other ys i x a blank (λ q. omega arith) ∙ f.after x (omega arith) }
    where
      at : (x : ℕ) → x < suc k → Dec (x ≡ i) → get_or (set ys i a) x blank ≡ get_or xs x blank
      at x l (yes q) = rw q (get_or-set_same ys i a blank (omega arith) ∙ e ∙ ap (λ (j : ℕ). get_or xs j blank) (sym p))
      at x l (no q) = get_or-set_other ys i x a blank q ∙ f.before x (omega arith)

  pub filled_all : {ys : List A} {k : ℕ} → length ys ≡ k → length xs ≡ k → Filled blank xs ys k → ys ≡ xs
  filled_all {ys} e h f = ext_get_or blank ys xs (e ∙ sym h) (λ x l. f.before x (omega arith))

-- the sketch that is filled has the lengths that the parameters ask for
module _ (P : Params) (bs : List ℕ) where
  pub counts_long : (k : ℕ) → length (stored bs k (zeros P)).counts ≡ size P
  unfolding stored zeros
  counts_long zero = length-replicate (size P) (pos 0)
  counts_long (suc k) = length-set (stored bs k (zeros P)).counts (bucket_index bs k) (bucket_count bs k) ∙ counts_long k

  pub idsums_long : (k : ℕ) → length (stored bs k (zeros P)).idsums ≡ size P
  unfolding stored zeros
  idsums_long zero = length-replicate (size P) 0
  idsums_long (suc k) = length-set (stored bs k (zeros P)).idsums (bucket_index bs k) (bucket_idsum bs k) ∙ idsums_long k

-- the first j records of a file are sound and agree with the buckets of S below k
pub record Agrees (P : Params) (bs : List ℕ) (S : Sketch) (j k : ℕ) : Type 0 where
  pub kinds : (x : ℕ) → x < j → is_kind bucket_kind (record_at bs (bucket_offset bs x)) ≡ true
  pub judged : (x : ℕ) → x < j → bucket_judged (size P) bs x ≡ Done
  pub low : lowest bs j ≤ k
  pub counts : Filled (pos 0) S.counts (stored bs j (zeros P)).counts k
  pub idsums : Filled 0 S.idsums (stored bs j (zeros P)).idsums k

module _ (P : Params) (bs : List ℕ) (S : Sketch) where
  pub agrees_none : Agrees P bs S 0 0
  unfolding lowest stored zeros
  agrees_none =
      record {
        kinds = λ x l. absurd (omega arith);
        judged = λ x l. absurd (omega arith);
        low = omega arith;
        counts = filled_none (pos 0) S.counts (size P);
        idsums = filled_none 0 S.idsums (size P);
      }

  agrees_zero : (j k : ℕ) → zero_at S k ≡ true → Agrees P bs S j k → Agrees P bs S j (suc k)
  agrees_zero j k e t =
      let z = all_zero_lem (count_in S k) (idsum_in S k) e in
      record {
        kinds = t.kinds;
        judged = t.judged;
        low = omega (arith, t.low);
        counts = filled_skip (pos 0) S.counts z.0 t.counts;
        idsums = filled_skip 0 S.idsums z.1 t.idsums;
      }

  agrees_next : (j k : ℕ) → k < size P → damaged_at S k ≡ false → zero_at S k ≡ false → Bucketed bs (bucket_offset bs j) k (count_in S k) (idsum_in S k)
      → Agrees P bs S j k → Agrees P bs S (suc j) (suc k)
  unfolding lowest stored bucket_judged
  agrees_next j k h intact some b t =
      let sound : SoundBucket (size P) (lowest bs j) k (count_in S k) (idsum_in S k) = record { undamaged = intact; rising = t.low; inside = h; not_zero = some } in
      let here : bucket_judged (size P) bs j ≡ Done = rw (b.index, b.count, b.idsum) (sound_done (bucket_offset bs j) sound) in
      record {
        kinds = λ x l. below_more (λ x. is_kind bucket_kind (record_at bs (bucket_offset bs x)) ≡ true) j t.kinds b.kind x (omega arith);
        judged = λ x l. below_more (λ x. bucket_judged (size P) bs x ≡ Done) j t.judged here x (omega arith);
        low = omega (arith, b.index);
        counts = filled_next (pos 0) S.counts b.index b.count (omega (arith, counts_long P bs j)) t.counts;
        idsums = filled_next 0 S.idsums b.index b.idsum (omega (arith, idsums_long P bs j)) t.idsums;
      }

  agrees_same : {i j k l : ℕ} → i ≡ j → l ≡ k → Agrees P bs S j k → Agrees P bs S i l
  agrees_same e f t = rw (e, f) t

  -- the records of the buckets from k on, after others
  module _ (rest : List ℕ) (small : size P ≤ 65536) (undamaged : (x : ℕ) → x < size P → damaged_at S x ≡ false) where
    agrees_step : (n k j : ℕ) (before : List ℕ) (b : Bool) → zero_at S k ≡ b → length before ≡ bucket_offset bs j
        → bs ≡ before ++ ((cond b [] (bucket_bytes k (count_in S k) (idsum_in S k)) ++ buckets_bytes (suc k) n S) ++ rest) → k < size P → Agrees P bs S j k
        → ((j : ℕ) (before : List ℕ) → length before ≡ bucket_offset bs j → bs ≡ before ++ (buckets_bytes (suc k) n S ++ rest) → Agrees P bs S j (suc k)
        → Agrees P bs S (j + nonzero_from (suc k) n S) (size P))
        → Agrees P bs S (j + (cond b 0 1 + nonzero_from (suc k) n S)) (size P)
    unfolding bucket_bytes word_bytes
    agrees_step n k j before true z e q l t ih = agrees_same (omega arith) refl (ih j before e q (agrees_zero j k z t))
    agrees_step n k j before false z e q l t ih =
        let this = bucket_bytes k (count_in S k) (idsum_in S k) in
        let other_counts = buckets_bytes (suc k) n S ++ rest in
        let form : bs ≡ before ++ (this ++ other_counts) = q ∙ ap (λ (xs : List ℕ). before ++ xs) (append_assoc this (buckets_bytes (suc k) n S) rest) in
        let limits = whole (count_in S k) (idsum_in S k) (undamaged k l) in
        let fits = limits_fit (count_in S k) limits.0 in
        let b = bucket_written bs before other_counts (bucket_offset bs j) k (count_in S k) (idsum_in S k) form e (omega arith) fits (omega (arith, limits.1)) in
        agrees_same (omega arith) refl
        (ih (suc j) (before ++ this) (length-append before this ∙ omega arith) (form ∙ sym (append_assoc before this other_counts))
        (agrees_next j k l (undamaged k l) z b t))

    pub agrees_all : (n k j : ℕ) (before : List ℕ) → length before ≡ bucket_offset bs j → bs ≡ before ++ (buckets_bytes k n S ++ rest) → k + n ≡ size P → Agrees P bs S j k
        → Agrees P bs S (j + nonzero_from k n S) (size P)
    unfolding buckets_bytes nonzero_from
    agrees_all zero k j before e q l t = agrees_same (omega arith) (omega arith) t
    agrees_all (suc n) k j before e q l t =
        agrees_step n k j before (zero_at S k) refl e q (omega arith) t (λ i longer f g u. agrees_all n (suc k) i longer f g (omega arith) u)
