-- An accepted file written again: the records that were read make, in turn, the bytes that they were read from.
use mathlib.Core.Path.{◌≡◌, sym, ap, ap₂, ◌∙◌}
use mathlib.Core.Bool.{true, false}
use mathlib.Core.List.{List, [], ◌++◌, append_assoc, append-nil}
use Prim.Native.Nat.{ℕ, zero, suc, ◌+◌, ◌-◌, ◌≤◌, ◌<◌}
use native.Mathlib.Nat.{zero-add}
use native.Mathlib.Decide.{ℕ_discrete}
use native.Mathlib.Omega.{arith}
use lib.IntN.{ℤ, pos}
use lib.ListN.{length, get_or, set, take, replicate, take-append-drop}
use lib.Seq.{get_or-set_same, get_or-set_other, take-add, length-take-le}
use Rattle.params.specs.declared.params.Params.{Params}
use Rattle.params.specs.Params.{size}
use Rattle.buckets.specs.Buckets.{all_zero, in_limits, damaged}
use Rattle.sketch.specs.Sketch.{Sketch, sketch, count_in, idsum_in, damaged_at, zeros}
use Rattle.files.specs.Records.{record_at, is_kind, bucket_kind, head_length_in, bucket_length}
use Rattle.files.specs.Heads.{head_length_of}
use Rattle.files.specs.Layout.{head_bytes, bucket_bytes, end_bytes}
use Rattle.files.specs.Turns.{bucket_offset, end_answer}
use Rattle.files.proofs.HeadTrips.{headed_long}
use Rattle.files.proofs.RecordTrips.{end_read}
use Rattle.sketchfile.specs.Reading.{bucket_index, bucket_count, bucket_idsum, lowest, bucket_judged, stored}
use Rattle.sketchfile.specs.Writing.{zero_at, buckets_bytes, nonzero_from, sketch_bytes}
use Rattle.sketchfile.proofs.BucketRecords.{done_sound}
use Rattle.sketchfile.proofs.BucketTrips.{bucket_read, no_records, buckets_split, buckets_same}
use Rattle.sketchfile.proofs.Written.{buckets_long}
use Rattle.sketchfile.proofs.Filling.{Filled, filled_none, counts_long, idsums_long}
use Rattle.params.specs.Answers.{Done}

-- buckets that are zero from k on have no records there
rest_silent : (S : Sketch) (k x : ℕ) → k ≤ x → ((y : ℕ) → k ≤ y → zero_at S y ≡ true) → buckets_bytes 0 x S ≡ buckets_bytes 0 k S
rest_silent S k x l h =
    let all : x ≡ k + (x - k) = omega arith in
    ap (λ (n : ℕ). buckets_bytes 0 n S) all ∙ buckets_split S 0 k (x - k)
    ∙ ap (λ (xs : List ℕ). buckets_bytes 0 k S ++ xs) (no_records S (0 + k) (x - k) (λ y m. h y (omega arith))) ∙ append-nil (buckets_bytes 0 k S)

one_record : (S : Sketch) (k : ℕ) → zero_at S k ≡ false → buckets_bytes k 1 S ≡ bucket_bytes k (count_in S k) (idsum_in S k)
unfolding buckets_bytes
one_record S k e = rw e (append-nil _)

abbrev Inside : Sketch → ℕ → Type 0
Inside S x = (x < length S.counts) × (x < length S.idsums)

-- bucket x of a sketch replaced
module _ (S : Sketch) (x : ℕ) (c : ℤ) (s : ℕ) where
  abbrev replaced : Sketch
  replaced = sketch (set S.counts x c) (set S.idsums x s)

  here : Inside S x → (count_in replaced x ≡ c) × (idsum_in replaced x ≡ s)
  here h = (get_or-set_same S.counts x c (pos 0) h.0, get_or-set_same S.idsums x s 0 h.1)

  elsewhere : (y : ℕ) → (y ≡ x → ⊥) → (count_in replaced y ≡ count_in S y) × (idsum_in replaced y ≡ idsum_in S y)
  elsewhere y n = (get_or-set_other S.counts x y c (pos 0) n, get_or-set_other S.idsums x y s 0 n)

  still_undamaged : Inside S x → damaged c s ≡ false → ((y : ℕ) → damaged_at S y ≡ false) → (y : ℕ) → damaged_at replaced y ≡ false
  still_undamaged h new old y = at (ℕ_discrete y x)
    where
      at : Dec (y ≡ x) → damaged_at replaced y ≡ false
      at (yes p) = rw p (let e = here h in ap₂ damaged e.0 e.1 ∙ new)
      at (no n) = let e = elsewhere y n in ap₂ damaged e.0 e.1 ∙ old y

  -- where all buckets from k on were zero, and x is one of them
  module _ (k : ℕ) (low : k ≤ x) (zero-from : (y : ℕ) → k ≤ y → zero_at S y ≡ true) where
    zero_above : (y : ℕ) → suc x ≤ y → zero_at replaced y ≡ true
    zero_above y l = let e = elsewhere y (λ q. omega arith) in ap₂ all_zero e.0 e.1 ∙ zero-from y (omega arith)

    -- it brings one record
    one_more : Inside S x → all_zero c s ≡ false → buckets_bytes 0 (suc x) replaced ≡ buckets_bytes 0 k S ++ bucket_bytes x c s
    one_more h some =
        let split : suc x ≡ x + 1 = omega arith in
        let e = here h in
        ap (λ (n : ℕ). buckets_bytes 0 n replaced) split ∙ buckets_split replaced 0 x 1
        ∙ ap₂ {C = List ℕ} ◌++◌
        (buckets_same replaced S 0 x (λ y m n. elsewhere y (λ q. omega arith)) ∙ rest_silent S k x low zero-from)
        (ap (λ (i : ℕ). buckets_bytes i 1 replaced) (zero-add x) ∙ one_record replaced x (ap₂ all_zero e.0 e.1 ∙ some) ∙ ap₂ (bucket_bytes x) e.0 e.1)

-- the first j records of a file make the sketch T, and are what is written of its buckets below k, all that are not zero
pub record Rewritten (P : Params) (bs : List ℕ) (j k : ℕ) (T : Sketch) : Type 0 where
  pub inside : k ≤ size P
  pub undamaged : (x : ℕ) → damaged_at T x ≡ false
  pub rest_zero : (x : ℕ) → k ≤ x → zero_at T x ≡ true
  pub bytes : head_bytes P ++ buckets_bytes 0 k T ≡ take (bucket_offset bs j) bs

module _ (P : Params) (bs : List ℕ) (small : (k : ℕ) → get_or bs k 0 < 256) where
  rewritten_none : head_bytes P ≡ take (head_length_in bs) bs → Rewritten P bs 0 (lowest bs 0) (stored bs 0 (zeros P))
  unfolding lowest stored zeros buckets_bytes in_limits
  rewritten_none e =
      let start : head_length_in bs ≡ bucket_offset bs 0 = omega arith in
      let blank : Filled (pos 0) [] (replicate (size P) (pos 0)) 0 = filled_none (pos 0) [] (size P) in
      let none : Filled {A = ℕ} 0 [] (replicate (size P) 0) 0 = filled_none 0 [] (size P) in
      record {
        inside = omega arith;
        undamaged = λ x. rw (blank.after x (omega arith), none.after x (omega arith));
        rest_zero = λ x l. rw (blank.after x (omega arith), none.after x (omega arith));
        bytes = append-nil (head_bytes P) ∙ e ∙ ap (λ (o : ℕ). take o bs) start;
      }

  rewritten_next : (j : ℕ) → is_kind bucket_kind (record_at bs (bucket_offset bs j)) ≡ true → bucket_judged (size P) bs j ≡ Done
      → Rewritten P bs j (lowest bs j) (stored bs j (zeros P)) → Rewritten P bs (suc j) (lowest bs (suc j)) (stored bs (suc j) (zeros P))
  unfolding lowest stored bucket_judged
  rewritten_next j kind e r =
      let T = stored bs j (zeros P) in
      let x = bucket_index bs j in
      let c = bucket_count bs j in
      let s = bucket_idsum bs j in
      let h = done_sound (size P) (lowest bs j) (bucket_offset bs j) x c s e in
      let inside_both : Inside T x = (omega (arith, h.inside, counts_long P bs j), omega (arith, h.inside, idsums_long P bs j)) in
      let after-it : bucket_offset bs j + bucket_length ≡ bucket_offset bs (suc j) = omega arith in
      record {
        inside = omega (arith, h.inside);
        undamaged = still_undamaged T x c s inside_both h.undamaged r.undamaged;
        rest_zero = zero_above T x c s (lowest bs j) h.rising r.rest_zero;
        bytes =
            ap (λ (xs : List ℕ). head_bytes P ++ xs) (one_more T x c s (lowest bs j) h.rising r.rest_zero inside_both h.not_zero)
            ∙ sym (append_assoc (head_bytes P) (buckets_bytes 0 (lowest bs j) T) (bucket_bytes x c s))
            ∙ ap₂ {C = List ℕ} ◌++◌ r.bytes (bucket_read bs (bucket_offset bs j) small kind)
            ∙ sym (take-add (bucket_offset bs j) bucket_length bs) ∙ ap (λ (n : ℕ). take n bs) after-it;
      }

  pub rewritten_all : (n : ℕ) → head_bytes P ≡ take (head_length_in bs) bs → ((x : ℕ) → x < n → is_kind bucket_kind (record_at bs (bucket_offset bs x)) ≡ true) → ((x : ℕ) → x < n → bucket_judged (size P) bs x ≡ Done)
      → Rewritten P bs n (lowest bs n) (stored bs n (zeros P))
  rewritten_all zero e kinds judged = rewritten_none e
  rewritten_all (suc n) e kinds judged =
      rewritten_next n (kinds n (omega arith)) (judged n (omega arith)) (rewritten_all n e (λ x l. kinds x (omega arith)) (λ x l. judged x (omega arith)))

  -- with the end, that is the file
  pub same_bytes : (n k : ℕ) (T : Sketch) → head_length_in bs ≡ head_length_of P → Rewritten P bs n k T → end_answer bs (bucket_offset bs n) n ≡ Done → sketch_bytes P T ≡ bs
  unfolding sketch_bytes
  same_bytes n k T h r e =
      let end = end_read bs (bucket_offset bs n) n small e in
      let records = buckets_bytes 0 (size P) T in
      let is_small = rest_silent T k (size P) r.inside r.rest_zero in
      let before : head_bytes P ++ records ≡ take (bucket_offset bs n) bs = ap (λ (xs : List ℕ). head_bytes P ++ xs) is_small ∙ r.bytes in
      let long : head_length_of P + length records ≡ bucket_offset bs n = sym (headed_long P records) ∙ ap length before ∙ length-take-le (bucket_offset bs n) bs (omega (arith, end.0)) in
      let left : nonzero_from 0 (size P) T ≡ n = omega (arith, buckets_long T 0 (size P)) in
      sym (append_assoc (head_bytes P) records (end_bytes (nonzero_from 0 (size P) T)))
      ∙ ap₂ {C = List ℕ} ◌++◌ before (ap end_bytes left ∙ end.1) ∙ take-append-drop (bucket_offset bs n) bs
