-- Laws of the buckets in a sketch file: what is refused of one, what a reader finds in turn, and what holds where nothing is refused.
use mathlib.Core.Path.{◌≡◌, refl, sym, ap, ◌∙◌}
use mathlib.Core.Bool.{Bool, true, false, cond}
use mathlib.Core.List.{List}
use Prim.Native.Nat.{ℕ, ◌+◌, ◌≤◌, ◌<◌}
use native.Mathlib.Numerals.{add-one}
use native.Mathlib.Omega.{arith}
use borrow.Author.Tests.{lt-leb, leb-false, le-ltb, ltb-false}
use lib.IntN.{ℤ}
use lib.ListN.{length, set}
use Rattle.params.specs.declared.params.Params.{Params}
use Rattle.params.specs.declared.answers.Refusal.TheVariants.{Damage, Form}
use Rattle.params.specs.Answers.{first, Answer, Done}
use Rattle.params.specs.Params.{size}
use Rattle.buckets.specs.Buckets.{all_zero, damaged}
use Rattle.sketch.specs.Sketch.{Sketch, sketch}
use Rattle.params.proofs.Judging.{Refuses, first_refused, first_passed, refuse_done}
use Rattle.files.specs.Bytes.{word, count_of}
use Rattle.files.specs.Records.{record_at, is_kind, bucket_kind, head_length_in, bucket_length}
use Rattle.files.specs.Layout.{bucket_at}
use Rattle.files.specs.Turns.{bucket_offset, end_answer}
use Rattle.files.specs.Fields.{index_field, count_field, idsum_field}
use Rattle.files.proofs.HeadStages.{opening_answer, opening_first}
use Rattle.files.proofs.Standing.{kind_ends}
use Rattle.files.proofs.Bodies.{bucket_fields}
use Rattle.files.proofs.Turning.{Come, come_start, come_next, come_end, come_within, in_turn_refused, in_turn_done}
use Rattle.sketchfile.specs.Reading.{buckets_in, bucket_index, bucket_count, bucket_idsum, lowest, too_large, not_rising, bucket_answer, bucket_judged, buckets_judged, sketch_answer, stored}
use Rattle.std.specs.Prelude.{None, Option, Some}

-- a bucket record that is not refused
pub record SoundBucket (N low x : ℕ) (c : ℤ) (s : ℕ) : Type 0 where
  pub undamaged : damaged c s ≡ false
  pub rising : low ≤ x
  pub inside : x < N
  pub not_zero : all_zero c s ≡ false

pub sound_done : {N low x : ℕ} {c : ℤ} {s : ℕ} (at : ℕ) → SoundBucket N low x c s → bucket_answer N low at x c s ≡ Done
unfolding bucket_answer
sound_done {N} {low} {x} {c} {s} at h = rw (h.undamaged, lt-leb N x h.inside, le-ltb x low h.rising, h.not_zero)

pub done_sound : (N low at x : ℕ) (c : ℤ) (s : ℕ) → bucket_answer N low at x c s ≡ Done → SoundBucket N low x c s
unfolding bucket_answer
done_sound N low at x c s e =
    let h = refuse_done (damaged c s) Damage at _ e in
    let k = refuse_done (too_large N x) Form at _ h.1 in
    let l = refuse_done (not_rising low x) Form at _ k.1 in
    record {
      undamaged = h.0;
      rising = ltb-false x low l.0;
      inside = leb-false N x k.0;
      not_zero = (refuse_done (all_zero c s) Form at Done l.1).0;
    }

-- a reader has come to bucket n of the file, which is due at an offset
pub record Reader (bs : List ℕ) (n at : ℕ) : Type 0 where
  pub place : at ≡ bucket_offset bs n
  pub come : Come bucket_kind (bucket_offset bs) bs n

pub reader_start : (bs : List ℕ) {at : ℕ} → at ≡ head_length_in bs → Reader bs 0 at
reader_start bs e = record { place = omega arith; come = come_start bucket_kind (bucket_offset bs) bs }

-- it found bucket n there, whole
pub record Found (bs : List ℕ) (n at k : ℕ) (c : ℤ) (s : ℕ) : Type 0 where
  pub index : k ≡ bucket_index bs n
  pub count : c ≡ bucket_count bs n
  pub idsum : s ≡ bucket_idsum bs n
  -- cited by no name: `omega` reads it where a reader steps on, so that the offset fits its width and the bytes left grow fewer
  pub before_end : at + bucket_length ≤ length bs
  pub counted : n < buckets_in bs
  pub next : Reader bs (n + 1) (at + bucket_length)

-- what stands at an offset: a whole bucket by its fields, or no bucket
abbrev said : List ℕ → ℕ → ℕ × ℤ × ℕ
said bs at = (word bs (at + index_field), count_of (word bs (at + count_field)), word bs (at + idsum_field))

fields : (bs : List ℕ) (at : ℕ) (x : ℕ × ℤ × ℕ) → Some x ≡ bucket_at bs at → (is_kind bucket_kind (record_at bs at) ≡ true) × (x ≡ said bs at)
fields bs at x e = go (is_kind bucket_kind (record_at bs at)) (e ∙ bucket_fields bs at)
  where
    go : (b : Bool) → Some x ≡ cond b (Some (said bs at)) None → (b ≡ true) × (x ≡ said bs at)
    go true q = (refl, cc)
    go false q = (cc, cc)

no_bucket : (bs : List ℕ) (at : ℕ) → None ≡ bucket_at bs at → is_kind bucket_kind (record_at bs at) ≡ false
no_bucket bs at e = go (is_kind bucket_kind (record_at bs at)) (e ∙ bucket_fields bs at)
  where
    go : (b : Bool) → None ≡ cond b (Some (said bs at)) None → b ≡ false
    go true q = cc
    go false q = refl

bucket_ends : (bs : List ℕ) (at : ℕ) → is_kind bucket_kind (record_at bs at) ≡ true → at + bucket_length ≤ length bs
bucket_ends bs at e = omega (arith, kind_ends bucket_kind bs at e)

module _ {bs : List ℕ} {n at : ℕ} {found : (Option (ℕ × ℤ × ℕ))} (r : Reader bs n at) (e : found ≡ bucket_at bs at) where
  pub found_bucket : {k : ℕ} {c : ℤ} {s : ℕ} → found ≡ Some (k, c, s) → Found bs n at k c s
  found_bucket {k} {c} {s} q =
      let f = rw r.place at (fields bs at (k, c, s) (sym q ∙ e)) in
      let short = bucket_ends bs (bucket_offset bs n) f.0 in
      let come-on = come_next bucket_kind (bucket_offset bs) bs n (omega arith) f.0 r.come in
      record {
        index = ap (λ (x : ℕ × ℤ × ℕ). x.0) f.1;
        count = ap (λ (x : ℕ × ℤ × ℕ). x.1) f.1;
        idsum = ap (λ (x : ℕ × ℤ × ℕ). x.2) f.1;
        before_end = omega arith;
        counted = omega (arith, come_within bucket_kind (bucket_offset bs) bs (n + 1) come-on);
        next = record { place = omega arith; come = come-on };
      }

  pub none_left : found ≡ None → n ≡ buckets_in bs
  none_left q = come_end bucket_kind (bucket_offset bs) bs n (rw r.place at (no_bucket bs at (sym q ∙ e))) r.come

-- the answers for the buckets in turn
module _ (N : ℕ) {bs : List ℕ} {n at : ℕ} where
  pub as_judged : {k s low : ℕ} {c z : ℤ} {r : Answer} → Reader bs n at → Found bs n at k c s → low ≡ lowest bs n → z ≡ c
      → r ≡ bucket_answer N low at k z s → r ≡ bucket_judged N bs n
  unfolding bucket_judged
  as_judged here f e h q = rw (e, h, here.place, f.index, f.count, f.idsum) at q

  pub bucket_refused : {k s : ℕ} {c : ℤ} {r : Answer} → Found bs n at k c s → ((j : ℕ) → j < n → bucket_judged N bs j ≡ Done)
      → r ≡ bucket_judged N bs n → Refuses r → r ≡ buckets_judged N bs
  unfolding buckets_judged
  bucket_refused {r = r} f passed e h = first_refused r _ _ (in_turn_refused (buckets_in bs) n (bucket_judged N bs) r f.counted passed e h) h

  pub all_passed : Reader bs n at → n ≡ buckets_in bs → ((j : ℕ) → j < n → bucket_judged N bs j ≡ Done) → end_answer bs at n ≡ buckets_judged N bs
  unfolding buckets_judged
  all_passed here e passed = rw (here.place, ← e) (sym (first_passed _ _ (in_turn_done n (bucket_judged N bs) passed)))

module _ {bs : List ℕ} {n at k s : ℕ} {c : ℤ} (f : Found bs n at k c s) where
  pub next_lowest : k + 1 ≡ lowest bs (n + 1)
  unfolding lowest
  next_lowest = rw (add-one n, f.index) (add-one _)

  -- the buckets stored in turn
  pub next_stored : {cs : List ℤ} {ss : List ℕ} {z : ℤ} (S : Sketch) → sketch cs ss ≡ stored bs n S → z ≡ c → sketch (set cs k z) (set ss k s) ≡ stored bs (n + 1) S
  unfolding stored
  next_stored S e h = rw (add-one n, ← e, h, f.index, f.count, f.idsum)

-- a reader that stores the buckets it passes has made T of S
pub record Storing (bs : List ℕ) (S : Sketch) (at : ℕ) (T : Sketch) : Type 0 where
  pub passed : ℕ
  pub reader : Reader bs passed at
  pub so_far : T ≡ stored bs passed S

-- the parameters and the lengths, then the records
pub sketch_opening : (P : Params) (bs : List ℕ) (c s : ℕ) → sketch_answer P bs c s ≡ first (opening_answer P bs c s) (buckets_judged (size P) bs)
unfolding sketch_answer
sketch_opening P bs c s = opening_first P bs c s _
