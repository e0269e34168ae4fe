-- Refusals of a sketch file's reader and writer as a caller gets them: by the answer of a call, of whatever function meets its contract.
use mathlib.Core.Path.{◌≡◌, refl, sym, ap, ◌∙◌}
use mathlib.Core.List.{List}
use Prim.Native.Nat.{ℕ, ◌<◌}
use native.Mathlib.Decide.{dec_lt}
use native.Mathlib.Omega.{arith}
use lib.ListN.{length}
use Rattle.params.specs.declared.params.Params.{Params}
use Rattle.params.specs.declared.answers.Refusal.{Refusal}
use Rattle.params.specs.declared.answers.Refusal.TheVariants.{Damage}
use Rattle.params.specs.Answers.{number_of, number_in, index_in, Answer, Done, Refused, Given}
use Rattle.params.specs.Params.{size}
use Rattle.params.specs.Faults.{order, first_of}
use Rattle.params.proofs.Judging.{first_done, number_some}
use Rattle.params.proofs.Lowest.{Lowest}
use Rattle.sketch.specs.Sketch.{Sketch, damaged_at}
use Rattle.files.specs.Turns.{in_turn, bucket_offset, end_answer}
use Rattle.files.specs.Faults.{opening_order, opening_fault}
use Rattle.files.proofs.HeadStages.{opening_answer}
use Rattle.files.proofs.HeadTrips.{Opened, opening_done}
use Rattle.files.proofs.Turning.{done_in_turn}
use Rattle.files.proofs.InOrder.{WriterGoesBy, opening_decides}
use Rattle.sketchfile.specs.Reading.{buckets_in, bucket_judged, buckets_judged, sketch_answer, SketchRead}
use Rattle.sketchfile.specs.Writing.{sketch_bytes, SketchWritten}
use Rattle.sketchfile.specs.Faults.{bucket_fault, write_fault}
use Rattle.sketchfile.proofs.BucketRecords.{sketch_opening}
use Rattle.sketchfile.proofs.InOrder.{bucket_number, BucketFault, SketchFault, in_opening, in_bucket, in_end, sketch_fault, write_sketch_number, write_sketch_index, write_sketch_lowest, write_sketch_length}
use Rattle.std.specs.Prelude.{Ok, Err}

-- what holds of an accepted file: of its opening, of every bucket, and of its end; c and s are the lengths of the lent slices
pub record SketchDone (P : Params) (bs : List ℕ) (c s : ℕ) : Type 0 where
  pub opened : Opened P bs c s
  pub accepted : (j : ℕ) → j < buckets_in bs → bucket_judged (size P) bs j ≡ Done
  pub ended : end_answer bs (bucket_offset bs (buckets_in bs)) (buckets_in bs) ≡ Done

pub sketch_done : (P : Params) (bs : List ℕ) (c s : ℕ) → sketch_answer P bs c s ≡ Done → SketchDone P bs c s
unfolding buckets_judged
sketch_done P bs c s e =
    let n = buckets_in bs in
    let judge = bucket_judged (size P) bs in
    let h = first_done (opening_answer P bs c s) (buckets_judged (size P) bs) (sym (sketch_opening P bs c s) ∙ e) in
    let k = first_done (in_turn 0 n judge) (end_answer bs (bucket_offset bs n) n) h.1 in
    record { opened = opening_done P bs c s h.0; accepted = done_in_turn n judge k.0; ended = k.1 }

-- What a reader returns: where it refuses nothing, nothing is at fault; a refusal has the number of the first fault, and its place.
pub data SketchReturned (P : Params) (bs : List ℕ) (c s : ℕ) : Answer → Type 0 where
  none_refused : SketchDone P bs c s → SketchReturned P bs c s Done
  refused_for : {w : Refusal} {k : ℕ} → SketchFault P bs c s w k → SketchReturned P bs c s (Refused w k)

module _ {P : Params} {bs : List ℕ} {S S' : Sketch} where
  pub read_sketch_returns : {r : Answer} → SketchRead P bs S r S' → SketchReturned P bs (length S.counts) (length S.idsums) r
  read_sketch_returns {r} h = go r (sym h.answer)
    where
      go : (r : Answer) → sketch_answer P bs (length S.counts) (length S.idsums) ≡ r → SketchReturned P bs (length S.counts) (length S.idsums) r
      go Done e = none_refused (sketch_done P bs (length S.counts) (length S.idsums) e)
      go (Err r) e = refused_for (sketch_fault P bs (length S.counts) (length S.idsums) r.0 r.1 e)

  -- a fault of the head, of the parameters or of the lengths decides before all others, and 0 goes with it
  pub read_sketch_opening : {r : Answer} → SketchRead P bs S r S' → let fault = opening_fault P bs (length S.counts) (length S.idsums) in
      (first_of opening_order fault ≡ 0 → ⊥) → (number_in r ≡ first_of opening_order fault) × (index_in r ≡ 0)
  read_sketch_opening h n = opening_decides P bs (length S.counts) (length S.idsums) _ (h.answer ∙ sketch_opening P bs (length S.counts) (length S.idsums)) n

  -- the earliest bucket at fault decides: the number is that of the first of its faults, and its offset goes with it
  pub read_sketch_bucket : {r : Answer} → SketchRead P bs S r S' → first_of opening_order (opening_fault P bs (length S.counts) (length S.idsums)) ≡ 0
      → (k : ℕ) → k < buckets_in bs → ((j : ℕ) → j < k → first_of order (bucket_fault (size P) bs j) ≡ 0) → (first_of order (bucket_fault (size P) bs k) ≡ 0 → ⊥)
      → (number_in r ≡ first_of order (bucket_fault (size P) bs k)) × (index_in r ≡ bucket_offset bs k)
  read_sketch_bucket {r} h right k l before n = go r (read_sketch_returns h)
    where
      faultless : (j : ℕ) → bucket_judged (size P) bs j ≡ Done → first_of order (bucket_fault (size P) bs j) ≡ 0
      faultless j e = sym (bucket_number (size P) bs j) ∙ ap number_in e

      here : (w : Refusal) (at : ℕ) → (f : BucketFault P bs (length S.counts) (length S.idsums) w at) → Dec (f.which < k) → Dec (k < f.which)
          → (number_of w ≡ first_of order (bucket_fault (size P) bs k)) × (at ≡ bucket_offset bs k)
      here w at f (yes lower) e = absurd (number_some w (f.number ∙ before f.which lower))
      here w at f (no lower) (yes higher) = absurd (n (faultless k (f.accepted k higher)))
      here w at f (no lower) (no higher) = let same : f.which ≡ k = omega arith in (f.number ∙ ap (λ (j : ℕ). first_of order (bucket_fault (size P) bs j)) same, f.place ∙ ap (bucket_offset bs) same)

      go : (r : Answer) → SketchReturned P bs (length S.counts) (length S.idsums) r → (number_in r ≡ first_of order (bucket_fault (size P) bs k)) × (index_in r ≡ bucket_offset bs k)
      go Done (none_refused x) = absurd (n (faultless k (x.accepted k l)))
      go (Err r) (refused_for (in_opening e z)) = absurd (number_some r.0 (e ∙ right))
      go (Err r) (refused_for (in_bucket o f)) = here r.0 r.1 f (dec_lt f.which k) (dec_lt k f.which)
      go (Err r) (refused_for (in_end o a e f)) = absurd (n (faultless k (a k l)))

-- what a writer returns
module _ {P : Params} {S : Sketch} {out out' : List ℕ} where
  pub write_sketch_goes_by : {r : Given ℕ} → SketchWritten P S out r out' → WriterGoesBy (write_fault P S (length out)) r
  write_sketch_goes_by h = record { number = write_sketch_number h; index = write_sketch_index h }

  -- the index is that of the lowest damaged bucket
  pub write_sketch_damage : {k : ℕ} → SketchWritten P S out (Refused Damage k) out' → Lowest (size P) (damaged_at S) k
  write_sketch_damage h = write_sketch_lowest h refl

  -- where it returns a length nothing is at fault, and that is the file's
  pub write_sketch_bytes : {n : ℕ} → SketchWritten P S out (Ok n) out' → (first_of order (write_fault P S (length out)) ≡ 0) × (n ≡ length (sketch_bytes P S))
  write_sketch_bytes h = (sym (write_sketch_number h), write_sketch_length h refl)
