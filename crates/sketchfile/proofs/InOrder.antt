-- What goes with each refusal of a sketch file: the head and the lengths come first, then the buckets in turn, then the end. And what a sketch's writer returns.
use mathlib.Core.Path.{◌≡◌, refl, sym, ap, ◌∙◌}
use mathlib.Core.Bool.{Bool, true, false, not}
use mathlib.Core.Logic.{⊎_elim}
use mathlib.Core.List.{List}
use Prim.Native.Nat.{ℕ, ◌≤◌, ◌<◌}
use native.Mathlib.Omega.{arith}
use borrow.Author.Tests.{ltb-true}
use lib.Dec.{ltb}
use lib.ListN.{length}
use Rattle.params.specs.declared.params.Params.{Params}
use Rattle.params.specs.declared.answers.Refusal.{Refusal}
use Rattle.params.specs.declared.answers.Refusal.TheVariants.{Param, Length, Damage, Form}
use Rattle.params.specs.Lists.{least}
use Rattle.params.specs.Answers.{number_of, number_in, index_in, refuse_if, refuse_at, first, Answer, Done, Refused, Given, value_in}
use Rattle.params.specs.Params.{size, good_params, lengths_answer, lent_answer}
use Rattle.buckets.specs.Buckets.{all_zero, damaged}
use Rattle.sketch.specs.Sketch.{Sketch, damaged_at}
use Rattle.params.proofs.Judging.{first_either}
use Rattle.params.proofs.Lowest.{Lowest, least_lowest}
use Rattle.params.specs.Faults.{order, first_of}
use Rattle.sketch.specs.Faults.{wrong_length}
use Rattle.sketchfile.specs.Faults.{bucket_fault, write_fault}
use Rattle.params.proofs.InOrder.{lowest_first, refuse_number, refuse_at_number, first_refuse, cond_either}
use Rattle.files.proofs.HeadStages.{opening_answer}
use Rattle.files.specs.Turns.{in_turn, bucket_offset, end_answer}
use Rattle.files.proofs.HeadTrips.{Opened, opening_done}
use Rattle.files.proofs.Turning.{Earliest, in_turn_earliest, done_in_turn}
use Rattle.files.specs.Faults.{opening_order, opening_fault}
use Rattle.files.proofs.InOrder.{opening_number, opening_index, EndFault, end_fault, written_number_lem, written_index_lem, written_length_lem, refused_as_it_was}
use Rattle.sketchfile.specs.Reading.{buckets_in, bucket_index, bucket_count, bucket_idsum, lowest, too_large, not_rising, bucket_answer, bucket_judged, buckets_judged, sketch_answer}
use Rattle.sketchfile.specs.Writing.{sketch_bytes, sketch_write_answer, SketchWritten}
use Rattle.sketchfile.proofs.BucketRecords.{sketch_opening}

module _ (N : ℕ) (bs : List ℕ) (j : ℕ) where
  pub bucket_number : number_in (bucket_judged N bs j) ≡ first_of order (bucket_fault N bs j)
  unfolding bucket_judged bucket_answer
  bucket_number = simp (refuse_number, cond_either)

  bucket_place : (w : Refusal) (k : ℕ) → bucket_judged N bs j ≡ Refused w k → k ≡ bucket_offset bs j
  unfolding bucket_judged bucket_answer
  bucket_place w k = go (damaged (bucket_count bs j) (bucket_idsum bs j)) (too_large N (bucket_index bs j)) (not_rising (lowest bs j) (bucket_index bs j)) (all_zero (bucket_count bs j) (bucket_idsum bs j))
    where
      go : (x y z v : Bool) → refuse_if x Damage (bucket_offset bs j) (refuse_if y Form (bucket_offset bs j) (refuse_if z Form (bucket_offset bs j) (refuse_if v Form (bucket_offset bs j) Done))) ≡ Refused w k → k ≡ bucket_offset bs j
      go true y z v e = sym (ap index_in e)
      go false true z v e = sym (ap index_in e)
      go false false true v e = sym (ap index_in e)
      go false false false true e = sym (ap index_in e)
      go false false false false e = cc

module _ (P : Params) (bs : List ℕ) (c s : ℕ) (w : Refusal) (k : ℕ) where
  -- the earliest bucket at fault: those before it were accepted, the first of its faults decides the number, and its offset goes with it
  pub record BucketFault : Type 0 where
    pub which : ℕ
    pub one : which < buckets_in bs
    pub accepted : (j : ℕ) → j < which → bucket_judged (size P) bs j ≡ Done
    pub number : number_of w ≡ first_of order (bucket_fault (size P) bs which)
    pub place : k ≡ bucket_offset bs which

  pub data SketchFault : Type 0 where
    in_opening : number_of w ≡ first_of opening_order (opening_fault P bs c s) → k ≡ 0 → SketchFault
    in_bucket : Opened P bs c s → BucketFault → SketchFault
    in_end : Opened P bs c s → ((j : ℕ) → j < buckets_in bs → bucket_judged (size P) bs j ≡ Done) → w ≡ Form
        → EndFault bs (bucket_offset bs (buckets_in bs)) (buckets_in bs) k → SketchFault

  bucket_fault_lem : Earliest (buckets_in bs) (bucket_judged (size P) bs) (Refused w k) → BucketFault
  bucket_fault_lem r =
      record {
        which = r.which;
        one = r.one;
        accepted = r.before;
        number = sym (ap number_in r.here) ∙ bucket_number (size P) bs r.which;
        place = bucket_place (size P) bs r.which w k r.here;
      }

  records_fault : Opened P bs c s → buckets_judged (size P) bs ≡ Refused w k → SketchFault
  unfolding buckets_judged
  records_fault opened e =
      let n = buckets_in bs in
      let judge = bucket_judged (size P) bs in
      ⊎_elim
      (λ h. in_bucket opened (bucket_fault_lem (in_turn_earliest n judge w k h)))
      (λ h. let end = end_fault bs (bucket_offset bs n) n w k h.1 in in_end opened (done_in_turn n judge h.0) end.0 end.1)
      (first_either (in_turn 0 n judge) (end_answer bs (bucket_offset bs n) n) w k e)

  pub sketch_fault : sketch_answer P bs c s ≡ Refused w k → SketchFault
  sketch_fault e =
      ⊎_elim
      (λ h. in_opening (sym (ap number_in h) ∙ opening_number P bs c s) (sym (ap index_in h) ∙ opening_index P bs c s))
      (λ h. records_fault (opening_done P bs c s h.0) h.1)
      (first_either (opening_answer P bs c s) (buckets_judged (size P) bs) w k (sym (sketch_opening P bs c s) ∙ e))

module _ (P : Params) (S : Sketch) (o : ℕ) where
  writing_number : number_in (sketch_write_answer P S o) ≡ first_of order (write_fault P S o)
  unfolding sketch_write_answer lent_answer lengths_answer first
  writing_number = simp (first_refuse, refuse_number, refuse_at_number, cond_either)

  -- the lowest damaged bucket goes with the number of Damage, 0 with any other
  writing_index : (number_in (sketch_write_answer P S o) ≡ 5 → Lowest (size P) (damaged_at S) (index_in (sketch_write_answer P S o)))
      × ((number_in (sketch_write_answer P S o) ≡ 5 → ⊥) → index_in (sketch_write_answer P S o) ≡ 0)
  unfolding sketch_write_answer lent_answer lengths_answer first refuse_at
  writing_index = go (not (good_params P)) (wrong_length P S) (ltb o (length (sketch_bytes P S))) (ltb found (size P)) refl
    where
      found : ℕ
      found = least 0 (size P) (damaged_at S)

      answer : (x y z d : Bool) → Answer
      answer x y z d = first (refuse_if x Param 0 (refuse_if y Length 0 Done)) (refuse_if z Length 0 (refuse_if d Damage found Done))

      go : (x y z d : Bool) → ltb found (size P) ≡ d
          → (number_in (answer x y z d) ≡ 5 → Lowest (size P) (damaged_at S) (index_in (answer x y z d))) × ((number_in (answer x y z d) ≡ 5 → ⊥) → index_in (answer x y z d) ≡ 0)
      go true y z d e = ((λ q. absurd (omega arith)), λ q. refl)
      go false true z d e = ((λ q. absurd (omega arith)), λ q. refl)
      go false false true d e = ((λ q. absurd (omega arith)), λ q. refl)
      go false false false true e = ((λ q. least_lowest (size P) (damaged_at S) (ltb-true _ _ e)), λ q. absurd (q refl))
      go false false false false e = ((λ q. absurd (omega arith)), λ q. refl)

-- h is what the contract of `write_sketch` gives
module _ {P : Params} {S : Sketch} {out : List ℕ} {r : Given ℕ} {out' : List ℕ} (h : SketchWritten P S out r out') where
  abbrev judged : Answer
  judged = sketch_write_answer P S (length out)

  abbrev long : ℕ
  long = length (sketch_bytes P S)

  -- the first fault that applies decides the number, 0 where none does
  pub write_sketch_number : number_in r ≡ first_of order (write_fault P S (length out))
  write_sketch_number = written_number_lem judged long h.answer ∙ writing_number P S (length out)

  -- so no fault that applies has a lower number
  pub write_sketch_least_number : (w : Refusal) → write_fault P S (length out) w ≡ true → number_in r ≤ number_of w
  write_sketch_least_number w e = rw write_sketch_number (lowest_first (write_fault P S (length out)) refl refl w e)

  -- with the number of Damage the index is that of the lowest damaged bucket
  pub write_sketch_lowest : number_in r ≡ 5 → Lowest (size P) (damaged_at S) (index_in r)
  write_sketch_lowest e =
      rw (written_index_lem judged long h.answer) ((writing_index P S (length out)).0 (sym (written_number_lem judged long h.answer) ∙ e))

  -- with any other it is 0
  pub write_sketch_index : (number_in r ≡ 5 → ⊥) → index_in r ≡ 0
  write_sketch_index n =
      written_index_lem judged long h.answer ∙ (writing_index P S (length out)).1 (λ e. n (written_number_lem judged long h.answer ∙ e))

  -- where nothing is at fault the file's length is returned
  pub write_sketch_length : number_in r ≡ 0 → value_in r ≡ length (sketch_bytes P S)
  write_sketch_length e = written_length_lem judged long h.answer e

  -- a refused writer writes nothing
  pub write_sketch_refused : {w : Refusal} {k : ℕ} → r ≡ Refused w k → out' ≡ out
  write_sketch_refused e = h.bytes ∙ refused_as_it_was judged long h.answer out _ e
