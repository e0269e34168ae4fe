-- Sketches that can be written and files that can be read are each other's: the file of such a sketch is accepted and holds it, and such a file is that of the sketch that it holds.
use mathlib.Core.Path.{◌≡◌, refl, sym, ap, ap₂, ◌∙◌}
use mathlib.Core.List.{List, ◌++◌, append_assoc}
use Prim.Native.Nat.{ℕ, ◌+◌, ◌*◌, ◌≤◌, ◌<◌}
use native.Mathlib.Nat.{zero-add}
use native.Mathlib.Omega.{arith}
use borrow.Author.Tests.{eq-eqb, le-ltb}
use lib.IntN.{pos}
use lib.ListN.{length, get_or, take, length-append}
use lib.Seq.{get_or_at}
use Rattle.params.specs.declared.params.Params.{Params}
use Rattle.params.specs.declared.answers.Refusal.TheVariants.{Damage}
use Rattle.params.specs.Params.{size, lengths_answer, lent_answer}
use Rattle.sketch.specs.Sketch.{Sketch, sketch, damaged_at, zeros}
use Rattle.params.proofs.Judging.{first_done, first_passed, refuse_none}
use Rattle.params.proofs.Rules.{good_dimensions_lem, dimensions_small}
use Rattle.files.specs.Bytes.{word_bytes}
use Rattle.files.proofs.HeadStages.{opening_answer}
use Rattle.files.specs.Layout.{head_bytes, end_bytes}
use Rattle.files.specs.Turns.{in_turn, bucket_offset, end_answer}
use Rattle.files.specs.Records.{bucket_kind, end_kind, bucket_length}
use Rattle.files.specs.Heads.{head_length_of}
use Rattle.files.proofs.Profiles.{length_head_bytes}
use Rattle.files.proofs.HeadTrips.{headed_long, headed_length, opening_written, opening_done, opened_length, head_read}
use Rattle.files.proofs.RecordTrips.{not_kind, end_written}
use Rattle.files.proofs.Turning.{in_turn_done, done_in_turn, whole_within, records_are}
use Rattle.sketchfile.specs.Reading.{buckets_in, lowest, bucket_judged, buckets_judged, sketch_answer, stored, sketch_in}
use Rattle.sketchfile.specs.Writing.{buckets_bytes, nonzero_from, sketch_bytes, sketch_write_answer}
use Rattle.sketchfile.proofs.BucketRecords.{sketch_opening}
use Rattle.sketchfile.proofs.Written.{left_few, buckets_long, Writable}
use Rattle.sketchfile.proofs.Filling.{filled_all, counts_long, idsums_long, Agrees, agrees_none, agrees_all}
use Rattle.sketchfile.proofs.Rewriting.{rewritten_all, same_bytes}
use Rattle.params.specs.Answers.{Done}

lengths_good : (P : Params) (c s : ℕ) → c ≡ size P → s ≡ size P → lengths_answer P c s ≡ Done
unfolding lengths_answer
lengths_good P c s e h = rw (eq-eqb c (size P) e, eq-eqb s (size P) h)

-- a sketch that can be written is, where there is room for its file
pub writable_done : (P : Params) (S : Sketch) (o : ℕ) → Writable P S → length (sketch_bytes P S) ≤ o → sketch_write_answer P S o ≡ Done
unfolding sketch_write_answer lent_answer
writable_done P S o h l =
    first_passed (lent_answer P (length S.counts) (length S.idsums)) _ (rw h.good (lengths_good P _ _ h.counts h.idsums))
    ∙ (rw (le-ltb o (length (sketch_bytes P S)) l) (refuse_none (size P) (damaged_at S) Damage Done h.undamaged))

-- the file of such a sketch is accepted, and holds the sketch
module _ (P : Params) (S : Sketch) (able : Writable P S) where
  abbrev file : List ℕ
  file = sketch_bytes P S

  abbrev number : ℕ
  number = nonzero_from 0 (size P) S

  abbrev before : List ℕ
  before = head_bytes P ++ buckets_bytes 0 (size P) S

  file_is : file ≡ before ++ end_bytes number
  unfolding sketch_bytes
  file_is = sym (append_assoc (head_bytes P) (buckets_bytes 0 (size P) S) (end_bytes number))

  -- its head is as long as the profile says, so the places of its records are known
  abbrev place : ℕ → ℕ
  place k = head_length_of P + bucket_length * k

  place_is : (k : ℕ) → bucket_offset file k ≡ place k
  unfolding sketch_bytes
  place_is k = ap (λ (o : ℕ). o + bucket_length * k) (headed_length P (buckets_bytes 0 (size P) S ++ end_bytes number))

  end_place : length before ≡ place number
  end_place = headed_long P (buckets_bytes 0 (size P) S) ∙ ap (λ (n : ℕ). head_length_of P + n) (buckets_long S 0 (size P))

  short : size P ≤ 65536
  short = dimensions_small (good_dimensions_lem P able.good)

  agrees : Agrees P file S number (size P)
  unfolding sketch_bytes
  agrees =
      let start : length (head_bytes P) ≡ bucket_offset file 0 = omega (arith, length_head_bytes P, place_is 0) in
      rw (zero-add number) at (agrees_all P file S (end_bytes number) short able.undamaged (size P) 0 0 (head_bytes P) start refl (zero-add (size P)) (agrees_none P file S))

  ended : end_answer file (bucket_offset file number) number ≡ Done
  ended =
      ap₂ (λ (xs : List ℕ) (o : ℕ). end_answer xs o number) file_is (place_is number)
      ∙ end_written before (place number) number end_place (omega (arith, short, left_few S 0 (size P)))

  counted : buckets_in file ≡ number
  unfolding end_bytes
  counted =
      let long : length file ≡ place number + length (end_bytes number) = ap length file_is ∙ length-append before (end_bytes number) ∙ ap (λ (n : ℕ). n + length (end_bytes number)) end_place in
      let four : get_or file (bucket_offset file number) 0 ≡ end_kind =
      ap₂ (λ (xs : List ℕ) (o : ℕ). get_or xs o 0) file_is (place_is number) ∙ get_or_at before end_kind (word_bytes number) 0 (place number) end_place in
      records_are bucket_kind (bucket_offset file) file number (omega arith) agrees.kinds (not_kind file (bucket_offset file number) bucket_kind (λ q. omega arith))

  pub file_accepted : (c s : ℕ) → c ≡ size P → s ≡ size P → sketch_answer P file c s ≡ Done
  unfolding sketch_bytes buckets_judged
  file_accepted c s e h =
      let judged = in_turn_done number (bucket_judged (size P) file) agrees.judged in
      sketch_opening P file c s
      ∙ first_passed (opening_answer P file c s) _ (opening_written P _ c s able.good ∙ lengths_good P c s e h)
      ∙ rw counted (first_passed (in_turn 0 number (bucket_judged (size P) file)) _ judged ∙ ended)

  pub file_content : sketch_in P file ≡ S
  unfolding sketch_in
  file_content =
      ap (λ (n : ℕ). stored file n (zeros P)) counted
      ∙ ap₂ sketch
      (filled_all (pos 0) S.counts (counts_long P file number) able.counts agrees.counts)
      (filled_all 0 S.idsums (idsums_long P file number) able.idsums agrees.idsums)

-- an accepted file is that of the sketch that it holds, which can be written
pub accepted : (P : Params) (bs : List ℕ) (c s : ℕ) → ((k : ℕ) → get_or bs k 0 < 256) → sketch_answer P bs c s ≡ Done
    → Writable P (sketch_in P bs) × (sketch_bytes P (sketch_in P bs) ≡ bs)
unfolding buckets_judged sketch_in
accepted P bs c s small e =
    let n = buckets_in bs in
    let h = first_done (opening_answer P bs c s) (buckets_judged (size P) bs) (sym (sketch_opening P bs c s) ∙ e) in
    let opened = opening_done P bs c s h.0 in
    let k = first_done (in_turn 0 n (bucket_judged (size P) bs)) (end_answer bs (bucket_offset bs n) n) h.1 in
    let long = opened_length opened in
    let head = head_read bs small P opened.head opened.file_good opened.same ∙ ap (λ (o : ℕ). take o bs) (sym long) in
    let r = rewritten_all P bs small n head (whole_within bucket_kind (bucket_offset bs) bs) (done_in_turn n (bucket_judged (size P) bs) k.0) in
    let able : Writable P (stored bs n (zeros P)) = record { good = opened.good; counts = counts_long P bs n; idsums = idsums_long P bs n; undamaged = λ x l. r.undamaged x } in
    (able, same_bytes P bs small n (lowest bs n) (stored bs n (zeros P)) long r k.1)
