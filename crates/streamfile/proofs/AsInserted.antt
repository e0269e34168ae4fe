-- A stream's reading is the insertion of its packets in turn, so histories go on with it; a refused one keeps the sketch.
use mathlib.Core.Path.{◌≡◌, refl, sym, ap, ◌∙◌}
use mathlib.Core.Bool.{false}
use mathlib.Core.List.{List, ◌++◌}
use Prim.Native.Nat.{ℕ, zero, suc, ◌+◌, ◌<◌}
use native.Mathlib.Numerals.{add-one}
use native.Mathlib.Nat.{zero-add}
use native.Mathlib.Omega.{arith}
use lib.ListN.{get_or, drop}
use lib.Seq.{drop-cons}
use Rattle.params.specs.declared.params.Params.{Params}
use Rattle.params.specs.declared.answers.Refusal.{Refusal}
use Rattle.params.specs.Answers.{number_in, first, kept, Answer, Done, Refused}
use Rattle.params.specs.Params.{lent_answer}
use Rattle.sketch.specs.Sketch.{Sketch, Entry}
use Rattle.sketch.specs.Packets.{step_answer, changed, after, packets_answer, AllInserted, entries_of}
use Rattle.sums.specs.History.{History, inserting_all}
use Rattle.params.proofs.Judging.{number_done}
use Rattle.sketch.proofs.ManyPackets.{after_more, packets_end, all_in_turn}
use Rattle.files.specs.Turns.{at_offset, in_turn, packet_offset}
use Rattle.files.specs.Records.{head_length_in}
use Rattle.streamfile.specs.Streams.{packets_in, flows_in, numbers_in, after_first, packet_judged, StreamRead}
use Rattle.streamfile.proofs.Found.{length_flows, length_numbers, flow_is, number_is}
use Rattle.streamfile.proofs.Accepting.{stream_done}
use Rattle.std.specs.Prelude.{Err}

-- an offset in place of the index is no other number
first_at_offset : (at : ℕ) (r next later : Answer) → number_in next ≡ number_in later → number_in (first (at_offset at r) next) ≡ number_in (first r later)
unfolding first at_offset
first_at_offset at Done next later e = e
first_at_offset at (Err r) next later e = refl

module _ (P : Params) (bs : List ℕ) (S : Sketch) where
  -- packet i goes into T, which those before it left
  module _ (i : ℕ) (T : Sketch) (one : i < packets_in bs) (made : T ≡ after_first P bs i S) where
    abbrev flow : ℕ
    flow = get_or (flows_in bs) i 0

    abbrev number : ℕ
    number = get_or (numbers_in bs) i 0

    abbrev next : Sketch
    next = changed P false flow number T

    judged_so : packet_judged P bs S i ≡ at_offset (packet_offset bs i) (step_answer P false flow number T)
    unfolding packet_judged
    judged_so = rw (flow_is (head_length_in bs) bs i one, number_is (head_length_in bs) bs i one, made)

    opened : packets_answer P (drop i (flows_in bs)) (drop i (numbers_in bs)) T
        ≡ first (step_answer P false flow number T) (packets_answer P (drop (suc i) (flows_in bs)) (drop (suc i) (numbers_in bs)) next)
    unfolding packets_answer
    opened = rw (drop-cons (flows_in bs) i 0 (rw (length_flows (head_length_in bs) bs) one), drop-cons (numbers_in bs) i 0 (rw (length_numbers (head_length_in bs) bs) one))

    made_next : next ≡ after_first P bs (suc i) S
    made_next =
        after_more P (flows_in bs) (numbers_in bs) S i T next (rw (length_flows (head_length_in bs) bs) one) (rw (length_numbers (head_length_in bs) bs) one) made refl
        ∙ ap (λ (j : ℕ). after_first P bs j S) (add-one i)

  -- from there on, the records are judged as the packets are, save for the offset
  judged_from : (n i : ℕ) (T : Sketch) → i + n ≡ packets_in bs → T ≡ after_first P bs i S
      → number_in (in_turn i n (packet_judged P bs S)) ≡ number_in (packets_answer P (drop i (flows_in bs)) (drop i (numbers_in bs)) T)
  unfolding in_turn
  judged_from zero i T e made = sym (ap number_in (packets_end P (flows_in bs) (numbers_in bs) i T (omega (arith, length_flows (head_length_in bs) bs))))
  judged_from (suc n) i T e made =
      let one : i < packets_in bs = omega arith in
      ap (λ (r : Answer). number_in (first r (in_turn (suc i) n (packet_judged P bs S)))) (judged_so i T one made)
      ∙ first_at_offset (packet_offset bs i) _ _ _ (judged_from n (suc i) (next i T one made) (omega arith) (made_next i T one made))
      ∙ sym (ap number_in (opened i T one made))

  pub packets_judged_lem : number_in (in_turn 0 (packets_in bs) (packet_judged P bs S)) ≡ number_in (packets_answer P (flows_in bs) (numbers_in bs) S)
  unfolding after
  packets_judged_lem = judged_from (packets_in bs) 0 S (zero-add (packets_in bs)) refl

-- so a stream that is accepted was inserted
pub reads_as_inserted : {P : Params} {bs : List ℕ} {S S' : Sketch} → StreamRead P bs S Done S' → AllInserted P (flows_in bs) (numbers_in bs) S Done S'
unfolding lent_answer
reads_as_inserted {P} {bs} {S} {S'} r =
    let done = stream_done P bs S (sym r.answer) in
    all_in_turn P (flows_in bs) (numbers_in bs) S Done S' (rw done.opened.good done.opened.lengths) (length_flows (head_length_in bs) bs ∙ sym (length_numbers (head_length_in bs) bs))
    (record { answer = sym (number_done _ (sym (packets_judged_lem P bs S) ∙ ap number_in done.in_turn_lem)); after_all = r.after_all })

-- and a history goes on with it
pub reading_on : {P : Params} {es : List Entry} {bs : List ℕ} {S S' : Sketch} → History P es S → StreamRead P bs S Done S' → History P (es ++ entries_of (flows_in bs) (numbers_in bs)) S'
reading_on h r = inserting_all h (reads_as_inserted r)

-- a refusal keeps the sketch that was lent
pub refused_keeps : {P : Params} {bs : List ℕ} {S S' : Sketch} {w : Refusal} {k : ℕ} → StreamRead P bs S (Refused w k) S' → S' ≡ S
unfolding kept
refused_keeps r = r.after_all
