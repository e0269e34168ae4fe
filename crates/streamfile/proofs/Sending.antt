-- Packets that can be written as a stream: their file holds them, and is read as they are inserted.
use mathlib.Core.Path.{◌≡◌, sym, ap, ap₂, ◌∙◌}
use mathlib.Core.Bool.{true, false, not}
use mathlib.Core.List.{List, ◌++◌, append_assoc}
use Prim.Native.Nat.{ℕ, suc, ◌+◌, ◌*◌, ◌≤◌, ◌<◌}
use native.Mathlib.Omega.{arith}
use borrow.Author.Tests.{eq-eqb, not-false}
use lib.Dec.{eqb}
use lib.ListN.{length, get_or, take, drop, length-append}
use lib.Seq.{ext_get_or, get_or_at, length-take-le}
use Rattle.params.specs.declared.params.Params.{Params}
use Rattle.params.specs.declared.answers.Refusal.TheVariants.{Length, Flow, Count, Damage}
use Rattle.params.specs.Lists.{below}
use Rattle.params.specs.Answers.{number_in, refuse_if, refuse_at, first, Answer, Done}
use Rattle.params.specs.Params.{prime, is_flow, size, good_params, lent_answer}
use Rattle.sketch.specs.Sketch.{Sketch, damaged_at}
use Rattle.sketch.specs.Packets.{packets_answer, all_answer}
use Rattle.params.proofs.Searches.{below_at, all_below}
use Rattle.params.proofs.Rules.{flow_below}
use Rattle.buckets.proofs.Limits.{number_within, number_back}
use Rattle.sketch.proofs.Steps.{step_done}
use Rattle.params.proofs.Judging.{first_end, first_number_lem, refuse_done, refuse_none}
use Rattle.files.specs.Bytes.{word_bytes}
use Rattle.files.proofs.HeadStages.{opening_answer}
use Rattle.files.specs.Layout.{head_bytes, packet_bytes, end_bytes}
use Rattle.files.specs.Turns.{packet_from, packet_offset, in_turn, end_answer}
use Rattle.files.specs.Heads.{head_length_of}
use Rattle.files.specs.Records.{packets_kind, head_length_in, packets_length}
use Rattle.files.proofs.HeadTrips.{headed_long, headed_length, opening_written}
use Rattle.files.proofs.RecordTrips.{not_kind, end_written}
use Rattle.files.proofs.Turning.{records_are}
use Rattle.streamfile.specs.Streams.{packets_in, flows_in, numbers_in, after_first, packet_judged, packets_judged, stream_answer}
use Rattle.streamfile.specs.Writing.{packets_bytes, stream_bytes, is_flow_at, is_number_at, stream_write_answer}
use Rattle.streamfile.proofs.Written.{packets_long, stream_long, Passed, writing_passed, stream_passed}
use Rattle.streamfile.proofs.Found.{There, length_flows, length_numbers, flow_is, number_is}
use Rattle.streamfile.proofs.Accepting.{stream_opening, StreamDone}
use Rattle.streamfile.proofs.AsInserted.{packets_judged_lem}
use Rattle.streamfile.proofs.PacketTrips.{packet_written, packet_among}

-- packets whose writing is not refused
pub record Sendable (P : Params) (fs ns : List ℕ) : Type 0 where
  pub good : good_params P ≡ true
  pub same : length fs ≡ length ns
  pub few : length fs ≤ 65536
  pub flows : (k : ℕ) → k < length fs → is_flow P (get_or fs k 0) ≡ true
  pub numbers : (k : ℕ) → k < length ns → (1 ≤ get_or ns k 0) × (get_or ns k 0 < prime)

pub sending_done : (P : Params) (fs ns : List ℕ) (o : ℕ) → stream_write_answer P fs ns o ≡ Done → Sendable P fs ns
unfolding is_flow_at is_number_at
sending_done P fs ns o e =
    let passed = writing_passed P fs ns o e in
    let f = refuse_done (not (below (length fs) (is_flow_at P fs))) Flow 0 _ (sym (stream_passed P fs ns o passed) ∙ e) in
    let n = refuse_done (not (below (length ns) (is_number_at ns))) Count 0 Done f.1 in
    record {
      good = passed.good;
      same = passed.same;
      few = passed.few;
      flows = λ x i. below_at (length fs) x (is_flow_at P fs) (not-false _ f.0) i;
      numbers = λ x i. number_within (get_or ns x 0) (below_at (length ns) x (is_number_at ns) (not-false _ n.0) i);
    }

pub sendable_done : (P : Params) (fs ns : List ℕ) (o : ℕ) → Sendable P fs ns → length (stream_bytes P fs ns) ≤ o → stream_write_answer P fs ns o ≡ Done
unfolding is_flow_at is_number_at
sendable_done P fs ns o h l =
    let passed : Passed P fs ns o = record { good = h.good; same = h.same; few = h.few; room = omega (arith, stream_long P fs ns h.same) } in
    let flows = all_below (length fs) (is_flow_at P fs) h.flows in
    let numbers = all_below (length ns) (is_number_at ns) (λ k i. let n = h.numbers k i in number_back (get_or ns k 0) n.0 n.1) in
    stream_passed P fs ns o passed ∙ rw (flows, numbers)

-- so are those that were read from a stream, if they are not too many
pub read_sendable : {P : Params} {bs : List ℕ} {S : Sketch} → StreamDone P bs S → packets_in bs ≤ 65536 → Sendable P (flows_in bs) (numbers_in bs)
read_sendable {P} {bs} {S} done few =
    record {
      good = done.opened.good;
      same = length_flows (head_length_in bs) bs ∙ sym (length_numbers (head_length_in bs) bs);
      few = rw (length_flows (head_length_in bs) bs) few;
      flows = λ k l. (step_done P false _ _ (after_first P bs k S) (done.accepted k (rw (length_flows (head_length_in bs) bs) at l))).let_in.flow;
      numbers = λ k l.
          let in_order = (step_done P false _ _ (after_first P bs k S) (done.accepted k (rw (length_numbers (head_length_in bs) bs) at l))).let_in in
          (in_order.low, in_order.high);
    }

-- the file of such packets
module _ (P : Params) (fs ns : List ℕ) (able : Sendable P fs ns) where
  abbrev file : List ℕ
  file = stream_bytes P fs ns

  abbrev before : List ℕ
  before = head_bytes P ++ packets_bytes fs ns

  abbrev end : List ℕ
  end = end_bytes (length fs)

  file_is : file ≡ before ++ end
  unfolding stream_bytes
  file_is = sym (append_assoc (head_bytes P) (packets_bytes fs ns) end)

  -- its head is as long as the profile says, so the places of its packets are known
  abbrev place : ℕ → ℕ
  place k = packet_from (head_length_of P) k

  place_is : (k : ℕ) → packet_offset file k ≡ place k
  unfolding stream_bytes
  place_is k = ap (λ (o : ℕ). packet_from o k) (headed_length P (packets_bytes fs ns ++ end))

  end_place : length before ≡ place (length fs)
  end_place = headed_long P (packets_bytes fs ns) ∙ ap (λ (n : ℕ). head_length_of P + n) (packets_long fs ns able.same)

  -- packet k stands at its place
  there : (k : ℕ) → k < length fs → There file (packet_offset file k) (get_or fs k 0) (get_or ns k 0)
  unfolding stream_bytes
  there k l =
      let m : k < length ns = omega (arith, able.same) in
      let sofar = packets_bytes (take k fs) (take k ns) in
      let this = packet_bytes (get_or fs k 0) (get_or ns k 0) in
      let rest = packets_bytes (drop (suc k) fs) (drop (suc k) ns) in
      let form : file ≡ (head_bytes P ++ sofar) ++ (this ++ (rest ++ end)) = ap (λ (xs : List ℕ). head_bytes P ++ (xs ++ end)) (packet_among fs ns k l m) ∙ simp append_assoc in
      let fl : length (take k fs) ≡ k = length-take-le k fs (omega arith) in
      let nl : length (take k ns) ≡ k = length-take-le k ns (omega arith) in
      let long : length (head_bytes P ++ sofar) ≡ packet_offset file k = headed_long P sofar ∙ ap (λ (n : ℕ). head_length_of P + n) (packets_long (take k fs) (take k ns) (fl ∙ sym nl) ∙ ap (λ (n : ℕ). packets_length * n) fl) ∙ sym (place_is k) in
      packet_written file (head_bytes P ++ sofar) (rest ++ end) (packet_offset file k) _ _ form long (omega (arith, flow_below P (get_or fs k 0) (able.flows k l))) (omega (arith, (able.numbers k m).1))

  counted : packets_in file ≡ length fs
  unfolding end_bytes
  counted =
      let long : length file ≡ place (length fs) + length end = ap length file_is ∙ length-append before end ∙ ap (λ (n : ℕ). n + length end) end_place in
      let four : get_or file (packet_offset file (length fs)) 0 ≡ 4 =
      ap (λ (o : ℕ). get_or file o 0) (place_is (length fs)) ∙ ap (λ (xs : List ℕ). get_or xs (place (length fs)) 0) file_is ∙ get_or_at before 4 (word_bytes (length fs)) 0 (place (length fs)) end_place in
      records_are packets_kind (packet_offset file) file (length fs) (omega arith) (λ k l. (there k l).whole) (not_kind file (packet_offset file (length fs)) packets_kind (λ q. omega arith))

  ended : end_answer file (packet_offset file (packets_in file)) (packets_in file) ≡ Done
  ended =
      ap (λ (n : ℕ). end_answer file (packet_offset file n) n) counted
      ∙ ap₂ (λ (xs : List ℕ) (o : ℕ). end_answer xs o (length fs)) file_is (place_is (length fs))
      ∙ end_written before (place (length fs)) (length fs) end_place (omega (arith, able.few))

  -- so its flows and numbers are those that were given
  pub flows_back : flows_in file ≡ fs
  flows_back = ext_get_or 0 (flows_in file) fs (length_flows (head_length_in file) file ∙ counted) (λ k l. sym ((there k (at k l)).flow ∙ flow_is (head_length_in file) file k (rw (length_flows (head_length_in file) file) at l)))
    where
      at : (k : ℕ) → k < length (flows_in file) → k < length fs
      at k l = omega (arith, length_flows (head_length_in file) file, counted)

  pub numbers_back : numbers_in file ≡ ns
  numbers_back = ext_get_or 0 (numbers_in file) ns (length_numbers (head_length_in file) file ∙ counted ∙ able.same) (λ k l. sym ((there k (at k l)).number ∙ number_is (head_length_in file) file k (rw (length_numbers (head_length_in file) file) at l)))
    where
      at : (k : ℕ) → k < length (numbers_in file) → k < length fs
      at k l = omega (arith, length_numbers (head_length_in file) file, counted)

  -- and reading it into a sketch without damage answers as inserting them does, save for the place
  opening_is : (c s : ℕ) → opening_answer P file c s ≡ lent_answer P c s
  unfolding stream_bytes lent_answer
  opening_is c s = opening_written P _ c s able.good ∙ rw able.good

  records_number : (S : Sketch) → number_in (packets_judged P file S) ≡ number_in (packets_answer P fs ns S)
  unfolding packets_judged
  records_number S =
      ap number_in (first_end (in_turn 0 (packets_in file) (packet_judged P file S)) _ ended)
      ∙ packets_judged_lem P file S
      ∙ ap₂ (λ (fs ns : List ℕ). number_in (packets_answer P fs ns S)) flows_back numbers_back

  past_lent : (S : Sketch) → ((k : ℕ) → k < size P → damaged_at S k ≡ false)
      → number_in (refuse_at (size P) (damaged_at S) Damage (packets_judged P file S)) ≡ number_in (refuse_if (not (eqb (length fs) (length ns))) Length 0 (packets_answer P fs ns S))
  past_lent S undamaged =
      ap number_in (refuse_none (size P) (damaged_at S) Damage (packets_judged P file S) undamaged)
      ∙ records_number S
      ∙ rw (eq-eqb (length fs) (length ns) able.same)

  pub file_number : (S : Sketch) → ((k : ℕ) → k < size P → damaged_at S k ≡ false) → number_in (stream_answer P file S) ≡ number_in (all_answer P fs ns S)
  unfolding all_answer
  file_number S undamaged =
      ap number_in (stream_opening P file S)
      ∙ ap (λ (r : Answer). number_in (first r (refuse_at (size P) (damaged_at S) Damage (packets_judged P file S)))) (opening_is (length S.counts) (length S.idsums))
      ∙ first_number_lem (lent_answer P (length S.counts) (length S.idsums)) _ _ (past_lent S undamaged)
