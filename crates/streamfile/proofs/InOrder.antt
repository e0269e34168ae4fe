-- What goes with each refusal of a stream: the head and the lengths come first, then the sketch's damage, then the packets in turn, then the end. And what a stream's writer returns.
use mathlib.Core.Path.{◌≡◌, refl, sym, ap, ◌∙◌}
use mathlib.Core.Bool.{true, false, not, ◌&&◌}
use mathlib.Core.Logic.{⊎_elim}
use mathlib.Core.List.{List}
use Prim.Native.Nat.{ℕ, ◌≤◌, ◌<◌}
use native.Mathlib.Omega.{arith}
use lib.Dec.{eqb, leb, ltb}
use lib.ListN.{length}
use Rattle.params.specs.declared.params.Params.{Params}
use Rattle.params.specs.declared.answers.Refusal.{Refusal}
use Rattle.params.specs.declared.answers.Refusal.TheVariants.{Param, Length, Flow, Count, Damage, Form}
use Rattle.params.specs.Lists.{below}
use Rattle.params.specs.Answers.{number_of, number_in, index_in, refuse_at, Answer, Done, Refused, Given, value_in}
use Rattle.params.specs.Params.{size, good_params}
use Rattle.sketch.specs.Sketch.{Sketch, damaged_at}
use Rattle.sketch.specs.Packets.{step_answer, Accepted}
use Rattle.params.proofs.Judging.{first_either}
use Rattle.sketch.proofs.Steps.{move_good}
use Rattle.params.proofs.Lowest.{Lowest, refuse_at_lem}
use Rattle.params.specs.Faults.{order, first_of}
use Rattle.sketch.specs.Faults.{move_fault}
use Rattle.streamfile.specs.Faults.{write_fault}
use Rattle.params.proofs.InOrder.{lowest_first, refuse_number, cond_either}
use Rattle.sketch.proofs.InOrder.{move_number}
use Rattle.files.proofs.HeadStages.{opening_answer}
use Rattle.files.specs.Turns.{at_offset, in_turn, packet_offset, end_answer}
use Rattle.files.proofs.HeadTrips.{Opened, opening_done}
use Rattle.files.proofs.Turning.{Earliest, in_turn_earliest, done_in_turn}
use Rattle.files.specs.Faults.{opening_order, opening_fault}
use Rattle.files.proofs.InOrder.{opening_number, opening_index, EndFault, end_fault, refuse_start, written_number_lem, written_index_lem, written_length_lem, refused_as_it_was}
use Rattle.streamfile.specs.Streams.{packets_in, packet_flow, packet_number, flows_in, numbers_in, after_first, packet_judged, packets_judged, stream_answer}
use Rattle.streamfile.specs.Writing.{stream_bytes, is_flow_at, is_number_at, stream_write_answer, StreamWritten}
use Rattle.streamfile.proofs.Accepting.{stream_opening, judged_accepted}
use Rattle.std.specs.Prelude.{Err}

module _ (P : Params) (bs : List ℕ) (S : Sketch) (w : Refusal) (k : ℕ) where
  -- the earliest packet at fault: those before it were accepted, the first of its faults decides the number, and its offset goes with it
  pub record PacketFault : Type 0 where
    pub which : ℕ
    pub one : which < packets_in bs
    pub accepted : Accepted P (flows_in bs) (numbers_in bs) S which
    pub number : number_of w ≡ first_of order (move_fault P false (packet_flow bs which) (packet_number bs which) (after_first P bs which S))
    pub place : k ≡ packet_offset bs which

  pub data StreamFault : Type 0 where
    in_opening : number_of w ≡ first_of opening_order (opening_fault P bs (length S.counts) (length S.idsums)) → k ≡ 0 → StreamFault
    in_sketch : Opened P bs (length S.counts) (length S.idsums) → w ≡ Damage → Lowest (size P) (damaged_at S) k → StreamFault
    in_packet : Opened P bs (length S.counts) (length S.idsums) → ((j : ℕ) → j < size P → damaged_at S j ≡ false) → PacketFault → StreamFault
    in_end : Opened P bs (length S.counts) (length S.idsums) → ((j : ℕ) → j < size P → damaged_at S j ≡ false)
        → Accepted P (flows_in bs) (numbers_in bs) S (packets_in bs) → w ≡ Form → EndFault bs (packet_offset bs (packets_in bs)) (packets_in bs) k → StreamFault

  refused_there : (at : ℕ) (r : Answer) → at_offset at r ≡ Refused w k → (number_of w ≡ number_in r) × (k ≡ at)
  unfolding at_offset
  refused_there at Done e = (cc, cc)
  refused_there at (Err r) e = (sym (ap number_in e), sym (ap index_in e))

  packet_fault_lem : good_params P ≡ true → Earliest (packets_in bs) (packet_judged P bs S) (Refused w k) → PacketFault
  unfolding packet_judged
  packet_fault_lem good r =
      let j = r.which in
      let there = refused_there (packet_offset bs j) (step_answer P false (packet_flow bs j) (packet_number bs j) (after_first P bs j S)) r.here in
      let moved = move_good P false (packet_flow bs j) (packet_number bs j) (after_first P bs j S) good in
      record {
        which = j;
        one = r.one;
        accepted = judged_accepted P bs S j (omega (arith, r.one)) r.before;
        number = there.0 ∙ ap number_in (sym moved) ∙ move_number P false (packet_flow bs j) (packet_number bs j) (after_first P bs j S);
        place = there.1;
      }

  records_fault : Opened P bs (length S.counts) (length S.idsums) → ((j : ℕ) → j < size P → damaged_at S j ≡ false) → packets_judged P bs S ≡ Refused w k → StreamFault
  unfolding packets_judged
  records_fault opened undamaged e =
      let n = packets_in bs in
      let judge = packet_judged P bs S in
      ⊎_elim
      (λ h. in_packet opened undamaged (packet_fault_lem opened.good (in_turn_earliest n judge w k h)))
      (λ h. let end = end_fault bs (packet_offset bs n) n w k h.1 in in_end opened undamaged (judged_accepted P bs S n (omega arith) (done_in_turn n judge h.0)) end.0 end.1)
      (first_either (in_turn 0 n judge) (end_answer bs (packet_offset bs n) n) w k e)

  past_opening : Opened P bs (length S.counts) (length S.idsums) → refuse_at (size P) (damaged_at S) Damage (packets_judged P bs S) ≡ Refused w k → StreamFault
  past_opening opened e =
      ⊎_elim
      (λ h. in_sketch opened (sym h.0) h.1)
      (λ h. records_fault opened h.0 h.1)
      (refuse_at_lem (size P) (damaged_at S) Damage w k (packets_judged P bs S) e)

  pub stream_fault : stream_answer P bs S ≡ Refused w k → StreamFault
  stream_fault e =
      let c = length S.counts in
      let s = length S.idsums in
      ⊎_elim
      (λ h. in_opening (sym (ap number_in h) ∙ opening_number P bs c s) (sym (ap index_in h) ∙ opening_index P bs c s))
      (λ h. past_opening (opening_done P bs c s h.0) h.1)
      (first_either (opening_answer P bs c s) _ w k (sym (stream_opening P bs S) ∙ e))

module _ (P : Params) (fs ns : List ℕ) (o : ℕ) where
  writing_number : number_in (stream_write_answer P fs ns o) ≡ first_of order (write_fault P fs ns o)
  unfolding stream_write_answer
  writing_number = simp (refuse_number, cond_either)

  writing_index : index_in (stream_write_answer P fs ns o) ≡ 0
  unfolding stream_write_answer
  writing_index =
      refuse_start (not (good_params P)) Param _
      (refuse_start (not (eqb (length fs) (length ns) && leb (length fs) 65536)) Length _
      (refuse_start (ltb o (length (stream_bytes P fs ns))) Length _
      (refuse_start (not (below (length fs) (is_flow_at P fs))) Flow _
      (refuse_start (not (below (length ns) (is_number_at ns))) Count Done refl))))

-- h is what the contract of `write_stream` gives
module _ {P : Params} {fs ns out : List ℕ} {r : Given ℕ} {out' : List ℕ} (h : StreamWritten P fs ns out r out') where
  abbrev judged : Answer
  judged = stream_write_answer P fs ns (length out)

  abbrev long : ℕ
  long = length (stream_bytes P fs ns)

  -- the first fault that applies decides the number, 0 where none does
  pub write_stream_number : number_in r ≡ first_of order (write_fault P fs ns (length out))
  write_stream_number = written_number_lem judged long h.answer ∙ writing_number P fs ns (length out)

  -- so no fault that applies has a lower number
  pub write_stream_least_number : (w : Refusal) → write_fault P fs ns (length out) w ≡ true → number_in r ≤ number_of w
  write_stream_least_number w e = rw write_stream_number (lowest_first (write_fault P fs ns (length out)) refl refl w e)

  -- 0 goes with it
  pub write_stream_index : index_in r ≡ 0
  write_stream_index = written_index_lem judged long h.answer ∙ writing_index P fs ns (length out)

  -- where nothing is at fault the file's length is returned
  pub write_stream_length : number_in r ≡ 0 → value_in r ≡ length (stream_bytes P fs ns)
  write_stream_length e = written_length_lem judged long h.answer e

  -- a refused writer writes nothing
  pub write_stream_refused : {w : Refusal} {k : ℕ} → r ≡ Refused w k → out' ≡ out
  write_stream_refused e = h.bytes ∙ refused_as_it_was judged long h.answer out _ e
