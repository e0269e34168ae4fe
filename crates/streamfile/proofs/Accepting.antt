-- What holds of an accepted stream: of its opening, of the sketch, of every packet, and of its end.
use mathlib.Core.Path.{◌≡◌, refl, sym, ◌∙◌}
use mathlib.Core.Bool.{false}
use mathlib.Core.List.{List}
use Prim.Native.Nat.{ℕ, ◌≤◌, ◌<◌}
use native.Mathlib.Omega.{arith}
use lib.ListN.{length}
use Rattle.params.specs.declared.params.Params.{Params}
use Rattle.params.specs.declared.answers.Refusal.TheVariants.{Damage}
use Rattle.params.specs.Params.{size}
use Rattle.sketch.specs.Sketch.{Sketch, damaged_at}
use Rattle.sketch.specs.Packets.{Accepted}
use Rattle.params.proofs.Judging.{first_done, refuse_at_done}
use Rattle.files.proofs.HeadStages.{opening_answer, opening_first}
use Rattle.files.specs.Turns.{at_offset, in_turn, packet_offset, end_answer}
use Rattle.files.specs.Records.{head_length_in}
use Rattle.files.proofs.HeadTrips.{Opened, opening_done}
use Rattle.files.proofs.Turning.{done_in_turn}
use Rattle.streamfile.specs.Streams.{packets_in, flows_in, numbers_in, packet_judged, packets_judged, stream_answer}
use Rattle.streamfile.proofs.Found.{flow_is, number_is}
use Rattle.params.specs.Answers.{refuse_at, first, Answer, Done}
use Rattle.std.specs.Prelude.{Err}

at_offset_done : (at : ℕ) (r : Answer) → at_offset at r ≡ Done → r ≡ Done
unfolding at_offset
at_offset_done at Done e = refl
at_offset_done at (Err r) e = cc

module _ (P : Params) (bs : List ℕ) (S : Sketch) where
  -- the parameters and the lengths, then the rest
  pub stream_opening : stream_answer P bs S
      ≡ first (opening_answer P bs (length S.counts) (length S.idsums)) (refuse_at (size P) (damaged_at S) Damage (packets_judged P bs S))
  unfolding stream_answer
  stream_opening = opening_first P bs _ _ _

  -- packets whose records were not refused
  pub judged_accepted : (i : ℕ) → i ≤ packets_in bs → ((j : ℕ) → j < i → packet_judged P bs S j ≡ Done) → Accepted P (flows_in bs) (numbers_in bs) S i
  unfolding packet_judged
  judged_accepted i h judged j l =
      let one : j < packets_in bs = omega arith in
      rw (← flow_is (head_length_in bs) bs j one, ← number_is (head_length_in bs) bs j one) (at_offset_done (packet_offset bs j) _ (judged j l))

  pub record StreamDone : Type 0 where
    pub opened : Opened P bs (length S.counts) (length S.idsums)
    pub undamaged : (k : ℕ) → k < size P → damaged_at S k ≡ false
    pub in_turn_lem : in_turn 0 (packets_in bs) (packet_judged P bs S) ≡ Done
    pub accepted : Accepted P (flows_in bs) (numbers_in bs) S (packets_in bs)
    pub ended : end_answer bs (packet_offset bs (packets_in bs)) (packets_in bs) ≡ Done

  pub stream_done : stream_answer P bs S ≡ Done → StreamDone
  unfolding packets_judged
  stream_done e =
      let h = first_done (opening_answer P bs (length S.counts) (length S.idsums)) _ (sym stream_opening ∙ e) in
      let k = refuse_at_done (size P) (damaged_at S) Damage (packets_judged P bs S) h.1 in
      let l = first_done (in_turn 0 (packets_in bs) (packet_judged P bs S)) _ k.1 in
      record {
        opened = opening_done P bs (length S.counts) (length S.idsums) h.0;
        undamaged = k.0;
        in_turn_lem = l.0;
        accepted = judged_accepted (packets_in bs) (omega arith) (done_in_turn (packets_in bs) (packet_judged P bs S) l.0);
        ended = l.1;
      }
