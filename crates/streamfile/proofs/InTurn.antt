-- Packets that go in one after the other: how far a reader has come, a packet more, one that is refused, and the end of a stream.
use mathlib.Core.Path.{◌≡◌, refl, sym, ap, ◌∙◌}
use mathlib.Core.Bool.{false}
use mathlib.Core.List.{List}
use Prim.Native.Nat.{ℕ, ◌+◌, ◌≤◌, ◌<◌}
use native.Mathlib.Omega.{arith}
use borrow.Author.Count.{below_more}
use lib.ListN.{length, get_or, take}
use Rattle.params.specs.declared.answers.Refused.{Refused as RefusedAt}
use Rattle.params.specs.declared.params.Params.{Params}
use Rattle.sketch.specs.Sketch.{Sketch}
use Rattle.sketch.specs.Packets.{step_answer, changed, after, Accepted}
use Rattle.params.proofs.Judging.{first_refused, first_passed}
use Rattle.sketch.proofs.ManyPackets.{after_more, after_end_lem}
use Rattle.files.specs.Records.{record_at, is_kind, packets_kind, head_length_in, packets_length}
use Rattle.files.specs.Turns.{at_offset, packet_from, packet_offset, end_answer}
use Rattle.files.proofs.Standing.{kind_ends}
use Rattle.files.proofs.Turning.{Come, come_start, come_next, come_end, come_within, in_turn_refused, in_turn_done}
use Rattle.streamfile.specs.Streams.{packets_from, flows_from, numbers_from, packets_in, packet_judged, packets_judged}
use Rattle.streamfile.proofs.Found.{There, length_flows, length_numbers, flow_is, number_is}
use Rattle.params.specs.Answers.{Done, Refused}
use Rattle.std.specs.Prelude.{Err}

-- the packets from an offset o on, into S
module _ (P : Params) (o : ℕ) (bs : List ℕ) (S : Sketch) where
  -- n of them went in and made T
  pub record Gone (n : ℕ) (T : Sketch) : Type 0 where
    pub come : Come packets_kind (packet_from o) bs n
    pub accepted : Accepted P (flows_from o bs) (numbers_from o bs) S n
    pub made : T ≡ after P (take n (flows_from o bs)) (take n (numbers_from o bs)) S

  pub gone_none : Gone 0 S
  unfolding after
  gone_none = record { come = come_start packets_kind (packet_from o) bs; accepted = λ j l. absurd (omega arith); made = refl }

  pub gone_within : (n : ℕ) (T : Sketch) → Gone n T → n ≤ packets_from o bs
  gone_within n T g = come_within packets_kind (packet_from o) bs n g.come

  module _ (n : ℕ) (T : Sketch) (g : Gone n T) where
    -- a record of packets stands next
    module _ (f k : ℕ) (there : There bs (packet_from o n) f k) where
      pub next_ends : packet_from o n + packets_length ≤ length bs
      next_ends = omega (arith, kind_ends packets_kind bs (packet_from o n) there.whole)

      come_more : Come packets_kind (packet_from o) bs (n + 1)
      come_more = come_next packets_kind (packet_from o) bs n (omega (arith, next_ends)) there.whole g.come

      pub one_of_them : n < packets_from o bs
      one_of_them = omega (arith, come_within packets_kind (packet_from o) bs (n + 1) come_more)

      flow_found : f ≡ get_or (flows_from o bs) n 0
      flow_found = there.flow ∙ flow_is o bs n one_of_them

      number_found : k ≡ get_or (numbers_from o bs) n 0
      number_found = there.number ∙ number_is o bs n one_of_them

      pub gone_more : (T' : Sketch) → step_answer P false f k T ≡ Done → T' ≡ changed P false f k T → Gone (n + 1) T'
      gone_more T' e q =
          record {
            come = come_more;
            accepted = below_more _ _ g.accepted (rw (← flow_found, ← number_found, ← g.made) e);
            made = after_more P (flows_from o bs) (numbers_from o bs) S n T T' (rw (length_flows o bs) one_of_them) (rw (length_numbers o bs) one_of_them) g.made (rw (← flow_found, ← number_found) q);
          }

    -- no record of packets stands next
    module _ (none : is_kind packets_kind (record_at bs (packet_from o n)) ≡ false) where
      pub all_gone : n ≡ packets_from o bs
      all_gone = come_end packets_kind (packet_from o) bs n none g.come

      pub gone_all : T ≡ after P (flows_from o bs) (numbers_from o bs) S
      gone_all =
          let long : packets_from o bs ≤ n = omega (arith, all_gone) in
          g.made ∙ after_end_lem P (flows_from o bs) (numbers_from o bs) n S (rw (length_flows o bs) long) (rw (length_numbers o bs) long)

-- a stream's packets, after its head, and its end
module _ (P : Params) (bs : List ℕ) (S : Sketch) (n : ℕ) (T : Sketch) (g : Gone P (head_length_in bs) bs S n T) where
  -- every packet before was accepted
  passed : (j : ℕ) → j < n → packet_judged P bs S j ≡ Done
  unfolding packet_judged at_offset
  passed j l =
      let one : j < packets_in bs = omega (arith, gone_within P (head_length_in bs) bs S n T g) in
      rw (flow_is (head_length_in bs) bs j one, number_is (head_length_in bs) bs j one, g.accepted j l)

  -- one that is refused decides
  pub packet_refused : (f k : ℕ) → There bs (packet_offset bs n) f k → (r : RefusedAt) → Err r ≡ step_answer P false f k T → Refused r.0 (packet_offset bs n) ≡ packets_judged P bs S
  unfolding packet_judged packets_judged at_offset
  packet_refused f k there r e =
      let here : Refused r.0 (packet_offset bs n) ≡ packet_judged P bs S n = rw (← there.flow, ← there.number, ← g.made, ← e) in
      first_refused _ _ _ (in_turn_refused (packets_in bs) n (packet_judged P bs S) _ (one_of_them P (head_length_in bs) bs S n T g f k there) passed here refl) refl

  pub end_judged : is_kind packets_kind (record_at bs (packet_offset bs n)) ≡ false → end_answer bs (packet_offset bs n) n ≡ packets_judged P bs S
  unfolding packets_judged
  end_judged none =
      let all = all_gone P (head_length_in bs) bs S n T g none in
      ap (λ (j : ℕ). end_answer bs (packet_offset bs j) j) all
      ∙ sym (first_passed _ _ (in_turn_done (packets_in bs) (packet_judged P bs S) (λ j l. passed j (omega (arith, all)))))
