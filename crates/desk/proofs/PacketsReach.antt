-- The packets of a stage are come to one by one, up to one that is refused.
use mathlib.Core.Path.{◌≡◌, refl, sym, ap, ap₂, ◌∙◌}
use mathlib.Core.Bool.{Bool, true, false, cond, true≢false}
use mathlib.Core.List.{List}
use Prim.Native.Nat.{ℕ, zero, suc, ◌+◌, ◌-◌, ◌*◌, ◌≤◌, ◌<◌}
use native.Mathlib.Nat.{add-zero}
use native.Mathlib.Numerals.{add-one}
use native.Mathlib.Omega.{arith}
use borrow.Author.Tests.{ltb-true}
use lib.Dec.{ltb}
use lib.ListN.{take, drop}
use lib.Seq.{drop-drop}
use Rattle.params.specs.declared.params.Params.{Params}
use Rattle.params.specs.Answers.{kept, Answer, Done}
use Rattle.sketch.specs.Sketch.{Sketch}
use Rattle.sketch.specs.Packets.{changed, after}
use Rattle.sketch.proofs.ManyPackets.{after_more}
use Rattle.files.specs.Bytes.{word}
use Rattle.files.specs.Records.{record_at, is_kind, packets_kind, packets_length}
use Rattle.files.specs.Turns.{packet_from}
use Rattle.files.specs.Fields.{flow_field, number_field}
use Rattle.files.proofs.Turning.{whole_within}
use Rattle.streamfile.specs.Streams.{packets_from, flow_from, number_from, flows_from, numbers_from}
use Rattle.streamfile.proofs.Found.{length_flows, length_numbers, flow_is, number_is}
use Rattle.desk.specs.declared.states.State.{State}
use Rattle.desk.specs.Desk.{refuses, stage_after, record_answer, taken, taken_answer, after_taken, is_due, packets_state, packets_stage, packets_sketch, rest}
use Rattle.desk.proofs.InTheRest.{word_at, whole_left}
use Rattle.desk.proofs.Taking.{taken_within, accepted_before, next_refused}
use Rattle.desk.proofs.Back.{upstream_stage, downstream_stage}
use Rattle.desk.proofs.OneRecord.{Moment, lent, put_in, packet_answered, packet_first, one_at, waits_at}
use Rattle.desk.proofs.Reaching.{Reaches, stays, then, by_one, rest_none}
use Rattle.std.specs.Prelude.{Err}

-- one packet that stands first, where packets of the sketch's stream are due
packet_reach : (P : Params) (downstream : Bool) (bs : List ℕ) (k : Moment) (t : State) (T : Sketch) (r : Answer)
    → is_kind packets_kind (record_at bs 0) ≡ true → is_due downstream t.stage ≡ true → packet_first P bs T ≡ r
    → Reaches P bs (put_in downstream t T k) (rest t (packet_answered r t) bs) (put_in downstream (packet_answered r t) (kept r T (changed P false (word bs flow_field) (word bs number_field) T)) k)
unfolding one_at waits_at
packet_reach P false bs k t T r w due q = let e = upstream_stage t.stage due in by_one bs (put_in false t T k) _ (rw (e, w)) (rw (e, w, q))
packet_reach P true bs k t T r w due q = let e = downstream_stage t.stage due in by_one bs (put_in true t T k) _ (rw (e, w)) (rw (e, w, q))

-- the moment itself
put_same : (downstream : Bool) (k : Moment) → put_in downstream k.state (lent downstream k) k ≡ k
put_same false k = refl
put_same true k = refl

module _ (P : Params) (downstream : Bool) (bs : List ℕ) (k : Moment) where
  abbrev S : Sketch
  S = lent downstream k

  abbrev s : State
  s = k.state

  -- after the first j packets
  abbrev left : ℕ → Sketch
  left j = after P (take j (flows_from 0 bs)) (take j (numbers_from 0 bs)) S

  abbrev mid_state : ℕ → State
  mid_state j = record { stage = s.stage; at = s.at + packets_length * j; records = s.records + j }

  abbrev mid : ℕ → Moment
  mid j = put_in downstream (mid_state j) (left j) k

  module _ (due : is_due downstream s.stage ≡ true) where
    -- the j-th packet stands in what is left
    packet_whole : (j : ℕ) → j < packets_from 0 bs → is_kind packets_kind (record_at (drop (packets_length * j) bs) 0) ≡ true
    packet_whole j l = whole_left bs (packets_length * j) packets_kind (omega arith) (ap (λ (i : ℕ). is_kind packets_kind (record_at bs i)) {x = packets_length * j} {y = packet_from 0 j} (omega arith) ∙ whole_within packets_kind (packet_from 0) bs j l)

    flow_first : (j : ℕ) → word (drop (packets_length * j) bs) flow_field ≡ flow_from 0 bs j
    flow_first j = word_at bs (packets_length * j) flow_field ∙ ap (word bs) (omega arith)

    number_first : (j : ℕ) → word (drop (packets_length * j) bs) number_field ≡ number_from 0 bs j
    number_first j = word_at bs (packets_length * j) number_field ∙ ap (word bs) (omega arith)

    answer_first : (j : ℕ) → packet_first P (drop (packets_length * j) bs) (left j) ≡ record_answer P bs S j
    unfolding record_answer
    answer_first j = rw (flow_first j, number_first j)

    next_bytes : (j : ℕ) → rest (mid_state j) (packet_answered Done (mid_state j)) (drop (packets_length * j) bs) ≡ drop (packets_length * suc j) bs
    next_bytes j =
        drop-drop (s.at + packets_length * j + packets_length - (s.at + packets_length * j)) (packets_length * j) bs
        ∙ ap (λ (i : ℕ). drop i bs) {x = packets_length * j + (s.at + packets_length * j + packets_length - (s.at + packets_length * j))} {y = packets_length * suc j} (omega arith)

    next_state : (j : ℕ) → packet_answered Done (mid_state j) ≡ mid_state (suc j)
    next_state j =
        ap₂ (λ (a r : ℕ). record { stage = s.stage; at = a; records = r }) {x = s.at + packets_length * j + packets_length} {y = s.at + packets_length * suc j} {u = s.records + j + 1} {v = s.records + suc j} (omega arith) (omega arith)

    next_left : (j : ℕ) → j < packets_from 0 bs → changed P false (word (drop (packets_length * j) bs) flow_field) (word (drop (packets_length * j) bs) number_field) (left j) ≡ left (suc j)
    next_left j l =
        after_more P (flows_from 0 bs) (numbers_from 0 bs) S j (left j) _ (rw (length_flows 0 bs) l) (rw (length_numbers 0 bs) l) refl
        (rw (flow_first j, number_first j, flow_is 0 bs j l, number_is 0 bs j l))
        ∙ ap left (add-one j)

    state_start : mid_state 0 ≡ s
    state_start = ap₂ (λ (a r : ℕ). record { stage = s.stage; at = a; records = r }) (add-zero s.at) (add-zero s.records)

    start : mid 0 ≡ k
    unfolding after
    start = ap (λ t. put_in downstream t S k) state_start ∙ put_same downstream k

    to_mid : (j : ℕ) → j ≤ taken P bs S → Reaches P bs k (drop (packets_length * j) bs) (mid j)
    unfolding kept
    to_mid zero l = rw start stays
    to_mid (suc j) l =
        let inside : j < packets_from 0 bs = omega (arith, taken_within P bs S) in
        let accepted : packet_first P (drop (packets_length * j) bs) (left j) ≡ Done = answer_first j ∙ accepted_before P bs S j (omega arith) in
        let moved = packet_reach P downstream (drop (packets_length * j) bs) k (mid_state j) (left j) Done (packet_whole j inside) due accepted in
        then (to_mid j (omega arith)) (rw (next_bytes j, next_state j, next_left j inside) at moved)

    -- the bytes that the packets leave
    all_bytes : (t : State) → t.at ≡ s.at + packets_length * taken P bs S → rest s t bs ≡ drop (packets_length * taken P bs S) bs
    all_bytes t e = ap (λ (i : ℕ). drop i bs) {x = t.at - s.at} {y = packets_length * taken P bs S} (omega arith)

    ended : taken_answer P bs S ≡ Done → packets_state P bs S s ≡ mid_state (taken P bs S)
    unfolding packets_state stage_after
    ended e = rw e

    refused : (r : Answer) → taken_answer P bs S ≡ r → refuses r ≡ true → packets_state P bs S s ≡ packet_answered r (mid_state (taken P bs S))
    unfolding packets_state stage_after
    refused Done e q = absurd (true≢false (sym q))
    refused (Err r) e q = rw e

    -- so all that are accepted are come to, and one that is refused
    abbrev ToAll : Type 0
    ToAll = Reaches P bs k (rest s (packets_state P bs S s) bs) (put_in downstream (packets_state P bs S s) (after_taken P bs S) k)

    to_end : taken_answer P bs S ≡ Done → ToAll
    unfolding after_taken
    to_end e = rw (ended e, all_bytes (mid_state (taken P bs S)) refl) (to_mid (taken P bs S) (omega arith))

    to_refused : (r : Answer) → packet_first P (drop (packets_length * taken P bs S) bs) (left (taken P bs S)) ≡ r → taken_answer P bs S ≡ r → refuses r ≡ true → taken P bs S < packets_from 0 bs → ToAll
    unfolding after_taken kept
    to_refused Done judged e q l = absurd (true≢false (sym q))
    to_refused (Err r) judged e q l =
        let n : ℕ = taken P bs S in
        let moved = packet_reach P downstream (drop (packets_length * n) bs) k (mid_state n) (left n) (Err r) (packet_whole n l) due judged in
        rw (refused (Err r) e q, all_bytes (mid_state n) refl) (then (to_mid n (omega arith)) (rw (rest_none (drop (packets_length * n) bs) (mid_state n)) at moved))

    to_all : ToAll
    unfolding taken_answer
    to_all = at (ltb (taken P bs S) (packets_from 0 bs)) refl
      where
        at : (b : Bool) → ltb (taken P bs S) (packets_from 0 bs) ≡ b → ToAll
        at false e = to_end (rw e)
        at true e =
            let l = ltb-true (taken P bs S) (packets_from 0 bs) e in
            let r = next_refused P bs S l in
            to_refused (record_answer P bs S (taken P bs S)) (answer_first (taken P bs S)) r.0 r.1 l

  pub packets_reach : Reaches P bs k (rest s (packets_stage downstream P bs S s) bs) (put_in downstream (packets_stage downstream P bs S s) (packets_sketch downstream P bs S s) k)
  unfolding packets_stage packets_sketch
  packets_reach = at (is_due downstream s.stage) refl
    where
      at : (b : Bool) → is_due downstream s.stage ≡ b
          → Reaches P bs k (rest s (cond b (packets_state P bs S s) s) bs) (put_in downstream (cond b (packets_state P bs S s) s) (cond b (after_taken P bs S) S) k)
      at true e = to_all e
      at false e = rw (rest_none bs s, put_same downstream k) stays
