-- Two streams that their reader accepts, one directly after the other, are an input that the desk accepts, with the same sketches.
use mathlib.Core.Path.{◌≡◌, refl, sym, ap, ◌∙◌}
use mathlib.Core.Bool.{Bool, true, false}
use mathlib.Core.List.{List, ◌++◌}
use Prim.Native.Nat.{ℕ, ◌+◌, ◌-◌, ◌*◌, ◌≤◌, ◌<◌}
use native.Mathlib.Omega.{arith}
use borrow.Author.Tests.{lt-leb, le-leb, eq-eqb, ne_eqb}
use lib.Dec.{leb}
use lib.ListN.{length, get_or, drop, length-append, length-drop, get_or-append}
use lib.Seq.{drop_at, drop-drop, get_or-drop}
use Rattle.params.specs.declared.params.Params.{Params}
use Rattle.params.specs.Answers.{first, kept, Done}
use Rattle.params.specs.Params.{size}
use Rattle.sketch.specs.Sketch.{Sketch, zeros}
use Rattle.files.specs.Bytes.{word}
use Rattle.params.proofs.SameParams.{size_same}
use Rattle.files.specs.Records.{head_length_in, record_at, is_kind, is_head, packets_kind, end_kind, packets_length, end_length}
use Rattle.files.specs.Heads.{head_length_of, params_in, head_answer}
use Rattle.files.specs.Turns.{packet_offset}
use Rattle.files.specs.Fields.{records_field}
use Rattle.files.proofs.HeadTrips.{Opened, opened_length}
use Rattle.streamfile.specs.Streams.{packets_in, StreamRead}
use Rattle.streamfile.proofs.Accepting.{stream_done}
use Rattle.desk.specs.declared.states.Stage.TheVariants.{UpstreamPackets, DownstreamHead, DownstreamPackets, Nothing}
use Rattle.desk.specs.declared.states.State.{State}
use Rattle.desk.specs.declared.states.Fed.{Fed}
use Rattle.desk.specs.Desk.{most_buckets, few_enough, begin_answer, begin_of, started, stage_after, taken, taken_answer, after_taken, is_due, packets_due, packets_state, due_of, due_end, ended_state, downstream_head_answer, headed_state, packets_stage, packets_sketch, end_stage, head_stage, nothing_stage, rest, offsets_fit, upstream_taken, upstream_ended, downstream_headed, downstream_taken, downstream_ended, fed_state, Feeds, finish_answer}
use Rattle.desk.proofs.Whole.{whole_record}
use Rattle.desk.proofs.WhatIsDue.{head_here}
use Rattle.desk.proofs.FirstHead.{begin_settled}
use Rattle.desk.proofs.InTheRest.{word_at, whole_left}
use Rattle.desk.proofs.SameBytes.{end_said_done, end_back, said_back, all_back, sketch_back}
use Rattle.desk.proofs.Lending.{fed_taken, fresh_lent}
use Rattle.desk.proofs.BothStreams.{upstream_number, downstream_file, downstream_body, downstream_number, Passed}
use Rattle.std.specs.Prelude.{Ok}

-- each stage, where what is due stands there
packets_pass : (downstream : Bool) (P : Params) (bs : List ℕ) (S : Sketch) (s : State) → is_due downstream s.stage ≡ true → taken_answer P bs S ≡ Done
    → packets_stage downstream P bs S s ≡ record { stage = s.stage; at = s.at + packets_length * taken P bs S; records = s.records + taken P bs S }
unfolding packets_stage packets_state stage_after
packets_pass downstream P bs S s due done = rw (due, done)

end_passes : (bs : List ℕ) (s : State) → packets_due s.stage ≡ true → is_kind end_kind (record_at bs 0) ≡ true → word bs records_field ≡ s.records → end_stage bs s ≡ ended_state s
unfolding end_stage due_end due_of
end_passes bs s due whole said =
    let w = whole_record bs 0 end_kind whole in
    rw (due, lt-leb (length bs) 0 (omega (arith, w.1)), ne_eqb (get_or bs 0 0) packets_kind (λ e. omega (arith, w.0)), whole, eq-eqb (word bs records_field) s.records said)

head_passes : (P : Params) (bs : List ℕ) (s : State) → s.stage ≡ DownstreamHead → is_head (record_at bs 0) ≡ true → downstream_head_answer P bs ≡ Done → head_stage P bs s ≡ headed_state P s
unfolding head_stage
head_passes P bs s due whole same = rw (due, head_here bs whole, same)

nothing_passes : (bs : List ℕ) (s : State) → s.stage ≡ Nothing → length bs ≡ 0 → nothing_stage bs s ≡ s
unfolding nothing_stage
nothing_passes bs s due none = rw (due, le-leb (length bs) 0 (omega arith))

-- all of them, one after the other: up and down are what is in the two sketches before
module _ (P : Params) (bs : List ℕ) (up down : Sketch) (p : Passed P bs up down) where
  abbrev n : ℕ
  n = upstream_number P bs up down

  abbrev m : ℕ
  m = downstream_number P bs up down

  abbrev after_packets : State
  after_packets = record { stage = UpstreamPackets; at = head_length_of P + packets_length * n; records = 0 + n }

  abbrev after_end_lem : State
  after_end_lem = ended_state after_packets

  abbrev after_head : State
  after_head = headed_state P after_end_lem

  abbrev after_second : State
  after_second = record { stage = DownstreamPackets; at = after_head.at + packets_length * m; records = 0 + m }

  abbrev after_all : State
  after_all = ended_state after_second

  at_packets : upstream_taken P bs up down (started P) ≡ after_packets
  at_packets = packets_pass false P bs up (started P) refl p.first_done

  -- what is left of the bytes at each
  left : (t : State) (k : ℕ) → t.at ≡ head_length_of P + k → rest (started P) t bs ≡ drop k bs
  left t k e = ap (λ (i : ℕ). drop i bs) {x = t.at - head_length_of P} {y = k} (omega arith)

  at_end : upstream_ended P bs up down (started P) ≡ after_end_lem
  at_end =
      ap (λ t. end_stage (rest (started P) t bs) t) at_packets
      ∙ ap (λ xs. end_stage xs after_packets) (left after_packets (packets_length * n) refl)
      ∙ end_passes (drop (packets_length * n) bs) after_packets refl p.first_end (p.first_said ∙ omega arith)

  at_head : downstream_headed P bs up down (started P) ≡ after_head
  at_head =
      ap (λ t. head_stage P (rest (started P) t bs) t) at_end
      ∙ ap (λ xs. head_stage P xs after_end_lem) (left after_end_lem (packets_length * n + end_length) (omega arith))
      ∙ head_passes P (downstream_file P bs up down) after_end_lem refl p.second_head p.second_same

  body_left : rest (started P) after_head bs ≡ downstream_body P bs up down
  body_left = left after_head (packets_length * n + end_length + head_length_of P) (omega arith) ∙ sym (drop-drop (head_length_of P) (packets_length * n + end_length) bs)

  into_body : (t : State) (k : ℕ) → t.at ≡ after_head.at + k → rest (started P) t bs ≡ drop k (downstream_body P bs up down)
  into_body t k e =
      left t (packets_length * n + end_length + head_length_of P + k) (omega arith) ∙ sym (drop-drop k (packets_length * n + end_length + head_length_of P) bs) ∙ ap (drop k) (sym (drop-drop (head_length_of P) (packets_length * n + end_length) bs))

  at_second : downstream_taken P bs up down (started P) ≡ after_second
  at_second =
      ap (λ t. packets_stage true P (rest (started P) t bs) down t) at_head
      ∙ ap (λ xs. packets_stage true P xs down after_head) body_left
      ∙ packets_pass true P (downstream_body P bs up down) down after_head refl p.second_done

  at_all : downstream_ended P bs up down (started P) ≡ after_all
  at_all =
      ap (λ t. end_stage (rest (started P) t bs) t) at_second
      ∙ ap (λ xs. end_stage xs after_second) (into_body after_second (packets_length * m) refl)
      ∙ end_passes (drop (packets_length * m) (downstream_body P bs up down)) after_second refl p.second_end (p.second_said ∙ omega arith)

  pub passes : fed_state P bs up down (started P) ≡ after_all
  passes =
      ap (λ t. nothing_stage (rest (started P) t bs) t) at_all
      ∙ ap (λ xs. nothing_stage xs after_all) (into_body after_all (packets_length * m + end_length) (omega arith))
      ∙ nothing_passes (drop (packets_length * m + end_length) (downstream_body P bs up down)) after_all refl p.nothing_more

  -- and what is then in the two sketches
  pub first_sketch : packets_sketch false P bs up (started P) ≡ after_taken P bs up
  unfolding packets_sketch
  first_sketch = refl

  pub second_sketch : packets_sketch true P (rest (started P) (downstream_headed P bs up down (started P)) bs) down (downstream_headed P bs up down (started P)) ≡ after_taken P (downstream_body P bs up down) down
  unfolding packets_sketch
  second_sketch = rw (at_head, body_left)

-- a is a stream that was read into a fresh sketch: how long it is, and what its head says
module _ {P : Params} {a : List ℕ} {S : Sketch} (read : StreamRead P a (zeros P) Done S) where
  file_opened : Opened P a (length (zeros P).counts) (length (zeros P).idsums)
  file_opened = (stream_done P a (zeros P) (sym read.answer)).opened

  pub file_head : head_length_in a ≡ head_length_of P
  file_head = opened_length file_opened

  pub file_long : length a ≡ head_length_of P + (packets_length * packets_in a + end_length)
  file_long =
      let e = end_said_done a (packet_offset a (packets_in a)) (packets_in a) (stream_done P a (zeros P) (sym read.answer)).ended in
      omega (arith, file_head, e.last, (whole_record a (packet_offset a (packets_in a)) end_kind e.kind).1)

-- two of them, with few enough buckets for a desk
module _ {P : Params} {a b : List ℕ} {S T : Sketch} (one : StreamRead P a (zeros P) Done S) (two : StreamRead P b (zeros P) Done T) (few : few_enough P ≡ true) where
  -- what follows the first head
  abbrev bytes : List ℕ
  bytes = drop (head_length_of P) (a ++ b)

  bytes_long : length bytes ≡ packets_length * packets_in a + end_length + length b
  bytes_long = length-drop (head_length_of P) (a ++ b) ∙ omega (arith, length-append a b, file_long one)

  first_same : (j : ℕ) → j < packets_length * packets_in a + end_length → get_or a (head_length_of P + j) 0 ≡ get_or bytes j 0
  first_same j l = sym (get_or-drop (head_length_of P) (a ++ b) j 0 ∙ get_or-append a b 0 (head_length_of P + j) (omega (arith, file_long one)))

  second_same : (j : ℕ) → j < packets_length * packets_in b + end_length → get_or b (head_length_of P + j) 0 ≡ get_or (drop (head_length_of P) b) j 0
  second_same j l = sym (get_or-drop (head_length_of P) b j 0)

  first_back : (taken P bytes (zeros P) ≡ packets_in a) × (taken_answer P bytes (zeros P) ≡ Done)
  first_back = all_back P a bytes (packets_in a) (file_head one) (file_long one) (omega (arith, bytes_long)) first_same one refl

  second_room : packets_length * packets_in b + end_length ≤ length (drop (head_length_of P) b)
  second_room = omega (arith, length-drop (head_length_of P) b, file_long two)

  second_back : (taken P (drop (head_length_of P) b) (zeros P) ≡ packets_in b) × (taken_answer P (drop (head_length_of P) b) (zeros P) ≡ Done)
  second_back = all_back P b (drop (head_length_of P) b) (packets_in b) (file_head two) (file_long two) second_room second_same two refl

  file_is : downstream_file P bytes (zeros P) (zeros P) ≡ b
  file_is =
      ap (λ (k : ℕ). drop (packets_length * k + end_length) bytes) first_back.0
      ∙ drop-drop (packets_length * packets_in a + end_length) (head_length_of P) (a ++ b)
      ∙ drop_at a b (head_length_of P + (packets_length * packets_in a + end_length)) (file_long one)

  body_is : downstream_body P bytes (zeros P) (zeros P) ≡ drop (head_length_of P) b
  body_is = ap (drop (head_length_of P)) file_is

  number_is_second : downstream_number P bytes (zeros P) (zeros P) ≡ packets_in b
  number_is_second = ap (λ xs. taken P xs (zeros P)) body_is ∙ second_back.0

  answer_same : downstream_head_answer P b ≡ Done
  unfolding downstream_head_answer few_enough
  answer_same =
      let same = (file_opened two).same in
      let small : leb (size (params_in b)) most_buckets ≡ true = ap (λ (k : ℕ). leb k most_buckets) (sym (size_same P (params_in b) same)) ∙ few in
      rw ((file_opened two).file_good, small, same)

  all_stand : Passed P bytes (zeros P) (zeros P)
  all_stand =
      record {
        first_done = first_back.1;
        first_end = rw first_back.0 (whole_left bytes (packets_length * packets_in a) end_kind (omega arith) (end_back P a bytes (packets_in a) (file_head one) (file_long one) (omega (arith, bytes_long)) first_same one refl));
        first_said = rw first_back.0 (word_at bytes (packets_length * packets_in a) records_field ∙ said_back P a bytes (packets_in a) (file_head one) (file_long one) (omega (arith, bytes_long)) first_same one refl);
        second_head = rw file_is (file_opened two).head;
        second_same = rw file_is answer_same;
        second_done = rw body_is second_back.1;
        second_end = rw (number_is_second, body_is) (whole_left (drop (head_length_of P) b) (packets_length * packets_in b) end_kind (omega arith) (end_back P b (drop (head_length_of P) b) (packets_in b) (file_head two) (file_long two) second_room second_same two refl));
        second_said = rw (number_is_second, body_is) (word_at (drop (head_length_of P) b) (packets_length * packets_in b) records_field ∙ said_back P b (drop (head_length_of P) b) (packets_in b) (file_head two) (file_long two) second_room second_same two refl);
        nothing_more = rw (number_is_second, body_is) (length-drop (packets_length * packets_in b + end_length) (drop (head_length_of P) b) ∙ omega (arith, length-drop (head_length_of P) b, file_long two));
      }

  -- so the desk, fed with them, finds at the end of the input that nothing more is due, and has the readers' sketches
  pub accepts : (r : Fed) (up down : Sketch) → offsets_fit bytes (started P) ≡ true → Feeds P bytes (zeros P) (zeros P) (started P) r up down
      → (finish_answer r.state.stage r.state.at ≡ Done) × (up ≡ S) × (down ≡ T)
  accepts r up down near fed =
      let took = fed_taken (fresh_lent P (file_opened one).good) fed in
      let came = rw near at took.state ∙ passes P bytes (zeros P) (zeros P) all_stand in
      let second = rw near at took.downstream ∙ second_sketch P bytes (zeros P) (zeros P) all_stand ∙ ap (λ xs. after_taken P xs (zeros P)) body_is in (
        ap (λ s. finish_answer s.stage s.at) came,
        rw near at took.upstream ∙ first_sketch P bytes (zeros P) (zeros P) all_stand ∙ sketch_back P a bytes (packets_in a) (file_head one) (file_long one) (omega (arith, bytes_long)) first_same one refl,
        second ∙ sketch_back P b (drop (head_length_of P) b) (packets_in b) (file_head two) (file_long two) second_room second_same two refl,
      )

  -- and begins with the first one's parameters
  pub begins : begin_of (a ++ b) ≡ Ok (params_in a)
  unfolding begin_answer head_answer first kept few_enough
  begins =
      let opened = file_opened one in
      let small : leb (size (params_in a)) most_buckets ≡ true = ap (λ (k : ℕ). leb k most_buckets) (sym (size_same P (params_in a) opened.same)) ∙ few in
      begin_settled a b (omega (arith, file_head one, file_long one)) ∙ rw (opened.head, opened.file_good, small)
