-- What the desk answers at the end of the input, refusals too, by what the stream's reader answers.
--
-- The input is the upstream's file and, directly after it, the downstream's. Where no first part of the input is a stream that the reader accepts
-- into a fresh sketch, the desk's number and byte are those of the reader on the whole input (`upstream_refused`). Where a first part is, the
-- rest is the downstream's file, and the desk answers what the reader answers for it, with its bytes counted from the start of the input
-- (`downstream_answered`). The one exception is a head that keeps the rules but has too many buckets for a desk: that is PARAM, where the reader, which
-- is given other parameters, says MISMATCH. `either_stream` and `refused_as` say less by themselves: that the answer is the reader's on the whole
-- input, or that a first part is accepted, where `downstream_answered` then gives it. What is refused stays refused, whatever comes behind (`refusal_stays`).
-- A byte behind a right upstream end is FORM for the reader, which takes it for the same file, and the downstream's first byte for the desk.
use mathlib.Core.Path.{◌≡◌, refl, sym, ap, ap₂, ◌∙◌, subst}
use mathlib.Core.Bool.{Bool, true, false, not, cond, ◌&&◌, true≢false}
use mathlib.Core.Logic.{◌⊎◌, inl, inr, ⊎_elim}
use mathlib.Core.List.{List, ◌++◌}
use Prim.Native.Nat.{ℕ, ◌+◌, ◌-◌, ◌*◌, ◌≤◌, ◌<◌}
use native.Mathlib.Nat.{zero-add}
use native.Mathlib.Omega.{arith}
use borrow.Author.Tests.{leb-true, leb-false}
use lib.Dec.{leb}
use lib.ListN.{length, get_or, take, drop, length-drop}
use lib.Seq.{length-take-le, get_or-take, get_or-drop, drop-drop}
use Rattle.params.specs.declared.params.Params.{Params}
use Rattle.params.specs.declared.answers.Refusal.{Refusal}
use Rattle.params.specs.declared.answers.Refusal.TheVariants.{Param, Mismatch, Form}
use Rattle.params.specs.Answers.{refuse_if, first, kept, Answer, Done, Refused}
use Rattle.params.specs.Params.{same_params}
use Rattle.params.proofs.SameParams.{same_itself}
use Rattle.sketch.specs.Sketch.{Sketch, zeros}
use Rattle.sketch.specs.Packets.{after}
use Rattle.files.specs.Bytes.{word}
use Rattle.files.specs.Records.{head_length_in, record_at, is_kind, is_head, end_kind, packets_length, end_length}
use Rattle.files.specs.Heads.{head_length_of, params_in, good_head, parameters_answer}
use Rattle.files.specs.Turns.{packet_offset}
use Rattle.files.specs.Fields.{records_field}
use Rattle.streamfile.specs.Streams.{packets_from, packets_in, flows_in, numbers_in, packets_judged, stream_answer, StreamRead}
use Rattle.desk.specs.declared.states.Stage.TheVariants.{DownstreamHead, DownstreamPackets, Nothing, Refused as Stopped}
use Rattle.desk.specs.declared.stages.Due.{Due}
use Rattle.desk.specs.declared.stages.Due.TheVariants.{Here, NotYet, Other}
use Rattle.desk.specs.declared.states.State.{State}
use Rattle.desk.specs.declared.states.Fed.{Fed}
use Rattle.desk.specs.Desk.{few_enough, begin_of, started, stopped, taken, taken_answer, due_head, downstream_head_answer, is_due, packets_due, head_due, nothing_due, packets_stage, end_stage, head_stage, nothing_stage, rest, offsets_fit, upstream_ended, downstream_headed, downstream_taken, downstream_ended, fed_state, Feeds, finish_answer, packets_sketch, upstream_taken, lent_both, stage_turned_down}
use Rattle.desk.proofs.Accepted.{Begun, begun, good_params_lem, begun_length, input_long, first_number, at_first_end, first_length, split_within, first_file}
use Rattle.desk.proofs.HeadAnswers.{refused_same, second_good, second_same, second_length, second_within}
use Rattle.desk.proofs.InTheRest.{word_at, whole_left}
use Rattle.desk.proofs.WhatIsDue.{head_whole, head_here}
use Rattle.desk.proofs.Taking.{all_taken}
use Rattle.desk.proofs.Lending.{turned_down_lem, taken_fed, fed_taken, fresh_lent}
use Rattle.desk.proofs.Pieces.{pieces}
use Rattle.desk.proofs.SameBytes.{opened_judged, all_back, end_back, said_back}
use Rattle.desk.proofs.Accepts.{file_head, file_long}
use Rattle.desk.proofs.AsRead.{Came, refused_there, unfinished, passed_by, came, stream_ended, taken_at, ends_right, all_read, more_behind}
use Rattle.std.specs.Prelude.{Err, Ok}

-- a stage that is not due leaves the state
packets_skip : (downstream : _) (P : Params) (bs : List ℕ) (S : Sketch) (s : State) → is_due downstream s.stage ≡ false → packets_stage downstream P bs S s ≡ s
unfolding packets_stage
packets_skip downstream P bs S s e = rw e

end_skips : (bs : List ℕ) (s : State) → packets_due s.stage ≡ false → end_stage bs s ≡ s
unfolding end_stage
end_skips bs s e = rw e

head_skips : (P : Params) (bs : List ℕ) (s : State) → head_due s.stage ≡ false → head_stage P bs s ≡ s
unfolding head_stage
head_skips P bs s e = rw e

nothing_skips : (bs : List ℕ) (s : State) → nothing_due s.stage ≡ false → nothing_stage bs s ≡ s
unfolding nothing_stage
nothing_skips bs s e = rw e

module _ (P : Params) (bs : List ℕ) (up down : Sketch) (s t : State) where
  -- the downstream stream did not begin
  after_head_stay : downstream_headed P bs up down s ≡ t → is_due true t.stage ≡ false → end_stage (rest s t bs) t ≡ t → nothing_due t.stage ≡ false → fed_state P bs up down s ≡ t
  after_head_stay e d again q =
      let b : downstream_taken P bs up down s ≡ t = ap (λ u. packets_stage true P (rest s u bs) down u) e ∙ packets_skip true P (rest s t bs) down t d in
      let c : downstream_ended P bs up down s ≡ t = ap (λ u. end_stage (rest s u bs) u) b ∙ again in
      ap (λ u. nothing_stage (rest s u bs) u) c ∙ nothing_skips (rest s t bs) t q

  -- the upstream one did not end
  after_end_stay : upstream_ended P bs up down s ≡ t → head_due t.stage ≡ false → is_due true t.stage ≡ false → end_stage (rest s t bs) t ≡ t → nothing_due t.stage ≡ false → fed_state P bs up down s ≡ t
  after_end_stay e h d again q = after_head_stay (ap (λ u. head_stage P (rest s u bs) u) e ∙ head_skips P (rest s t bs) t h) d again q

-- a first part of the input that the reader accepts as a stream
pub record AcceptedPart (P : Params) (input : List ℕ) : Type 0 where
  pub split : ℕ
  pub within : split ≤ length input
  pub reader : stream_answer P (take split input) (zeros P) ≡ Done

-- an answer with its offset counted from further ahead
abbrev pub shifted : ℕ → Answer → Answer
shifted i Done = Done
shifted i (Err r) = Refused r.0 (i + r.1)

-- a downstream stream at the desk: as its reader answers it into a fresh sketch, save that a head which keeps the rules and has too many buckets is PARAM
unfoldable pub downstream_answer : Params → List ℕ → Answer
downstream_answer P bs = refuse_if (is_head (record_at bs 0) && (good_head bs && not (few_enough (params_in bs)))) Param 0 (stream_answer P bs (zeros P))

-- the upstream stream is accepted, and the downstream one refused at an offset of its own file
pub record DownstreamRefused (P : Params) (input : List ℕ) (w : Refusal) (k : ℕ) : Type 0 where
  pub upstream : AcceptedPart P input
  pub offset : ℕ
  pub reader_refuses : downstream_answer P (drop upstream.split input) ≡ Refused w offset
  pub place : k ≡ upstream.split + offset

-- the first head is accepted with the parameters P, and what follows it is fed to two fresh sketches, with all offsets within 64 bits
module _ (P : Params) (input : List ℕ) (r : Fed) (up down : Sketch) (head : begin_of input ≡ Ok P)
    (near : offsets_fit (drop (head_length_of P) input) (started P) ≡ true) (fed : Feeds P (drop (head_length_of P) input) (zeros P) (zeros P) (started P) r up down) where
  abbrev xs : List ℕ
  xs = drop (head_length_of P) input

  -- what the end of the input then answers
  abbrev pub desk_answer : Answer
  desk_answer = finish_answer r.state.stage r.state.at

  b : Begun P input
  b = begun P input head

  opening : stream_answer P input (zeros P) ≡ packets_judged P input (zeros P)
  opening = opened_judged P input b.head (good_params_lem P input b) b.good (ap (same_params P) (sym b.params) ∙ same_itself P)

  state_is : r.state ≡ fed_state P xs (zeros P) (zeros P) (started P)
  state_is = rw near at (fed_taken (fresh_lent P (good_params_lem P input b)) fed).state

  at_start : head_length_of P ≡ 0 + head_length_of P
  at_start = sym (zero-add (head_length_of P))

  -- a right end stands behind the upstream's packets
  abbrev RightEnd : Type 0
  RightEnd = (taken_answer P xs (zeros P) ≡ Done) × (is_kind end_kind (record_at (at_first_end P input b) 0) ≡ true) × (word (at_first_end P input b) records_field ≡ first_number P input b)

  upstream_came : Came P input (begun_length P input b) (input_long P input b) (zeros P) false 0 (started P) refl at_start refl → (desk_answer ≡ stream_answer P input (zeros P)) ⊎ RightEnd
  upstream_came (refused_there w k judged stage at) =
      let t : State = upstream_ended P xs (zeros P) (zeros P) (started P) in
      let stays = after_end_stay P xs (zeros P) (zeros P) (started P) t refl (ap head_due stage) (ap (is_due true) stage) (end_skips (rest (started P) t xs) t (ap packets_due stage)) (ap nothing_due stage) in
      inl (ap (λ s. finish_answer s.stage s.at) (state_is ∙ stays) ∙ ap₂ finish_answer stage (at ∙ zero-add k) ∙ sym (opening ∙ judged))
  upstream_came (unfinished k judged same stage at) =
      let t : State = upstream_ended P xs (zeros P) (zeros P) (started P) in
      let stays = after_end_stay P xs (zeros P) (zeros P) (started P) t refl (ap head_due stage) (ap (is_due true) stage) (ap (λ u. end_stage (rest (started P) u xs) u) same) (ap nothing_due stage) in
      inl (ap (λ s. finish_answer s.stage s.at) (state_is ∙ stays) ∙ ap₂ finish_answer stage (at ∙ zero-add k) ∙ sym (opening ∙ judged))
  upstream_came (passed_by done whole said) = inr (done, whole, said)

  -- the upstream stream is refused as its reader refuses the input
  pub upstream_refused : ((i : ℕ) → stream_answer P (take i input) (zeros P) ≡ Done → ⊥) → desk_answer ≡ stream_answer P input (zeros P)
  upstream_refused none =
      ⊎_elim (λ e. e) (λ p. absurd (none (first_length P input b) (sym (first_file P input b p.0 p.1 p.2).answer)))
      (upstream_came (came P input (begun_length P input b) (input_long P input b) (zeros P) false 0 (started P) refl at_start refl))

  -- one or the other
  pub either_stream : (desk_answer ≡ stream_answer P input (zeros P)) ⊎ AcceptedPart P input
  either_stream =
      ⊎_elim inl (λ p. inr (record { split = first_length P input b; within = split_within P input b p.0 p.1 p.2; reader = sym (first_file P input b p.0 p.1 p.2).answer }))
      (upstream_came (came P input (begun_length P input b) (input_long P input b) (zeros P) false 0 (started P) refl at_start refl))

  -- the first i bytes are a stream that the reader accepts
  module _ (i : ℕ) (within : i ≤ length input) (reader : stream_answer P (take i input) (zeros P) ≡ Done) where
    abbrev file : List ℕ
    file = drop i input

    abbrev n : ℕ
    n = packets_in (take i input)

    read : StreamRead P (take i input) (zeros P) Done (after P (flows_in (take i input)) (numbers_in (take i input)) (zeros P))
    unfolding kept
    read = record { answer = sym reader; after_all = refl }

    i_long : i ≡ head_length_of P + (packets_length * n + end_length)
    i_long = sym (length-take-le i input within) ∙ file_long read

    room : packets_length * n + end_length ≤ length xs
    room = omega (arith, i_long, length-drop (head_length_of P) input)

    bytes_same : (j : ℕ) → j < packets_length * n + end_length → get_or (take i input) (head_length_of P + j) 0 ≡ get_or xs j 0
    bytes_same j l = get_or-take i input (head_length_of P + j) 0 (omega (arith, i_long)) ∙ sym (get_or-drop (head_length_of P) input j 0)

    taken_back : (taken P xs (zeros P) ≡ n) × (taken_answer P xs (zeros P) ≡ Done)
    taken_back = all_back P (take i input) xs n (file_head read) (file_long read) room bytes_same read refl

    right_kind : is_kind end_kind (record_at (at_first_end P input b) 0) ≡ true
    right_kind = rw taken_back.0 (whole_left xs (packets_length * n) end_kind (omega arith) (end_back P (take i input) xs n (file_head read) (file_long read) room bytes_same read refl))

    right_word : word (at_first_end P input b) records_field ≡ first_number P input b
    right_word = rw taken_back.0 (word_at xs (packets_length * n) records_field ∙ said_back P (take i input) xs n (file_head read) (file_long read) room bytes_same read refl)

    -- so the upstream ends there
    abbrev head_state : State
    head_state = record { stage = DownstreamHead; at = i; records = 0 }

    at_head : upstream_ended P xs (zeros P) (zeros P) (started P) ≡ head_state
    at_head =
        ends_right P input (begun_length P input b) (input_long P input b) (zeros P) false 0 (started P) refl at_start refl taken_back.1 right_kind right_word
        ∙ ap (λ (k : ℕ). record { stage = DownstreamHead; at = k; records = 0 }) {x = head_length_of P + packets_length * taken P xs (zeros P) + end_length} {y = i} (omega (arith, i_long, taken_back.0))

    -- and what is left of the bytes is what is left of the input
    left_of : (t : State) → head_length_of P ≤ t.at → rest (started P) t xs ≡ drop t.at input
    left_of t h = drop-drop (t.at - head_length_of P) (head_length_of P) input ∙ ap (λ (k : ℕ). drop k input) {x = head_length_of P + (t.at - head_length_of P)} {y = t.at} (omega arith)

    headed_is : downstream_headed P xs (zeros P) (zeros P) (started P) ≡ head_stage P file head_state
    headed_is = ap (λ u. head_stage P (rest (started P) u xs) u) at_head ∙ ap (λ ys. head_stage P ys head_state) (left_of head_state (omega (arith, i_long)))

    -- the head is refused, or more of it is waited for
    head_stops : (t : State) → head_stage P file head_state ≡ t → is_due true t.stage ≡ false → packets_due t.stage ≡ false → nothing_due t.stage ≡ false → desk_answer ≡ finish_answer t.stage t.at
    head_stops t e d q z =
        ap (λ s. finish_answer s.stage s.at)
        (state_is ∙ after_head_stay P xs (zeros P) (zeros P) (started P) t (headed_is ∙ e) d (end_skips (rest (started P) t xs) t q) z)

    no_head : is_head (record_at file 0) ≡ false → desk_answer ≡ Refused Form i
    unfolding head_stage
    no_head e = at (due_head file) refl
      where
        at : (d : Due) → due_head file ≡ d → desk_answer ≡ Refused Form i
        at Here q = absurd (true≢false (sym (head_whole file q) ∙ e))
        at NotYet q = head_stops head_state (rw q) refl refl refl
        at Other q = head_stops (stopped Form head_state) (rw q) refl refl refl

    head_answered : (w : Refusal) (k : ℕ) → is_head (record_at file 0) ≡ true → downstream_head_answer P file ≡ Refused w k → desk_answer ≡ Refused w i
    unfolding head_stage
    head_answered w k e q = head_stops (stopped w head_state) (rw (head_here file e, q)) refl refl refl

    -- the head is right
    module _ (whole : is_head (record_at file 0) ≡ true) (same : downstream_head_answer P file ≡ Done) where
      abbrev s : State
      s = record { stage = DownstreamPackets; at = i + head_length_of P; records = 0 }

      abbrev body : List ℕ
      body = drop (head_length_of P) file

      at_packets : downstream_headed P xs (zeros P) (zeros P) (started P) ≡ s
      unfolding head_stage
      at_packets = headed_is ∙ rw (head_here file whole, same)

      body_left : rest (started P) s xs ≡ body
      body_left = left_of s (omega arith) ∙ sym (drop-drop (head_length_of P) i input)

      into_body : (t : State) → i + head_length_of P ≤ t.at → rest (started P) t xs ≡ rest s t body
      into_body t h =
          left_of t (omega arith)
          ∙ ap (λ (k : ℕ). drop k input) {x = t.at} {y = i + head_length_of P + (t.at - (i + head_length_of P))} (omega arith)
          ∙ sym (drop-drop (t.at - (i + head_length_of P)) (i + head_length_of P) input)
          ∙ ap (drop (t.at - (i + head_length_of P))) (sym (drop-drop (head_length_of P) i input))

      same_length : head_length_in file ≡ head_length_of P
      same_length = second_length file P same

      file_whole : head_length_of P ≤ length file
      file_whole = second_within file P same whole

      at_taken : downstream_taken P xs (zeros P) (zeros P) (started P) ≡ packets_stage true P body (zeros P) s
      at_taken = ap (λ u. packets_stage true P (rest (started P) u xs) (zeros P) u) at_packets ∙ ap (λ ys. packets_stage true P ys (zeros P) s) body_left

      abbrev last : State
      last = stream_ended P file same_length file_whole (zeros P) true i s refl refl refl

      at_last : downstream_ended P xs (zeros P) (zeros P) (started P) ≡ last
      at_last =
          let t : State = packets_stage true P body (zeros P) s in
          ap (λ u. end_stage (rest (started P) u xs) u) at_taken
          ∙ ap (λ ys. end_stage ys t) (into_body t (omega (arith, taken_at P file same_length file_whole (zeros P) true i s refl refl refl)))

      ends_by : (t u : State) → last ≡ t → nothing_stage (rest (started P) t xs) t ≡ u → desk_answer ≡ finish_answer u.stage u.at
      ends_by t u e q = ap (λ s. finish_answer s.stage s.at) (state_is ∙ ap (λ u. nothing_stage (rest (started P) u xs) u) (at_last ∙ e) ∙ q)

      judged_so : stream_answer P file (zeros P) ≡ packets_judged P file (zeros P)
      judged_so = opened_judged P file whole (good_params_lem P input b) (second_good file P same) (second_same file P same)

      by_records : Came P file same_length file_whole (zeros P) true i s refl refl refl → desk_answer ≡ shifted i (stream_answer P file (zeros P))
      unfolding nothing_stage
      by_records (refused_there w k judged stage at) =
          ends_by last last refl (nothing_skips (rest (started P) last xs) last (ap nothing_due stage)) ∙ ap₂ finish_answer stage at ∙ ap (shifted i) (sym (judged_so ∙ judged))
      by_records (unfinished k judged here stage at) =
          ends_by last last refl (nothing_skips (rest (started P) last xs) last (ap nothing_due stage)) ∙ ap₂ finish_answer stage at ∙ ap (shifted i) (sym (judged_so ∙ judged))
      by_records (passed_by done kind said) = at (leb (length (rest (started P) t xs)) 0) refl
        where
          t : State
          t = record { stage = Nothing; at = i + head_length_of P + packets_length * taken P body (zeros P) + end_length; records = 0 }

          ends : last ≡ t
          ends = ends_right P file same_length file_whole (zeros P) true i s refl refl refl done kind said

          over : length (rest (started P) t xs) ≡ length input - t.at
          over = ap length (left_of t (omega arith)) ∙ length-drop t.at input

          at : (b : Bool) → leb (length (rest (started P) t xs)) 0 ≡ b → desk_answer ≡ shifted i (stream_answer P file (zeros P))
          at true q =
              let short : length file ≤ packet_offset file (packets_from 0 body) + end_length = omega (arith, same_length, leb-true (length (rest (started P) t xs)) 0 q, over, (all_taken P body (zeros P) done).number, length-drop i input) in
              ends_by t t ends (rw q) ∙ ap (shifted i) (sym (judged_so ∙ all_read P file same_length file_whole (zeros P) true i s refl refl refl done kind said short))
          at false q =
              let long : packet_offset file (packets_from 0 body) + end_length < length file = omega (arith, same_length, leb-false (length (rest (started P) t xs)) 0 q, over, (all_taken P body (zeros P) done).number, length-drop i input) in
              ends_by t (stopped Form t) ends (rw q)
              ∙ ap (Refused Form) {x = t.at} {y = i + (packet_offset file (packets_from 0 body) + end_length)} (omega (arith, same_length, (all_taken P body (zeros P) done).number))
              ∙ ap (shifted i) (sym (judged_so ∙ more_behind P file same_length file_whole (zeros P) true i s refl refl refl done kind said long))

      right_head : desk_answer ≡ shifted i (stream_answer P file (zeros P))
      right_head = by_records (came P file same_length file_whole (zeros P) true i s refl refl refl)

    -- no sooner: at the first byte of the downstream's file
    at_first : {w : Refusal} → desk_answer ≡ Refused w i → downstream_answer P file ≡ Refused w 0 → desk_answer ≡ shifted i (downstream_answer P file)
    at_first {w} e q = e ∙ ap (Refused w) {x = i} {y = i + 0} (omega arith) ∙ ap (shifted i) (sym q)

    -- the downstream stream is answered as its reader answers it
    pub downstream_answered : desk_answer ≡ shifted i (downstream_answer P (drop i input))
    unfolding downstream_answer downstream_head_answer stream_answer parameters_answer first
    downstream_answered = at (is_head (record_at file 0)) refl (good_head file) refl (few_enough (params_in file)) refl (same_params P (params_in file)) refl
      where
        at : (h : Bool) → is_head (record_at file 0) ≡ h → (g : Bool) → good_head file ≡ g → (f : Bool) → few_enough (params_in file) ≡ f → (a : Bool) → same_params P (params_in file) ≡ a
            → desk_answer ≡ shifted i (downstream_answer P file)
        at false h g g' f f' a a' = at_first (no_head h) (rw h)
        at true h false g f f' a a' = at_first (head_answered Param 0 h (rw g)) (rw (h, g))
        at true h true g false f a a' = at_first (head_answered Param 0 h (rw (g, f))) (rw (h, g, f))
        at true h true g true f false a = at_first (head_answered Mismatch 0 h (rw (g, f, a))) (rw (h, g, f, good_params_lem P input b, a))
        at true h true g true f true a = let plain : stream_answer P file (zeros P) ≡ downstream_answer P file = rw (h, g, f) in right_head h (rw (g, f, a)) ∙ ap (shifted i) plain

  -- so a refusal is one of the upstream stream's reader, or one of the downstream's, further on by the upstream's bytes
  pub refused_as : (w : Refusal) (k : ℕ) → desk_answer ≡ Refused w k → (stream_answer P input (zeros P) ≡ Refused w k) ⊎ DownstreamRefused P input w k
  refused_as w k e =
      ⊎_elim (λ h. inl (sym h ∙ e)) (λ p. inr (from_rest p (downstream_answer P (drop p.split input)) refl (sym (downstream_answered p.split p.within p.reader) ∙ e)))
      either_stream
    where
      from_rest : (p : AcceptedPart P input) (a : Answer) → downstream_answer P (drop p.split input) ≡ a → shifted p.split a ≡ Refused w k → DownstreamRefused P input w k
      from_rest p Done h q = absurd cc
      from_rest p (Err r) h q =
          let same = refused_same q in
          record { upstream = p; offset = r.1; reader_refuses = h ∙ ap (λ (v : Refusal). Refused v r.1) same.0; place = sym same.1 }

-- a refused state takes nothing more
module _ (P : Params) (bs : List ℕ) (up down : Sketch) (s : State) {w : Refusal} (e : s.stage ≡ Stopped w) where
  headed_stays : downstream_headed P bs up down s ≡ s
  headed_stays =
      let taken : upstream_taken P bs up down s ≡ s = packets_skip false P bs up s (ap (is_due false) e) in
      let ended : upstream_ended P bs up down s ≡ s = ap (λ u. end_stage (rest s u bs) u) taken ∙ end_skips (rest s s bs) s (ap packets_due e) in
      ap (λ u. head_stage P (rest s u bs) u) ended ∙ head_skips P (rest s s bs) s (ap head_due e)

  fed_stays : fed_state P bs up down s ≡ s
  fed_stays = after_head_stay P bs up down s s headed_stays (ap (is_due true) e) (end_skips (rest s s bs) s (ap packets_due e)) (ap nothing_due e)

  sketch_stays : (downstream : _) (cs : List ℕ) (S : Sketch) → packets_sketch downstream P cs S s ≡ S
  unfolding packets_sketch
  sketch_stays downstream cs S = rw (ap (is_due downstream) e)

  chosen : {A : Type 0} (b : Bool) (x y : A) → x ≡ y → y ≡ cond b x y
  chosen true x y p = sym p
  chosen false x y p = refl

  fed_again : Feeds P bs up down s record { state = s; used = 0 } up down
  fed_again = at (lent_both P up down) refl
    where
      at : (a : Answer) → lent_both P up down ≡ a → Feeds P bs up down s record { state = s; used = 0 } up down
      at Done h =
          taken_fed h (record {
            state = chosen (offsets_fit bs s) (fed_state P bs up down s) s fed_stays;
            used = omega arith;
            upstream = chosen (offsets_fit bs s) (packets_sketch false P bs up s) up (sketch_stays false bs up);
            downstream = chosen (offsets_fit bs s) _ down (ap (λ u. packets_sketch true P (rest s u bs) down u) headed_stays ∙ sketch_stays true (rest s s bs) down);
          })
      at (Err r) h = turned_down_lem h (λ i. record { stage = (e ∙ sym (ap (stage_turned_down r.0) e)) i; at = s.at; records = s.records })

-- so what is refused of the bytes that came is refused of the whole input, with the same number, byte and sketches
pub refusal_stays : {P : Params} {xs : List ℕ} {up down : Sketch} {s : State} {r : Fed} {up₁ down₁ : Sketch} {w : Refusal} (ys : List ℕ) → offsets_fit (xs ++ ys) s ≡ true
    → Feeds P xs up down s r up₁ down₁ → r.state.stage ≡ Stopped w → Feeds P (xs ++ ys) up down s r up₁ down₁
refusal_stays {P} {xs} {up} {down} {s} {r} {up₁} {down₁} ys near one e =
    let both = pieces ys near one (fed_again P (drop r.used xs ++ ys) up₁ down₁ r.state e) in
    let used : r.used + 0 ≡ r.used = omega arith in
    subst (λ (n : ℕ). Feeds P (xs ++ ys) up down s record { state = r.state; used = n } up₁ down₁) used both
