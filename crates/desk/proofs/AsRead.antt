-- One stream at the desk, from its head to its end: what is refused of it, and at which byte, is what the stream's reader refuses of the file.
use mathlib.Core.Path.{◌≡◌, refl, sym, ap, ◌∙◌}
use mathlib.Core.Bool.{Bool, true, false, cond, true≢false}
use mathlib.Core.List.{List}
use Prim.Native.Nat.{ℕ, zero, suc, ◌+◌, ◌-◌, ◌*◌, ◌≤◌, ◌<◌}
use native.Mathlib.Omega.{arith}
use borrow.Author.Tests.{ltb-true, ltb-false, lt-ltb, le-ltb, lt-leb, leb-true, eq-eqb, ne_eqb, eqb-true, eqb-false, not-true}
use lib.Dec.{eqb, leb, ltb}
use lib.ListN.{length, get_or, drop, length-drop}
use lib.Seq.{drop-drop}
use Rattle.params.specs.declared.params.Params.{Params}
use Rattle.params.specs.declared.answers.Refusal.{Refusal}
use Rattle.params.specs.declared.answers.Refusal.TheVariants.{Form}
use Rattle.params.specs.Lists.{from}
use Rattle.params.proofs.Lowest.{least_lowest}
use Rattle.params.proofs.Judging.{first_refused, first_passed}
use Rattle.sketch.specs.Sketch.{Sketch}
use Rattle.sketch.proofs.Tables.{from_same}
use Rattle.files.specs.Bytes.{word}
use Rattle.files.specs.Records.{body_length, record_at, is_kind, packets_kind, end_kind, head_length_in, packets_length, end_length}
use Rattle.files.specs.Heads.{head_length_of}
use Rattle.files.specs.Turns.{at_offset, packet_from, packet_offset, records_of, end_answer}
use Rattle.files.specs.Fields.{flow_field, number_field, records_field}
use Rattle.files.proofs.Standing.{nothing_stands}
use Rattle.files.proofs.Turning.{records_are, whole_within, in_turn_refused, in_turn_done}
use Rattle.streamfile.specs.Streams.{packets_from, flow_from, number_from, flows_from, numbers_from, packets_in, flows_in, numbers_in, packet_judged, packets_judged}
use Rattle.streamfile.proofs.Found.{packet_within}
use Rattle.desk.specs.declared.states.Stage.{Stage}
use Rattle.desk.specs.declared.states.Stage.TheVariants.{UpstreamPackets, DownstreamHead, DownstreamPackets, Nothing, Refused as Stopped}
use Rattle.desk.specs.declared.states.State.{State}
use Rattle.desk.specs.declared.stages.Due.{Due}
use Rattle.desk.specs.declared.stages.Due.TheVariants.{Here, NotYet, Other}
use Rattle.desk.specs.Desk.{refuses, stopped, stage_after, record_answer, taken, taken_answer, is_due, packets_due, packets_state, due_of, due_end, ended_state, end_state, packets_stage, end_stage, rest}
use Rattle.desk.proofs.Whole.{whole_record}
use Rattle.desk.proofs.InTheRest.{word_at, whole_at, whole_left}
use Rattle.desk.proofs.Taking.{accepted_before, next_refused, AllTaken, all_taken}
use Rattle.desk.proofs.WhatIsDue.{end_whole}
use Rattle.params.specs.Answers.{Answer, Done, Refused}
use Rattle.std.specs.Prelude.{Err}

-- a record of a kind stands first in what is left exactly where it stands in the whole
kind_left : (bs : List ℕ) (i kind : ℕ) → 0 < body_length kind → is_kind kind (record_at (drop i bs) 0) ≡ is_kind kind (record_at bs i)
kind_left bs i kind some = at (is_kind kind (record_at bs i)) refl (is_kind kind (record_at (drop i bs) 0)) refl
  where
    at : (b : Bool) → is_kind kind (record_at bs i) ≡ b → (c : Bool) → is_kind kind (record_at (drop i bs) 0) ≡ c → c ≡ b
    at true e c q = sym q ∙ whole_left bs i kind some e
    at false e true q = sym (whole_at bs i kind some q) ∙ e
    at false e false q = refl

kind_further : (bs : List ℕ) (i j kind : ℕ) → 0 < body_length kind → is_kind kind (record_at (drop i bs) j) ≡ is_kind kind (record_at bs (i + j))
kind_further bs i j kind some =
    sym (kind_left (drop i bs) j kind some) ∙ ap (λ xs. is_kind kind (record_at xs 0)) (drop-drop j i bs) ∙ kind_left bs (i + j) kind some

-- after the packets that stand one after the other something else stands
run_over : (bs : List ℕ) → is_kind packets_kind (record_at bs (packet_from 0 (packets_from 0 bs))) ≡ false
unfolding records_of
run_over bs = at (ltb (packets_from 0 bs) (length bs)) refl
  where
    at : (b : Bool) → ltb (packets_from 0 bs) (length bs) ≡ b → is_kind packets_kind (record_at bs (packet_from 0 (packets_from 0 bs))) ≡ false
    at true e = not-true _ (least_lowest (length bs) _ (ltb-true (packets_from 0 bs) (length bs) e)).here
    at false e = ap (is_kind packets_kind) (nothing_stands bs (packet_from 0 (packets_from 0 bs)) (omega (arith, ltb-false (packets_from 0 bs) (length bs) e)))

run_bytes : (bs : List ℕ) → packets_length * packets_from 0 bs ≤ length bs
run_bytes bs = at (packets_from 0 bs) refl
  where
    at : (n : ℕ) → packets_from 0 bs ≡ n → packets_length * n ≤ length bs
    at zero e = omega arith
    at (suc n) e = omega (arith, packet_within 0 bs n (omega arith))

-- a whole end is found
end_here : (bs : List ℕ) → is_kind end_kind (record_at bs 0) ≡ true → due_end bs ≡ Here
unfolding due_end due_of
end_here bs whole =
    let w = whole_record bs 0 end_kind whole in
    rw (lt-leb (length bs) 0 (omega (arith, w.1)), ne_eqb (get_or bs 0 0) packets_kind (λ e. omega (arith, w.0)), whole)

-- where no whole end stands, the place is the offset at which it is due
no_end : (bs : List ℕ) (at n : ℕ) → at ≤ length bs → is_kind end_kind (record_at bs at) ≡ false → end_answer bs at n ≡ Refused Form at
unfolding end_answer
no_end bs at n h e = rw e (ap (Refused Form) (place (leb (length bs) at) refl))
  where
    place : (b : Bool) → leb (length bs) at ≡ b → cond b (length bs) at ≡ at
    place true q = omega (arith, leb-true (length bs) at q)
    place false q = refl

due_packets : (downstream : Bool) (g : Stage) → is_due downstream g ≡ true → packets_due g ≡ true
due_packets downstream UpstreamPackets e = refl
due_packets downstream DownstreamHead e = e
due_packets downstream DownstreamPackets e = refl
due_packets downstream Nothing e = e
due_packets downstream (Stopped w) e = e

-- fs has the bytes of a head, as many as the profile says, and then those that the desk is fed with
module _ (P : Params) (fs : List ℕ) (head : head_length_in fs ≡ head_length_of P) (long : head_length_of P ≤ length fs) (S : Sketch) where
  abbrev xs : List ℕ
  xs = drop (head_length_of P) fs

  abbrev n : ℕ
  n = packets_from 0 xs

  kind_same : (kind k : ℕ) → 0 < body_length kind → is_kind kind (record_at fs (packet_offset fs k)) ≡ is_kind kind (record_at xs (packet_from 0 k))
  kind_same kind k some = ap (λ (i : ℕ). is_kind kind (record_at fs i)) (omega arith) ∙ sym (kind_further fs (head_length_of P) (packet_from 0 k) kind some)

  number_same : packets_in fs ≡ n
  number_same =
      records_are packets_kind (packet_offset fs) fs n (omega (arith, run_bytes xs, length-drop (head_length_of P) fs))
      (λ k l. kind_same packets_kind k (omega arith) ∙ whole_within packets_kind (packet_from 0) xs k l)
      (kind_same packets_kind n (omega arith) ∙ run_over xs)

  flow_same : (k : ℕ) → flow_from (head_length_in fs) fs k ≡ flow_from 0 xs k
  flow_same k = sym (word_at fs (head_length_of P) (packet_from 0 k + flow_field) ∙ ap (word fs) (omega arith))

  packets_same : (k : ℕ) → number_from (head_length_in fs) fs k ≡ number_from 0 xs k
  packets_same k = sym (word_at fs (head_length_of P) (packet_from 0 k + number_field) ∙ ap (word fs) (omega arith))

  flows_same : flows_in fs ≡ flows_from 0 xs
  unfolding flows_from
  flows_same = ap (λ (m : ℕ). from 0 m (flow_from (head_length_in fs) fs)) number_same ∙ from_same 0 n (flow_from (head_length_in fs) fs) (flow_from 0 xs) (λ j a b. flow_same j)

  numbers_same : numbers_in fs ≡ numbers_from 0 xs
  unfolding numbers_from
  numbers_same = ap (λ (m : ℕ). from 0 m (number_from (head_length_in fs) fs)) number_same ∙ from_same 0 n (number_from (head_length_in fs) fs) (number_from 0 xs) (λ j a b. packets_same j)

  -- each packet record has one answer
  judged_same : (k : ℕ) → packet_judged P fs S k ≡ at_offset (packet_offset fs k) (record_answer P xs S k)
  unfolding packet_judged record_answer
  judged_same k = rw (flow_same k, packets_same k, flows_same, numbers_same)

  judged_done : (k : ℕ) → record_answer P xs S k ≡ Done → packet_judged P fs S k ≡ Done
  unfolding at_offset
  judged_done k e = judged_same k ∙ rw e

  -- the first that is refused decides
  one_refused : (w : Refusal) (i : ℕ) → record_answer P xs S (taken P xs S) ≡ Refused w i → taken P xs S < n → packets_judged P fs S ≡ Refused w (packet_offset fs (taken P xs S))
  unfolding packets_judged at_offset
  one_refused w i e l =
      let k : ℕ = taken P xs S in
      let here : packet_judged P fs S k ≡ Refused w (packet_offset fs k) = judged_same k ∙ rw e in
      let first = in_turn_refused (packets_in fs) k (packet_judged P fs S) (Refused w (packet_offset fs k)) (omega (arith, number_same)) (λ j m. judged_done j (accepted_before P xs S j m)) (sym here) refl in
      sym (first_refused (Refused w (packet_offset fs k)) _ _ first refl)

  -- where none is, the end does
  at_end : AllTaken P xs S → packets_judged P fs S ≡ end_answer fs (packet_offset fs n) n
  unfolding packets_judged
  at_end all =
      first_passed _ _ (in_turn_done (packets_in fs) (packet_judged P fs S) (λ j l. judged_done j (all.each j (omega (arith, number_same)))))
      ∙ ap (λ (m : ℕ). end_answer fs (packet_offset fs m) m) number_same

  -- the stages of the stream's packets and of its end, from a state in which its packets are due; the file's first byte stands at `base`
  module _ (downstream : Bool) (base : ℕ) (s : State) (due : is_due downstream s.stage ≡ true) (there : s.at ≡ base + head_length_of P) (none : s.records ≡ 0) where
    abbrev pub packets_taken : State
    packets_taken = packets_stage downstream P xs S s

    abbrev pub stream_ended : State
    stream_ended = end_stage (rest s packets_taken xs) packets_taken

    -- what is left after the packets that are taken
    abbrev pub at_the_end : List ℕ
    at_the_end = drop (packets_length * taken P xs S) xs

    -- the reader and the desk refuse alike; or the end of the input will be refused where the reader refuses; or a right end stands there
    pub data Came : Type 0 where
      refused_there : (w : Refusal) (k : ℕ) → packets_judged P fs S ≡ Refused w k → stream_ended.stage ≡ Stopped w → stream_ended.at ≡ base + k → Came
      unfinished : (k : ℕ) → packets_judged P fs S ≡ Refused Form k → stream_ended ≡ packets_taken → stream_ended.stage ≡ s.stage → stream_ended.at ≡ base + k → Came
      passed_by : taken_answer P xs S ≡ Done → is_kind end_kind (record_at at_the_end 0) ≡ true → word at_the_end records_field ≡ taken P xs S → Came

    pub taken_at : packets_taken.at ≡ s.at + packets_length * taken P xs S
    unfolding packets_stage packets_state
    taken_at = rw due

    -- a packet is refused
    packet_stops : (w : Refusal) (i : ℕ) → taken_answer P xs S ≡ Refused w i → packets_taken ≡ record { stage = Stopped w; at = s.at + packets_length * taken P xs S; records = s.records + taken P xs S }
    unfolding packets_stage packets_state stage_after
    packet_stops w i e = rw (due, e)

    stopped_ends : (t : State) (w : Refusal) → packets_taken ≡ t → t.stage ≡ Stopped w → stream_ended ≡ t
    unfolding end_stage
    stopped_ends t w e q = ap (λ u. end_stage (rest s u xs) u) e ∙ rw q

    by_packet : taken P xs S < n → (r : Answer) → record_answer P xs S (taken P xs S) ≡ r → refuses r ≡ true → taken_answer P xs S ≡ r → Came
    by_packet l Done e q f = absurd (true≢false (sym q))
    by_packet l (Err r) e q f =
        let ends = stopped_ends _ r.0 (packet_stops r.0 r.1 f) refl in
        refused_there r.0 (packet_offset fs (taken P xs S)) (one_refused r.0 r.1 e l) (ap (λ t. t.stage) ends) (ap (λ t. t.at) ends ∙ omega (arith, there))

    -- all packets are taken, and the end decides
    module _ (done : taken_answer P xs S ≡ Done) where
      abbrev t : State
      t = record { stage = s.stage; at = s.at + packets_length * taken P xs S; records = s.records + taken P xs S }

      taken_is : packets_taken ≡ t
      unfolding packets_stage packets_state stage_after
      taken_is = rw (due, done)

      left_is : rest s t xs ≡ at_the_end
      left_is = ap (λ (i : ℕ). drop i xs) {x = s.at + packets_length * taken P xs S - s.at} {y = packets_length * taken P xs S} (omega arith)

      ends_so : stream_ended ≡ end_state (due_end at_the_end) at_the_end t
      unfolding end_stage
      ends_so = ap (λ u. end_stage (rest s u xs) u) taken_is ∙ ap (λ ys. end_stage ys t) left_is ∙ rw (due_packets downstream s.stage due)

      number_taken : taken P xs S ≡ n
      number_taken = (all_taken P xs S done).number

      end_kind_lem : is_kind end_kind (record_at fs (packet_offset fs n)) ≡ is_kind end_kind (record_at at_the_end 0)
      end_kind_lem =
          kind_same end_kind n (omega arith)
          ∙ ap (λ (i : ℕ). is_kind end_kind (record_at xs i)) {x = packet_from 0 n} {y = packets_length * taken P xs S} (omega (arith, number_taken))
          ∙ sym (kind_left xs (packets_length * taken P xs S) end_kind (omega arith))

      end_word : word fs (packet_offset fs n + records_field) ≡ word at_the_end records_field
      end_word =
          sym (word_at xs (packets_length * taken P xs S) records_field ∙ word_at fs (head_length_of P) (packets_length * taken P xs S + records_field) ∙ ap (word fs) (omega (arith, number_taken)))

      judged : packets_judged P fs S ≡ end_answer fs (packet_offset fs n) n
      judged = at_end (all_taken P xs S done)

      stops_at : t.at ≡ base + packet_offset fs n
      stops_at = omega (arith, there, number_taken)

      -- an end that says how many packets there were: the stream is over, and the reader minds no more than a byte after it
      module _ (whole : is_kind end_kind (record_at at_the_end 0) ≡ true) (said : word at_the_end records_field ≡ taken P xs S) where
        pub ends_right : stream_ended ≡ ended_state t
        ends_right = ends_so ∙ rw (end_here at_the_end whole, eq-eqb (word at_the_end records_field) t.records (said ∙ omega (arith, none)))

        pub all_read : length fs ≤ packet_offset fs n + end_length → packets_judged P fs S ≡ Done
        unfolding end_answer
        all_read h = judged ∙ rw (end_kind_lem ∙ whole, eq-eqb _ _ (end_word ∙ said ∙ number_taken), le-ltb _ _ h)

        pub more_behind : packet_offset fs n + end_length < length fs → packets_judged P fs S ≡ Refused Form (packet_offset fs n + end_length)
        unfolding end_answer
        more_behind h = judged ∙ rw (end_kind_lem ∙ whole, eq-eqb _ _ (end_word ∙ said ∙ number_taken), lt-ltb _ _ h)

      whole_end : is_kind end_kind (record_at at_the_end 0) ≡ true → Came
      unfolding end_answer
      whole_end w = at (eqb (word at_the_end records_field) t.records) refl
        where
          at : (b : Bool) → eqb (word at_the_end records_field) t.records ≡ b → Came
          at true e = passed_by done w (eqb-true (word at_the_end records_field) t.records e ∙ omega (arith, none))
          at false e =
              let here : stream_ended ≡ stopped Form t = ends_so ∙ rw (end_here at_the_end w, e) in
              let other : word fs (packet_offset fs n + records_field) ≡ n → ⊥ = λ q. eqb-false (word at_the_end records_field) t.records e (sym end_word ∙ q ∙ omega (arith, none, number_taken)) in
              refused_there Form (packet_offset fs n) (judged ∙ rw (end_kind_lem ∙ w, ne_eqb _ _ other)) (ap (λ u. u.stage) here) (ap (λ u. u.at) here ∙ stops_at)

      no_whole_end : is_kind end_kind (record_at at_the_end 0) ≡ false → Came
      no_whole_end w = at (due_end at_the_end) refl
        where
          form : packets_judged P fs S ≡ Refused Form (packet_offset fs n)
          form = judged ∙ no_end fs (packet_offset fs n) n (omega (arith, run_bytes xs, length-drop (head_length_of P) fs)) (end_kind_lem ∙ w)

          at : (d : Due) → due_end at_the_end ≡ d → Came
          at Here e = absurd (true≢false (sym (end_whole at_the_end e) ∙ w))
          at NotYet e =
              let here : stream_ended ≡ t = ends_so ∙ rw e in
              unfinished (packet_offset fs n) form (here ∙ sym taken_is) (ap (λ u. u.stage) here) (ap (λ u. u.at) here ∙ stops_at)
          at Other e =
              let here : stream_ended ≡ stopped Form t = ends_so ∙ rw e in
              refused_there Form (packet_offset fs n) form (ap (λ u. u.stage) here) (ap (λ u. u.at) here ∙ stops_at)

      by_end : Came
      by_end = at (is_kind end_kind (record_at at_the_end 0)) refl
        where
          at : (b : Bool) → is_kind end_kind (record_at at_the_end 0) ≡ b → Came
          at true w = whole_end w
          at false w = no_whole_end w

    pub came : Came
    unfolding taken_answer
    came = at (ltb (taken P xs S) n) refl
      where
        at : (b : Bool) → ltb (taken P xs S) n ≡ b → Came
        at true e =
            let l = ltb-true (taken P xs S) n e in
            let r = next_refused P xs S l in
            by_packet l (record_answer P xs S (taken P xs S)) refl r.1 r.0
        at false e = by_end (rw e)
