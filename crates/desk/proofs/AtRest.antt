-- Where the stages end, more bytes are waited for.
use mathlib.Core.Path.{◌≡◌, refl, sym, ap, ◌∙◌}
use mathlib.Core.Bool.{Bool, true, false, not, cond, ◌&&◌, true≢false}
use mathlib.Core.Logic.{◌⊎◌, ⊎_elim}
use mathlib.Core.List.{List}
use Prim.Native.Nat.{ℕ, ◌+◌, ◌-◌, ◌*◌}
use native.Mathlib.Omega.{arith}
use borrow.Author.Tests.{ltb-true, ltb-false, le-leb, lt-leb, ne_eqb, not-true}
use lib.Dec.{ltb, leb, eqb}
use lib.ListN.{length, get_or, drop}
use Rattle.params.specs.declared.params.Params.{Params}
use Rattle.params.specs.declared.answers.Refusal.TheVariants.{Form}
use Rattle.sketch.specs.Sketch.{Sketch}
use Rattle.params.proofs.Searches.{cannot_hold}
use Rattle.params.proofs.Lowest.{least_lowest}
use Rattle.files.specs.Bytes.{word}
use Rattle.files.specs.Records.{record_at, is_kind, packets_kind, end_kind, packets_length}
use Rattle.files.specs.Turns.{packet_from, records_of}
use Rattle.files.specs.Fields.{records_field}
use Rattle.files.proofs.Standing.{nothing_stands}
use Rattle.desk.proofs.Whole.{whole_record}
use Rattle.streamfile.specs.Streams.{packets_from}
use Rattle.desk.specs.declared.states.Stage.{Stage}
use Rattle.desk.specs.declared.states.Stage.TheVariants.{UpstreamPackets, DownstreamHead, DownstreamPackets, Nothing, Refused as Stopped}
use Rattle.desk.specs.declared.states.State.{State}
use Rattle.desk.specs.declared.stages.Due.{Due}
use Rattle.desk.specs.declared.stages.Due.TheVariants.{Here, NotYet, Other}
use Rattle.desk.specs.Desk.{is_due, packets_due, head_due, nothing_due, after_end, stopped, end_state, downstream_head_answer, answered, head_state, stage_after, taken, packets_state, due_of, due_end, due_head, ended_state, headed_state, packets_stage, end_stage, head_stage, nothing_stage, rest, upstream_taken, upstream_ended, downstream_headed, downstream_taken, downstream_ended, fed_state}
use Rattle.desk.proofs.InTheRest.{whole_at}
use Rattle.desk.proofs.Taking.{all_taken}
use Rattle.desk.proofs.Onward.{Onward, packets_onward, end_onward, head_onward, onward_then}
use Rattle.desk.proofs.Back.{live, downstream_stage, packets_live, due_live, TakenBy, packets_back, EndedBy, end_back, HeadedBy, head_back, nothing_back}
use Rattle.desk.proofs.MoreBytes.{not_yet}
use Rattle.desk.proofs.OneRecord.{waits_at, waits}
use Rattle.desk.proofs.Reaching.{rest_rest}
use Rattle.params.specs.Answers.{Answer, Done}
use Rattle.std.specs.Prelude.{Err}

-- after all packets at hand no whole one stands there
none_after_all : (bs : List ℕ) → is_kind packets_kind (record_at bs (packet_from 0 (packets_from 0 bs))) ≡ false
unfolding records_of
none_after_all bs = at (ltb (packets_from 0 bs) (length bs)) refl
  where
    at : (b : Bool) → ltb (packets_from 0 bs) (length bs) ≡ b → is_kind packets_kind (record_at bs (packet_from 0 (packets_from 0 bs))) ≡ false
    at true e = not-true _ (least_lowest (length bs) (λ k. not (is_kind packets_kind (record_at bs (packet_from 0 k)))) (ltb-true _ _ e)).here
    at false e = ap (is_kind packets_kind) (nothing_stands bs (packet_from 0 (packets_from 0 bs)) (omega (arith, ltb-false (packets_from 0 bs) (length bs) e)))

no_packet_left : (bs : List ℕ) → is_kind packets_kind (record_at (drop (packets_length * packets_from 0 bs) bs) 0) ≡ false
no_packet_left bs =
    let here : packet_from 0 (packets_from 0 bs) ≡ packets_length * packets_from 0 bs = omega arith in
    cannot_hold (is_kind packets_kind (record_at (drop (packets_length * packets_from 0 bs) bs) 0))
    (λ e. true≢false (sym (whole_at bs (packets_length * packets_from 0 bs) packets_kind (omega arith) e) ∙ rw here at (none_after_all bs)))

-- each stage, by what it leaves due
packets_settled : (downstream : Bool) (P : Params) (bs : List ℕ) (S : Sketch) (s : State) → is_due downstream (packets_stage downstream P bs S s).stage ≡ true
    → is_kind packets_kind (record_at (rest s (packets_stage downstream P bs S s) bs) 0) ≡ false
unfolding packets_state
packets_settled downstream P bs S s p = ⊎_elim waiting all (packets_back downstream P bs S s (due_live downstream (packets_stage downstream P bs S s).stage p))
  where
    waiting : (is_due downstream s.stage ≡ false) × (packets_stage downstream P bs S s ≡ s) → is_kind packets_kind (record_at (rest s (packets_stage downstream P bs S s) bs) 0) ≡ false
    waiting h = absurd (true≢false (sym p ∙ ap (λ t. is_due downstream t.stage) h.1 ∙ h.0))

    all : TakenBy downstream P bs S s (packets_stage downstream P bs S s) → is_kind packets_kind (record_at (rest s (packets_stage downstream P bs S s) bs) 0) ≡ false
    all t =
        let n = (all_taken P bs S t.done).number in
        let at : (packets_stage downstream P bs S s).at ≡ s.at + packets_length * taken P bs S = ap (λ t. t.at) t.next in
        let left : rest s (packets_stage downstream P bs S s) bs ≡ drop (packets_length * packets_from 0 bs) bs = ap (λ (i : ℕ). drop i bs) {x = (packets_stage downstream P bs S s).at - s.at} {y = packets_length * packets_from 0 bs} (omega arith) in
        rw left (no_packet_left bs)

-- a whole end is not waited for
end_here : (bs : List ℕ) → is_kind end_kind (record_at bs 0) ≡ true → not_yet (due_end bs) ≡ false
unfolding due_end due_of
end_here bs w =
    let r = whole_record bs 0 end_kind w in
    rw (lt-leb (length bs) 0 (omega (arith, r.1)), ne_eqb (get_or bs 0 0) packets_kind (λ e. omega (arith, r.0)), w)

-- an end, or a head, that has left the stage as it was is waited for
end_still : (bs : List ℕ) (s : State) → packets_due (end_stage bs s).stage ≡ true → (end_stage bs s ≡ s) × (not_yet (due_end bs) ≡ true)
unfolding end_stage
end_still bs s = at (packets_due s.stage) refl (due_end bs)
  where
    after : (g : Stage) → packets_due (after_end g) ≡ false
    after UpstreamPackets = refl
    after DownstreamHead = refl
    after DownstreamPackets = refl
    after Nothing = refl
    after (Stopped w) = refl

    judged : (b : Bool) → packets_due (cond b (ended_state s) (stopped Form s)).stage ≡ false
    judged true = after s.stage
    judged false = refl

    at : (b : Bool) → packets_due s.stage ≡ b → (d : Due) → packets_due (cond b (end_state d bs s) s).stage ≡ true → (cond b (end_state d bs s) s ≡ s) × (not_yet d ≡ true)
    at false q d p = absurd (true≢false (sym p ∙ q))
    at true q NotYet p = (refl, refl)
    at true q Other p = absurd (true≢false (sym p))
    at true q Here p = absurd (true≢false (sym p ∙ judged (eqb (word bs records_field) s.records)))

head_still : (P : Params) (bs : List ℕ) (s : State) → (head_stage P bs s).stage ≡ DownstreamHead → (head_stage P bs s ≡ s) × (not_yet (due_head bs) ≡ true)
unfolding head_stage
head_still P bs s = at (head_due s.stage) refl (due_head bs)
  where
    judged : (r : Answer) → head_due (answered r s (headed_state P s)).stage ≡ false
    judged Done = refl
    judged (Err r) = refl

    at : (b : Bool) → head_due s.stage ≡ b → (d : Due) → (cond b (head_state d P bs s) s).stage ≡ DownstreamHead → (cond b (head_state d P bs s) s ≡ s) × (not_yet d ≡ true)
    at false q d p = absurd (true≢false (sym (ap head_due p) ∙ q))
    at true q NotYet p = (refl, refl)
    at true q Other p = absurd (true≢false (sym (ap head_due p)))
    at true q Here p = absurd (true≢false (sym (ap head_due p) ∙ judged (downstream_head_answer P bs)))

nothing_still : (bs : List ℕ) (s : State) → live (nothing_stage bs s).stage ≡ true → nothing_stage bs s ≡ s
unfolding nothing_stage
nothing_still bs s = at (nothing_due s.stage && not (leb (length bs) 0))
  where
    at : (b : Bool) → live (cond b (stopped Form s) s).stage ≡ true → cond b (stopped Form s) s ≡ s
    at true p = absurd (true≢false (sym p))
    at false p = refl

-- the stages one after the other
module _ (P : Params) (S : Sketch) (bs : List ℕ) (s a b c d e f : State)
    (a-settled : is_due false a.stage ≡ true → is_kind packets_kind (record_at (rest s a bs) 0) ≡ false)
    (b-still : packets_due b.stage ≡ true → (b ≡ a) × (not_yet (due_end (rest s a bs)) ≡ true))
    (c-still : c.stage ≡ DownstreamHead → (c ≡ b) × (not_yet (due_head (rest s b bs)) ≡ true))
    (c-came : live c.stage ≡ true → (c ≡ b) ⊎ HeadedBy P (rest s b bs) b c)
    (d-settled : is_due true d.stage ≡ true → is_kind packets_kind (record_at (rest s d bs) 0) ≡ false)
    (d-came : live d.stage ≡ true → ((is_due true c.stage ≡ false) × (d ≡ c)) ⊎ TakenBy true P (rest s c bs) S c d)
    (e-still : packets_due e.stage ≡ true → (e ≡ d) × (not_yet (due_end (rest s d bs)) ≡ true))
    (e-came : live e.stage ≡ true → (e ≡ d) ⊎ EndedBy (rest s d bs) d e)
    (f-still : live f.stage ≡ true → f ≡ e)
    (f-nothing : f.stage ≡ Nothing → length (rest s e bs) ≡ 0) where
  -- downstream packets that were taken leave downstream packets due
  taken_due : TakenBy true P (rest s c bs) S c d → d.stage ≡ DownstreamPackets
  unfolding packets_state stage_after
  taken_due t = ap (λ s. s.stage) t.next ∙ ap (stage_after c.stage) t.done ∙ downstream_stage c.stage t.due

  -- where upstream packets are due, neither the head nor the packets after it have come
  d_first : d.stage ≡ UpstreamPackets → d ≡ c
  d_first p = ⊎_elim (λ h. h.1) (λ t. absurd (true≢false (sym (ap (is_due false) p) ∙ ap (is_due false) (taken_due t)))) (d-came (ap live p))

  c_first : c.stage ≡ UpstreamPackets → c ≡ b
  c_first p = ⊎_elim (λ h. h) (λ w. absurd (true≢false (sym (ap (is_due false) p) ∙ ap (λ s. is_due false s.stage) w.next))) (c-came (ap live p))

  first_stream : d.stage ≡ UpstreamPackets → (d ≡ a) × (not_yet (due_end (rest s a bs)) ≡ true)
  first_stream p =
      let dc = d_first p in
      let cb = c_first (rw dc at p) in
      let h = b-still (ap packets_due (rw (dc, cb) at p)) in
      (dc ∙ cb ∙ h.0, h.1)

  no_packet : (g : Stage) → d.stage ≡ g → packets_due g ≡ true → is_kind packets_kind (record_at (rest s d bs) 0) ≡ false
  no_packet UpstreamPackets p l = let h = (first_stream p).0 in rw h (a-settled (ap (is_due false) (rw h at p)))
  no_packet DownstreamHead p l = absurd (true≢false (sym l))
  no_packet DownstreamPackets p l = d-settled (ap (is_due true) p)
  no_packet Nothing p l = absurd (true≢false (sym l))
  no_packet (Stopped w) p l = absurd (true≢false (sym l))

  -- after the upstream end a head is due, which is waited for
  head_waited : e.stage ≡ DownstreamHead → not_yet (due_head (rest s e bs)) ≡ true
  head_waited p = ⊎_elim same ended (e-came (ap live p))
    where
      taken_so : d.stage ≡ DownstreamHead → TakenBy true P (rest s c bs) S c d → d ≡ c
      taken_so q t = absurd (true≢false (sym (ap head_due q) ∙ ap head_due (taken_due t)))

      same : e ≡ d → not_yet (due_head (rest s e bs)) ≡ true
      same q =
          let stage : d.stage ≡ DownstreamHead = rw q at p in
          let dc = ⊎_elim (λ h. h.1) (taken_so stage) (d-came (ap live stage)) in
          let h = c-still (rw dc at stage) in
          rw (q ∙ dc ∙ h.0) h.1

      in_first : (g : Stage) → packets_due g ≡ true → after_end g ≡ DownstreamHead → g ≡ UpstreamPackets
      in_first UpstreamPackets l z = refl
      in_first DownstreamHead l z = absurd (true≢false (sym l))
      in_first DownstreamPackets l z = absurd (true≢false (sym (ap head_due z)))
      in_first Nothing l z = absurd (true≢false (sym l))
      in_first (Stopped w) l z = absurd (true≢false (sym l))

      ended : EndedBy (rest s d bs) d e → not_yet (due_head (rest s e bs)) ≡ true
      ended w =
          let h = first_stream (in_first d.stage w.due (sym (ap (λ s. s.stage) w.next) ∙ p)) in
          absurd (true≢false (sym h.1 ∙ rw h.0 at (end_here (rest s d bs) w.whole)))

  packets_waited : packets_due f.stage ≡ true → (not (is_kind packets_kind (record_at (rest s f bs) 0)) && not_yet (due_end (rest s f bs))) ≡ true
  packets_waited p =
      let fe = f-still (packets_live f.stage p) in
      let h = e-still (rw fe at p) in
      rw (fe ∙ h.0) (rw (no_packet d.stage refl (rw (fe ∙ h.0) at p)) h.1)

  waited : (g : Stage) → f.stage ≡ g → waits_at g (rest s f bs) ≡ true
  unfolding waits_at
  waited UpstreamPackets p = packets_waited (ap packets_due p)
  waited DownstreamHead p = let fe = f-still (ap live p) in rw fe (head_waited (rw fe at p))
  waited DownstreamPackets p = packets_waited (ap packets_due p)
  waited Nothing p = rw (f-still (ap live p)) (le-leb (length (rest s e bs)) 0 (omega (arith, f-nothing p)))
  waited (Stopped w) p = refl

-- so the state that feeding comes to waits; the states after each stage are named as in the code
module _ (P : Params) (bs : List ℕ) (up down : Sketch) (s : State) where
  abbrev a : State
  a = upstream_taken P bs up down s

  abbrev b : State
  b = upstream_ended P bs up down s

  abbrev c : State
  c = downstream_headed P bs up down s

  abbrev d : State
  d = downstream_taken P bs up down s

  abbrev e : State
  e = downstream_ended P bs up down s

  to_a : Onward bs s a
  to_a = packets_onward false P bs up s

  to_b : Onward bs s b
  to_b = onward_then bs s a b to_a (end_onward (rest s a bs) a)

  to_c : Onward bs s c
  to_c = onward_then bs s b c to_b (head_onward P (rest s b bs) b)

  settled : is_due true d.stage ≡ true → is_kind packets_kind (record_at (rest s d bs) 0) ≡ false
  settled p = rw (← rest_rest bs s c d to_c (packets_onward true P (rest s c bs) down c)) (packets_settled true P (rest s c bs) down c p)

  pub fed_waits : waits (rest s (fed_state P bs up down s) bs) (fed_state P bs up down s) ≡ true
  fed_waits =
      waited P down bs s a b c d e (fed_state P bs up down s)
      (packets_settled false P bs up s) (end_still (rest s a bs) a) (head_still P (rest s b bs) b) (head_back P (rest s b bs) b)
      settled (packets_back true P (rest s c bs) down c) (end_still (rest s d bs) d) (end_back (rest s d bs) d)
      (nothing_still (rest s e bs) e) (λ p. (nothing_back (rest s e bs) e p).1) (fed_state P bs up down s).stage refl
