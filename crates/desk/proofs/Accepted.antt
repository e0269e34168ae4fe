-- An input that the desk accepts is two stream files, one directly after the other, and the desk's sketches are what their reader makes of them.
use mathlib.Core.Path.{◌≡◌, refl, sym, ap, ◌∙◌}
use mathlib.Core.Bool.{Bool, true, false, not, true≢false}
use mathlib.Core.List.{List}
use Prim.Native.Nat.{ℕ, ◌+◌, ◌*◌, ◌≤◌}
use native.Mathlib.Omega.{arith}
use borrow.Author.Tests.{not-false}
use lib.ListN.{length, take, drop, length-take, length-drop, take-append-drop}
use lib.Seq.{length-take-le, get_or-take, get_or-drop, drop-drop}
use Rattle.params.specs.declared.params.Params.{Params}
use Rattle.params.specs.declared.answers.Refusal.TheVariants.{Param}
use Rattle.params.specs.Answers.{Answer, Done}
use Rattle.params.specs.Params.{good_params, same_params}
use Rattle.sketch.specs.Sketch.{Sketch, zeros}
use Rattle.params.proofs.SameParams.{same_itself}
use Rattle.params.proofs.Judging.{first_done, refuse_done}
use Rattle.files.specs.Bytes.{word}
use Rattle.files.specs.Records.{head_length_in, record_at, is_kind, is_head, end_kind, packets_length, end_length}
use Rattle.files.specs.Heads.{head_kind_of, head_length_of, params_in, good_head, head_answer}
use Rattle.files.specs.Fields.{records_field}
use Rattle.files.proofs.Standing.{head_within}
use Rattle.files.proofs.Profiles.{kind_long}
use Rattle.files.proofs.HeadStages.{good_parts}
use Rattle.files.proofs.HeadTrips.{head_accepted}
use Rattle.desk.proofs.Whole.{whole_record}
use Rattle.streamfile.specs.Streams.{StreamRead}
use Rattle.desk.specs.declared.states.Stage.{Stage}
use Rattle.desk.specs.declared.states.Stage.TheVariants.{UpstreamPackets, DownstreamHead, DownstreamPackets, Nothing, Refused as Stopped}
use Rattle.desk.specs.declared.states.Fed.{Fed}
use Rattle.desk.specs.Desk.{nothing_due, few_enough, due_head, begin_answer, begin_of, started, taken, taken_answer, after_taken, packets_sketch, offsets_fit, lent_both, Feeds, finish_answer}
use Rattle.desk.proofs.HeadAnswers.{done_given, second_good, second_same, second_length}
use Rattle.desk.proofs.MoreBytes.{not_yet, head_least, head_long, params_more, good_more, no_head_more}
use Rattle.desk.proofs.InTheRest.{whole_at, word_at}
use Rattle.desk.proofs.Taking.{all_taken}
use Rattle.desk.proofs.SameBytes.{fed_is_read}
use Rattle.desk.proofs.Lending.{fed_taken, fed_turned_down, fresh_lent}
use Rattle.desk.proofs.BothStreams.{upstream_number, downstream_file, downstream_body, downstream_number, Passed, passed}
use Rattle.std.specs.Prelude.{Err, Ok}

-- a first part of the input that holds the head has the same head
module _ (xs : List ℕ) (e : ℕ) (whole : is_head (record_at xs 0) ≡ true) (long : head_length_in xs ≤ e) where
  part_length : head_length_in (take e xs) ≡ head_length_in xs
  unfolding head_length_in
  part_length = rw (get_or-take e xs 0 0 (omega (arith, head_least xs)))

  -- all its bytes are there, and so none is waited for
  part_found : not_yet (due_head (take e xs)) ≡ false
  part_found = head_long (take e xs) (omega (arith, part_length, length-take e xs, head_within xs whole))

  part_head : is_head (record_at (take e xs) 0) ≡ true
  part_head = at (is_head (record_at (take e xs) 0)) refl
    where
      at : (b : Bool) → is_head (record_at (take e xs) 0) ≡ b → b ≡ true
      at true w = refl
      at false w = absurd (true≢false (sym whole ∙ ap (λ bs. is_head (record_at bs 0)) (sym (take-append-drop e xs)) ∙ no_head_more (take e xs) (drop e xs) part_found w))

  part_params : params_in (take e xs) ≡ params_in xs
  part_params = sym (params_more (take e xs) (drop e xs) part_head) ∙ ap params_in (take-append-drop e xs)

  part_good : good_head (take e xs) ≡ good_head xs
  part_good = sym (good_more (take e xs) (drop e xs) part_head) ∙ ap good_head (take-append-drop e xs)

-- the input is two streams, each read into a fresh sketch
pub record TwoStreams (P : Params) (input : List ℕ) (up down : Sketch) : Type 0 where
  pub split : ℕ
  pub within : split ≤ length input
  pub upstream_read : StreamRead P (take split input) (zeros P) Done up
  pub downstream_read : StreamRead P (drop split input) (zeros P) Done down

-- the first head is one of a file, and gives the parameters
pub record Begun (P : Params) (input : List ℕ) : Type 0 where
  pub head : is_head (record_at input 0) ≡ true
  pub good : good_head input ≡ true
  pub params : P ≡ params_in input

pub begun : (P : Params) (input : List ℕ) → begin_of input ≡ Ok P → Begun P input
unfolding begin_answer
begun P input e =
    let h = done_given (begin_answer input) _ _ (sym e) in
    let k = head_accepted input (first_done _ _ h.0).0 in
    record { head = k.0; good = k.1; params = h.1 }

module _ (P : Params) (input : List ℕ) (b : Begun P input) where
  pub good_params_lem : good_params P ≡ true
  good_params_lem = rw b.params (good_parts input b.good).0

  -- it is as long as its profile says
  pub begun_length : head_length_in input ≡ head_length_of P
  begun_length = kind_long P input ((good_parts input b.good).1 ∙ ap head_kind_of (sym b.params))

  pub input_long : head_length_of P ≤ length input
  input_long = omega (arith, begun_length, head_within input b.head)

  -- the first stream: as many packets behind the head as are taken, and an end that says so
  abbrev pub first_number : ℕ
  first_number = taken P (drop (head_length_of P) input) (zeros P)

  abbrev pub at_first_end : List ℕ
  at_first_end = drop (packets_length * first_number) (drop (head_length_of P) input)

  abbrev pub first_length : ℕ
  first_length = head_length_of P + (packets_length * first_number + end_length)

  module _ (done : taken_answer P (drop (head_length_of P) input) (zeros P) ≡ Done) (end : is_kind end_kind (record_at at_first_end 0) ≡ true) (said : word at_first_end records_field ≡ first_number) where
    first_long : packets_length * first_number + end_length ≤ length (drop (head_length_of P) input)
    first_long = omega (arith, (whole_record at_first_end 0 end_kind end).1, length-drop (packets_length * first_number) (drop (head_length_of P) input))

    pub split_within : first_length ≤ length input
    split_within = omega (arith, first_long, input_long, length-drop (head_length_of P) input)

    pub first_file : StreamRead P (take first_length input) (zeros P) Done (after_taken P (drop (head_length_of P) input) (zeros P))
    first_file =
        let e : ℕ = first_length in
        let xs : List ℕ = drop (head_length_of P) input in
        let holds : head_length_in input ≤ e = omega (arith, begun_length) in
        let long : length (take e input) ≡ e = length-take-le e input split_within in
        let params : params_in (take e input) ≡ params_in input = part_params input e b.head holds in
        fed_is_read P (take e input) xs first_number (part_length input e b.head holds ∙ begun_length) long first_long
        (λ j l. get_or-take e input (head_length_of P + j) 0 (omega arith) ∙ sym (get_or-drop (head_length_of P) input j 0))
        (sym (all_taken P xs (zeros P) done).number) (whole_at xs (packets_length * first_number) end_kind (omega arith) end) (sym (word_at xs (packets_length * first_number) records_field) ∙ said)
        (part_head input e b.head holds)
        good_params_lem (part_good input e b.head holds ∙ b.good) (ap (same_params P) (params ∙ sym b.params) ∙ same_itself P) done

module _ (P : Params) (input : List ℕ) (b : Begun P input) (p : Passed P (drop (head_length_of P) input) (zeros P) (zeros P)) where
  abbrev xs : List ℕ
  xs = drop (head_length_of P) input

  abbrev n : ℕ
  n = upstream_number P xs (zeros P) (zeros P)

  abbrev file : List ℕ
  file = downstream_file P xs (zeros P) (zeros P)

  abbrev body : List ℕ
  body = downstream_body P xs (zeros P) (zeros P)

  abbrev m : ℕ
  m = downstream_number P xs (zeros P) (zeros P)

  second_long : length file ≡ head_length_of P + (packets_length * m + end_length)
  second_long =
      let w = (whole_record (drop (packets_length * m) body) 0 end_kind p.second_end).1 in
      omega (arith, w, length-drop (packets_length * m) body, length-drop (head_length_of P) file, p.nothing_more, length-drop (packets_length * m + end_length) body)

  second_file : StreamRead P file (zeros P) Done (after_taken P body (zeros P))
  second_file =
      fed_is_read P file body m (second_length file P p.second_same) second_long (omega (arith, second_long, length-drop (head_length_of P) file))
      (λ j l. sym (get_or-drop (head_length_of P) file j 0))
      (sym (all_taken P body (zeros P) p.second_done).number) (whole_at body (packets_length * m) end_kind (omega arith) p.second_end) (sym (word_at body (packets_length * m) records_field) ∙ p.second_said)
      p.second_head (good_params_lem P input b) (second_good file P p.second_same) (second_same file P p.second_same) p.second_done

  two_streams : TwoStreams P input (after_taken P xs (zeros P)) (after_taken P body (zeros P))
  two_streams =
      record {
        split = head_length_of P + (packets_length * n + end_length);
        within = split_within P input b p.first_done p.first_end p.first_said;
        upstream_read = first_file P input b p.first_done p.first_end p.first_said;
        downstream_read = rw (← drop-drop (packets_length * n + end_length) (head_length_of P) input) second_file;
      }

-- the end of the input finds that nothing more was due
finished_nothing : (g : Stage) (at : ℕ) → finish_answer g at ≡ Done → g ≡ Nothing
finished_nothing Nothing at e = refl
finished_nothing (Stopped w) at e = cc
finished_nothing UpstreamPackets at e = cc
finished_nothing DownstreamHead at e = cc
finished_nothing DownstreamPackets at e = cc

-- the desk takes few enough buckets alone
pub few_begun : (P : Params) (input : List ℕ) → begin_of input ≡ Ok P → few_enough P ≡ true
unfolding begin_answer
few_begun P input e =
    let h = done_given (begin_answer input) _ _ (sym e) in
    rw h.1 (not-false _ (refuse_done (not (few_enough (params_in input))) Param 0 Done (first_done (head_answer input) _ h.0).1).0)

-- and an input is accepted only where 64 bits hold its offsets
pub near_done : {P : Params} {bs : List ℕ} {r : Fed} {up down up' down' : Sketch} → Feeds P bs up down (started P) r up' down' → finish_answer r.state.stage r.state.at ≡ Done
    → offsets_fit bs (started P) ≡ true
near_done {P} {bs} {r} {up} {down} fed done = lent (lent_both P up down) refl
  where
    nothing : r.state.stage ≡ Nothing
    nothing = finished_nothing r.state.stage r.state.at done

    lent : (a : Answer) → lent_both P up down ≡ a → offsets_fit bs (started P) ≡ true
    lent (Err r) e = absurd (true≢false (sym (ap nothing_due nothing) ∙ ap (λ s. nothing_due s.stage) (fed_turned_down e fed).state))
    lent Done e = at (offsets_fit bs (started P)) refl
      where
        at : (b : Bool) → offsets_fit bs (started P) ≡ b → b ≡ true
        at true near = refl
        at false far = absurd (true≢false (sym (ap nothing_due nothing) ∙ ap (λ s. nothing_due s.stage) (rw far at (fed_taken e fed).state)))

pub accepted : (P : Params) (input : List ℕ) (r : Fed) (up down : Sketch) → begin_of input ≡ Ok P
    → Feeds P (drop (head_length_of P) input) (zeros P) (zeros P) (started P) r up down → finish_answer r.state.stage r.state.at ≡ Done → TwoStreams P input up down
unfolding packets_sketch
accepted P input r up down head fed done =
    let near = near_done fed done in
    let took = fed_taken (fresh_lent P (good_params_lem P input (begun P input head))) fed in
    let nothing = finished_nothing r.state.stage r.state.at done in
    let p = passed P (drop (head_length_of P) input) (zeros P) (zeros P) (sym (ap (λ s. s.stage) (rw near at took.state)) ∙ nothing) in
    rw (rw near at took.upstream, rw near at took.downstream ∙ p.1) (two_streams P input (begun P input head) p.0)
