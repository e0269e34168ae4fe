-- An input after whose first head all stages were passed: packets, an end, a head, packets, an end, and nothing more.
use mathlib.Core.Path.{◌≡◌, refl, sym, ap, ◌∙◌}
use mathlib.Core.Bool.{true, false, true≢false}
use mathlib.Core.Logic.{◌⊎◌, inl, inr, ⊎_elim}
use mathlib.Core.List.{List}
use Prim.Native.Nat.{ℕ, ◌+◌, ◌-◌, ◌*◌}
use native.Mathlib.Omega.{arith}
use lib.ListN.{length, drop}
use lib.Seq.{drop-drop}
use Rattle.params.specs.declared.params.Params.{Params}
use Rattle.sketch.specs.Sketch.{Sketch}
use Rattle.files.specs.Bytes.{word}
use Rattle.files.specs.Records.{record_at, is_kind, is_head, end_kind, packets_length, end_length}
use Rattle.files.specs.Heads.{head_length_of}
use Rattle.files.specs.Fields.{records_field}
use Rattle.desk.specs.declared.states.Stage.{Stage}
use Rattle.desk.specs.declared.states.Stage.TheVariants.{UpstreamPackets, DownstreamHead, DownstreamPackets, Nothing, Refused as Stopped}
use Rattle.desk.specs.declared.states.State.{State}
use Rattle.desk.specs.Desk.{is_due, packets_due, nothing_due, after_end, started, stage_after, taken, taken_answer, after_taken, packets_state, downstream_head_answer, packets_sketch, rest, upstream_taken, downstream_headed, downstream_ended, fed_state}
use Rattle.desk.proofs.Back.{live, downstream_stage, packets_live, due_live, TakenBy, packets_back, EndedBy, end_back, HeadedBy, head_back, nothing_back}
use Rattle.params.specs.Answers.{Done}

-- one stage after the other, from a, where upstream packets are due, to e, where nothing more is
module _ {P : Params} {S : Sketch} {ws xs ys zs : List ℕ} {a b c d e : State}
    (at_first : live a.stage ≡ true → a.stage ≡ UpstreamPackets)
    (to_b : live b.stage ≡ true → (b ≡ a) ⊎ EndedBy ws a b)
    (to_c : live c.stage ≡ true → (c ≡ b) ⊎ HeadedBy P xs b c)
    (to-d : live d.stage ≡ true → ((is_due true c.stage ≡ false) × (d ≡ c)) ⊎ TakenBy true P ys S c d)
    (to-e : live e.stage ≡ true → (e ≡ d) ⊎ EndedBy zs d e)
    (nothing : e.stage ≡ Nothing) where
  not_nothing : {g : Stage} {A : Type 0} → g ≡ Nothing → nothing_due g ≡ false → A
  not_nothing p q = absurd (true≢false (sym (ap nothing_due p) ∙ q))

  -- the upstream stream has not ended, or its end stood there and a head is due
  b_is : live b.stage ≡ true → (b.stage ≡ UpstreamPackets) ⊎ (EndedBy ws a b × (b.stage ≡ DownstreamHead))
  b_is l = ⊎_elim same ended (to_b l)
    where
      same : b ≡ a → (b.stage ≡ UpstreamPackets) ⊎ (EndedBy ws a b × (b.stage ≡ DownstreamHead))
      same q = inl (rw q (at_first (rw q at l)))

      ended : EndedBy ws a b → (b.stage ≡ UpstreamPackets) ⊎ (EndedBy ws a b × (b.stage ≡ DownstreamHead))
      ended w = inr (w, ap (λ s. s.stage) w.next ∙ ap after_end (at_first (packets_live a.stage w.due)))

  -- a head is due still, or the upstream stream has not ended, or the downstream one has begun
  c_is : live c.stage ≡ true → (c.stage ≡ DownstreamHead) ⊎ (c.stage ≡ UpstreamPackets) ⊎ (EndedBy ws a b × HeadedBy P xs b c × (c.stage ≡ DownstreamPackets))
  c_is l = ⊎_elim same headed (to_c l)
    where
      same : c ≡ b → (c.stage ≡ DownstreamHead) ⊎ (c.stage ≡ UpstreamPackets) ⊎ (EndedBy ws a b × HeadedBy P xs b c × (c.stage ≡ DownstreamPackets))
      same q = ⊎_elim (λ h. inr (inl (rw q h))) (λ h. inl (rw q h.1)) (b_is (rw q at l))

      headed : HeadedBy P xs b c → (c.stage ≡ DownstreamHead) ⊎ (c.stage ≡ UpstreamPackets) ⊎ (EndedBy ws a b × HeadedBy P xs b c × (c.stage ≡ DownstreamPackets))
      headed w =
          ⊎_elim (λ h. absurd (true≢false (sym (ap packets_due h) ∙ ap packets_due w.due))) (λ h. inr (inr (h.0, w, ap (λ s. s.stage) w.next)))
          (b_is (ap live w.due))

  -- none of these is the end of all
  c_not_nothing : c.stage ≡ Nothing → ⊥
  c_not_nothing p =
      ⊎_elim (λ h. not_nothing p (ap nothing_due h)) (⊎_elim (λ h. not_nothing p (ap nothing_due h)) (λ h. not_nothing p (ap nothing_due h.2)))
      (c_is (ap live p))

  abbrev AllPassed : Type 0
  AllPassed = EndedBy ws a b × HeadedBy P xs b c × TakenBy true P ys S c d × EndedBy zs d e

  -- so the downstream stream ended
  second_ended : EndedBy zs d e → AllPassed
  second_ended w = ⊎_elim waiting taken_so (to-d (packets_live d.stage w.due))
    where
      last_end : (g : Stage) → packets_due g ≡ true → after_end g ≡ Nothing → is_due true g ≡ true
      last_end UpstreamPackets p q = not_nothing q refl
      last_end DownstreamHead p q = not_nothing q refl
      last_end DownstreamPackets p q = refl
      last_end Nothing p q = absurd (true≢false (sym p))
      last_end (Stopped v) p q = not_nothing q refl

      due : is_due true d.stage ≡ true
      due = last_end d.stage w.due (sym (ap (λ s. s.stage) w.next) ∙ nothing)

      waiting : (is_due true c.stage ≡ false) × (d ≡ c) → AllPassed
      waiting h = absurd (true≢false (sym due ∙ ap (λ s. is_due true s.stage) h.1 ∙ h.0))

      taken_so : TakenBy true P ys S c d → AllPassed
      taken_so t =
          let other : is_due true c.stage ≡ false → AllPassed = λ q. absurd (true≢false (sym t.due ∙ q)) in
          ⊎_elim (λ k. other (ap (is_due true) k)) (⊎_elim (λ k. other (ap (is_due true) k)) (λ k. (k.0, k.1, t, w)))
          (c_is (due_live true c.stage t.due))

  all_passed : AllPassed
  unfolding packets_state stage_after
  all_passed = ⊎_elim unended second_ended (to-e (ap live nothing))
    where
      unended : e ≡ d → AllPassed
      unended q =
          let d-nothing : d.stage ≡ Nothing = rw q at nothing in
          ⊎_elim (λ h. absurd (c_not_nothing (rw h.1 at d-nothing))) (λ t. not_nothing d-nothing (rw (t.next, t.done, downstream_stage c.stage t.due)))
          (to-d (ap live d-nothing))

-- what stands in the bytes after the first head: n packets and an end, a head, m packets and an end
module _ (P : Params) (bs : List ℕ) (up down : Sketch) where
  abbrev pub upstream_number : ℕ
  upstream_number = taken P bs up

  abbrev pub downstream_file : List ℕ
  downstream_file = drop (packets_length * upstream_number + end_length) bs

  abbrev pub downstream_body : List ℕ
  downstream_body = drop (head_length_of P) downstream_file

  abbrev pub downstream_number : ℕ
  downstream_number = taken P downstream_body down

  pub record Passed : Type 0 where
    pub first_done : taken_answer P bs up ≡ Done
    pub first_end : is_kind end_kind (record_at (drop (packets_length * upstream_number) bs) 0) ≡ true
    pub first_said : word (drop (packets_length * upstream_number) bs) records_field ≡ upstream_number
    pub second_head : is_head (record_at downstream_file 0) ≡ true
    pub second_same : downstream_head_answer P downstream_file ≡ Done
    pub second_done : taken_answer P downstream_body down ≡ Done
    pub second_end : is_kind end_kind (record_at (drop (packets_length * downstream_number) downstream_body) 0) ≡ true
    pub second_said : word (drop (packets_length * downstream_number) downstream_body) records_field ≡ downstream_number
    pub nothing_more : length (drop (packets_length * downstream_number + end_length) downstream_body) ≡ 0

  -- the bytes that are left at an offset
  left_at : (t : State) (k : ℕ) → t.at ≡ head_length_of P + k → rest (started P) t bs ≡ drop k bs
  left_at t k q = ap (λ (i : ℕ). drop i bs) {x = t.at - head_length_of P} {y = k} (omega arith)

  module _ {a b c d e : State} (ta : TakenBy false P bs up (started P) a) (tb : EndedBy (rest (started P) a bs) a b) (tc : HeadedBy P (rest (started P) b bs) b c)
      (td : TakenBy true P (rest (started P) c bs) down c d) (te : EndedBy (rest (started P) d bs) d e) (none : length (rest (started P) e bs) ≡ 0) where
    a_left : rest (started P) a bs ≡ drop (packets_length * upstream_number) bs
    unfolding packets_state
    a_left = left_at a (packets_length * upstream_number) (ap (λ s. s.at) ta.next)

    b_left : rest (started P) b bs ≡ downstream_file
    unfolding packets_state
    b_left = left_at b (packets_length * upstream_number + end_length) (ap (λ s. s.at) tb.next ∙ ap (λ s. s.at + end_length) ta.next ∙ omega arith)

    c_at : c.at ≡ head_length_of P + (packets_length * upstream_number + end_length + head_length_of P)
    unfolding packets_state
    c_at = ap (λ s. s.at) tc.next ∙ ap (λ s. s.at + head_length_of P) tb.next ∙ ap (λ s. s.at + end_length + head_length_of P) ta.next ∙ omega arith

    c_left : rest (started P) c bs ≡ downstream_body
    c_left = left_at c (packets_length * upstream_number + end_length + head_length_of P) c_at ∙ sym (drop-drop (head_length_of P) (packets_length * upstream_number + end_length) bs)

    -- k bytes into the second body
    into : (t : State) (k : ℕ) → t.at ≡ c.at + k → rest (started P) t bs ≡ drop k downstream_body
    into t k q =
        left_at t (packets_length * upstream_number + end_length + head_length_of P + k) (omega (arith, c_at))
        ∙ sym (drop-drop k (packets_length * upstream_number + end_length + head_length_of P) bs)
        ∙ ap (drop k) (sym (drop-drop (head_length_of P) (packets_length * upstream_number + end_length) bs))

    d_next : d ≡ packets_state P downstream_body down c
    d_next = td.next ∙ ap (λ xs. packets_state P xs down c) c_left

    d_left : rest (started P) d bs ≡ drop (packets_length * downstream_number) downstream_body
    unfolding packets_state
    d_left = into d (packets_length * downstream_number) (ap (λ s. s.at) d_next)

    e_left : rest (started P) e bs ≡ drop (packets_length * downstream_number + end_length) downstream_body
    unfolding packets_state
    e_left = into e (packets_length * downstream_number + end_length) (ap (λ s. s.at) te.next ∙ ap (λ s. s.at + end_length) d_next ∙ omega arith)

    found : Passed
    unfolding packets_state
    found =
        record {
          first_done = ta.done;
          first_end = rw a_left at tb.whole;
          first_said = rw a_left at tb.said ∙ ap (λ s. s.records) ta.next ∙ omega arith;
          second_head = rw b_left at tc.whole;
          second_same = rw b_left at tc.same;
          second_done = rw c_left at td.done;
          second_end = rw d_left at te.whole;
          second_said = rw d_left at te.said ∙ ap (λ s. s.records) d_next ∙ ap (λ s. s.records + downstream_number) tc.next ∙ omega arith;
          nothing_more = rw e_left at none;
        }

    -- and what the downstream packets left
    second_left : packets_sketch true P (rest (started P) c bs) down c ≡ after_taken P downstream_body down
    unfolding packets_sketch
    second_left = rw (td.due, c_left)

  first_taken : live (upstream_taken P bs up down (started P)).stage ≡ true → TakenBy false P bs up (started P) (upstream_taken P bs up down (started P))
  first_taken l = ⊎_elim (λ h. absurd (true≢false h.0)) (λ t. t) (packets_back false P bs up (started P) l)

  at_first_packets : live (upstream_taken P bs up down (started P)).stage ≡ true
      → (upstream_taken P bs up down (started P)).stage ≡ UpstreamPackets
  unfolding packets_state stage_after
  at_first_packets l = let t = first_taken l in ap (λ s. s.stage) t.next ∙ ap (stage_after UpstreamPackets) t.done

  pub passed : (fed_state P bs up down (started P)).stage ≡ Nothing
      → Passed × (packets_sketch true P (rest (started P) (downstream_headed P bs up down (started P)) bs) down (downstream_headed P bs up down (started P)) ≡ after_taken P downstream_body down)
  passed nothing =
      let last = nothing_back (rest (started P) (downstream_ended P bs up down (started P)) bs) (downstream_ended P bs up down (started P)) nothing in
      let all = all_passed at_first_packets (end_back _ _) (head_back P _ _) (packets_back true P _ down _) (end_back _ _) (ap (λ s. s.stage) (sym last.0) ∙ nothing) in
      let first = first_taken (packets_live (upstream_taken P bs up down (started P)).stage all.0.due) in
      (found first all.0 all.1 all.2 all.3 last.1, second_left first all.0 all.1 all.2 all.3 last.1)
