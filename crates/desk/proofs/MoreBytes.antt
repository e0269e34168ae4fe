-- More bytes behind those at hand change nothing of a record that stands there whole, or of one that is not due.
use mathlib.Core.Path.{◌≡◌, refl, sym, ap, ◌∙◌}
use mathlib.Core.Bool.{Bool, true, false, not, cond, ◌&&◌, or-true, true≢false}
use mathlib.Core.Logic.{◌⊎◌, inl, inr, ⊎_elim}
use mathlib.Core.List.{List, ◌++◌}
use Prim.Native.Nat.{ℕ, ◌+◌, ◌≤◌, ◌<◌}
use native.Mathlib.Omega.{arith}
use borrow.Author.Tests.{leb-false, lt-leb, eqb-true, eqb-false, ne_eqb}
use lib.Dec.{eqb, leb}
use lib.ListN.{length, get_or, take, drop, length-append, length-drop, get_or-append}
use lib.Seq.{take-append-le, drop-append-le}
use Rattle.params.specs.declared.params.Params.{Params}
use Rattle.params.proofs.Searches.{cannot_hold}
use Rattle.files.specs.Bytes.{word}
use Rattle.files.specs.Records.{body_length, record_length, head_length_in, record_at, is_kind, is_head, body_from, head_kind, extended_head_kind, packets_kind, end_kind, head_kind_in}
use Rattle.files.specs.Heads.{params_in_body, params_in, good_head}
use Rattle.files.specs.Fields.{records_field}
use Rattle.files.proofs.Standing.{head_kinds, head_is_kind, head_inside}
use Rattle.files.proofs.RecordTrips.{record_whole, not_kind}
use Rattle.desk.proofs.Whole.{whole_record}
use Rattle.desk.specs.declared.states.State.{State}
use Rattle.desk.specs.declared.stages.Due.{Due}
use Rattle.desk.specs.declared.stages.Due.TheVariants.{Here, NotYet, Other}
use Rattle.desk.specs.Desk.{packets_due, head_due, due_of, due_end, due_head, downstream_head_answer, end_state, head_state, end_stage, head_stage, nothing_stage}
use Rattle.desk.proofs.WhatIsDue.{due_here, either_kind, end_whole, head_whole, head_here}

abbrev pub not_yet : Due → Bool
not_yet Here = false
not_yet NotYet = true
not_yet Other = false

-- what stands first is the record that is due, or a byte of another kind
due_known : (kind : ℕ) (bs : List ℕ) → not_yet (due_of kind bs) ≡ false
    → (is_kind kind (record_at bs 0) ≡ true) ⊎ ((0 < length bs) × (is_kind kind (record_at bs 0) ≡ false) × (eqb (get_or bs 0 0) kind ≡ false))
unfolding due_of
due_known kind bs = at (leb (length bs) 0) refl (is_kind kind (record_at bs 0)) refl (eqb (get_or bs 0 0) kind) refl
  where
    at : (x : Bool) → leb (length bs) 0 ≡ x → (y : Bool) → is_kind kind (record_at bs 0) ≡ y → (z : Bool) → eqb (get_or bs 0 0) kind ≡ z
        → not_yet (cond x NotYet (cond y Here (cond z NotYet Other))) ≡ false
        → (is_kind kind (record_at bs 0) ≡ true) ⊎ ((0 < length bs) × (is_kind kind (record_at bs 0) ≡ false) × (eqb (get_or bs 0 0) kind ≡ false))
    at true e y f z g h = absurd (true≢false h)
    at false e true f z g h = inl f
    at false e false f true g h = absurd (true≢false h)
    at false e false f false g h = inr (leb-false (length bs) 0 e, f, g)

due_other : (kind : ℕ) (bs : List ℕ) → 0 < length bs → is_kind kind (record_at bs 0) ≡ false → eqb (get_or bs 0 0) kind ≡ false → due_of kind bs ≡ Other
unfolding due_of
due_other kind bs l w e = rw (lt-leb (length bs) 0 l, w, e)

-- where packets are due: no packets stand first
end_known : (bs : List ℕ) → not_yet (due_end bs) ≡ false → (eqb (get_or bs 0 0) packets_kind ≡ false) × (due_end bs ≡ due_of end_kind bs) × (not_yet (due_of end_kind bs) ≡ false)
unfolding due_end due_of
end_known bs = at (leb (length bs) 0) refl (eqb (get_or bs 0 0) packets_kind) refl
  where
    at : (x : Bool) → leb (length bs) 0 ≡ x → (y : Bool) → eqb (get_or bs 0 0) packets_kind ≡ y → not_yet (cond (not x && y) NotYet (due_of end_kind bs)) ≡ false
        → (y ≡ false) × (cond (not x && y) NotYet (due_of end_kind bs) ≡ due_of end_kind bs) × (not_yet (due_of end_kind bs) ≡ false)
    at true e y f h = absurd (true≢false (sym (rw e) ∙ h))
    at false e true f h = absurd (true≢false h)
    at false e false f h = (refl, refl, h)

end_due : (bs : List ℕ) → eqb (get_or bs 0 0) packets_kind ≡ false → due_end bs ≡ due_of end_kind bs
unfolding due_end
end_due bs e = rw e (at (not (leb (length bs) 0)))
  where
    at : (x : Bool) → cond (x && false) NotYet (due_of end_kind bs) ≡ due_of end_kind bs
    at true = refl
    at false = refl

-- a record that all its bytes are at hand of is not waited for
pub due_long : (kind : ℕ) (bs : List ℕ) → 0 < body_length kind → record_length kind ≤ length bs → not_yet (due_of kind bs) ≡ false
unfolding due_of
due_long kind bs some long = at (is_kind kind (record_at bs 0)) refl (eqb (get_or bs 0 0) kind) refl
  where
    at : (w : Bool) → is_kind kind (record_at bs 0) ≡ w → (e : Bool) → eqb (get_or bs 0 0) kind ≡ e → not_yet (due_of kind bs) ≡ false
    at true w e f = rw (lt-leb (length bs) 0 (omega arith), w)
    at false w true f = absurd (true≢false (sym (record_whole bs 0 kind (eqb-true (get_or bs 0 0) kind f) some (omega arith)) ∙ w))
    at false w false f = rw (lt-leb (length bs) 0 (omega arith), w, f)

-- the head that the first byte says: it has a body, and is no shorter than a head of kind 1 and no longer than one of kind 10
head_some : (bs : List ℕ) → 0 < body_length (head_kind_in bs)
head_some bs = either_kind (λ k. 0 < body_length k) bs (omega arith) (omega arith)

pub head_least : (bs : List ℕ) → record_length head_kind ≤ head_length_in bs
unfolding head_length_in
head_least bs = either_kind (λ k. record_length head_kind ≤ record_length k) bs (omega arith) (omega arith)

pub head_most : (bs : List ℕ) → head_length_in bs ≤ record_length extended_head_kind
unfolding head_length_in
head_most bs = either_kind (λ k. record_length k ≤ record_length extended_head_kind) bs (omega arith) (omega arith)

pub head_long : (bs : List ℕ) → head_length_in bs ≤ length bs → not_yet (due_head bs) ≡ false
unfolding head_length_in due_head
head_long bs long = due_long (head_kind_in bs) bs (head_some bs) long

module _ (xs ys : List ℕ) where
  byte_more : (i : ℕ) → i < length xs → get_or (xs ++ ys) i 0 ≡ get_or xs i 0
  byte_more i l = get_or-append xs ys 0 i l

  pub word_more : (at : ℕ) → at + 4 ≤ length xs → word (xs ++ ys) at ≡ word xs at
  unfolding word
  word_more at h = rw (byte_more at (omega arith), byte_more (at + 1) (omega arith), byte_more (at + 2) (omega arith), byte_more (at + 3) (omega arith))

  longer : length xs ≤ length (xs ++ ys)
  longer = omega (arith, length-append xs ys)

  -- a whole record stays one, and a byte of another kind stays that
  pub whole_more : (kind : ℕ) → 0 < body_length kind → is_kind kind (record_at xs 0) ≡ true → is_kind kind (record_at (xs ++ ys) 0) ≡ true
  whole_more kind p e =
      let w = whole_record xs 0 kind e in
      record_whole (xs ++ ys) 0 kind (byte_more 0 (omega (arith, w.1)) ∙ w.0) p (omega (arith, w.1, longer))

  other_more : (kind : ℕ) → 0 < length xs → eqb (get_or xs 0 0) kind ≡ false → (eqb (get_or (xs ++ ys) 0 0) kind ≡ false) × (is_kind kind (record_at (xs ++ ys) 0) ≡ false)
  other_more kind l e =
      let differs : get_or (xs ++ ys) 0 0 ≡ kind → ⊥ = λ q. eqb-false (get_or xs 0 0) kind e (sym (byte_more 0 l) ∙ q) in
      (ne_eqb (get_or (xs ++ ys) 0 0) kind differs, not_kind (xs ++ ys) 0 kind differs)

  due_more : (kind : ℕ) → 0 < body_length kind → not_yet (due_of kind xs) ≡ false → (0 < length xs) × (due_of kind (xs ++ ys) ≡ due_of kind xs)
  due_more kind p h = ⊎_elim here other (due_known kind xs h)
    where
      here : is_kind kind (record_at xs 0) ≡ true → (0 < length xs) × (due_of kind (xs ++ ys) ≡ due_of kind xs)
      here w =
          let l : 0 < length xs = omega (arith, (whole_record xs 0 kind w).1) in
          (l, due_here kind (xs ++ ys) (omega (arith, longer)) (whole_more kind p w) ∙ sym (due_here kind xs l w))

      other : (0 < length xs) × (is_kind kind (record_at xs 0) ≡ false) × (eqb (get_or xs 0 0) kind ≡ false) → (0 < length xs) × (due_of kind (xs ++ ys) ≡ due_of kind xs)
      other k =
          let o = other_more kind k.0 k.2 in
          (k.0, due_other kind (xs ++ ys) (omega (arith, longer)) o.1 o.0 ∙ sym (due_other kind xs k.0 k.1 k.2))

  -- so the stages that find something find the same
  pub end_more : (s : State) → not_yet (due_end xs) ≡ false
      → (is_kind packets_kind (record_at (xs ++ ys) 0) ≡ false) × (due_end (xs ++ ys) ≡ due_end xs) × (end_stage (xs ++ ys) s ≡ end_stage xs s)
  unfolding end_stage
  end_more s h =
      let k = end_known xs h in
      let m = due_more end_kind (omega arith) k.2 in
      let o = other_more 2 m.0 k.0 in
      let due : due_end (xs ++ ys) ≡ due_end xs = end_due (xs ++ ys) o.0 ∙ m.1 ∙ sym k.1 in
      (o.1, due, rw due (ap (λ t. cond (packets_due s.stage) t s) (at (due_end xs) refl)))
    where
      at : (d : Due) → due_end xs ≡ d → end_state d (xs ++ ys) s ≡ end_state d xs s
      at NotYet e = refl
      at Other e = refl
      at Here e = rw (word_more records_field (omega (arith, (whole_record xs 0 end_kind (end_whole xs e)).1)))

  -- a whole head stays one, and says the same
  module _ (e : is_head (record_at xs 0) ≡ true) where
    kind_same : get_or (xs ++ ys) 0 0 ≡ get_or xs 0 0
    kind_same = byte_more 0 (head_inside xs 0 e)

    pub head_stays : is_head (record_at (xs ++ ys) 0) ≡ true
    head_stays = ⊎_elim (λ h. rw (whole_more head_kind (omega arith) h)) (λ h. rw (whole_more extended_head_kind (omega arith) h, or-true)) (head_kinds xs 0 e)

    pub params_more : params_in (xs ++ ys) ≡ params_in xs
    unfolding params_in body_from
    params_more =
        let k : ℕ = get_or xs 0 0 in
        let w = whole_record xs 0 k (head_is_kind xs 0 e) in
        ap (λ (j : ℕ). params_in_body (take (body_length j) (drop 1 (xs ++ ys)))) kind_same
        ∙ ap (λ (bs : List ℕ). params_in_body (take (body_length k) bs)) (drop-append-le 1 xs ys (omega (arith, w.1)))
        ∙ ap params_in_body (take-append-le (body_length k) (drop 1 xs) ys (omega (arith, w.1, length-drop 1 xs)))

    pub good_more : good_head (xs ++ ys) ≡ good_head xs
    unfolding good_head
    good_more = rw (params_more, kind_same)

    answer_more : (P : Params) → downstream_head_answer P (xs ++ ys) ≡ downstream_head_answer P xs
    unfolding downstream_head_answer
    answer_more P = rw (good_more, params_more)

  -- where a head is due, and none stands there
  head_due_more : not_yet (due_head xs) ≡ false → due_head (xs ++ ys) ≡ due_head xs
  unfolding due_head
  head_due_more h =
      let m = due_more (head_kind_in xs) (head_some xs) h in
      ap (λ (n : ℕ). due_of (cond (eqb n extended_head_kind) extended_head_kind head_kind) (xs ++ ys)) (byte_more 0 m.0) ∙ m.1

  pub no_head_more : not_yet (due_head xs) ≡ false → is_head (record_at xs 0) ≡ false → is_head (record_at (xs ++ ys) 0) ≡ false
  no_head_more h e = cannot_hold (is_head (record_at (xs ++ ys) 0)) (λ w. true≢false (sym (head_whole xs (sym (head_due_more h) ∙ head_here (xs ++ ys) w)) ∙ e))

  pub head_more : (P : Params) (s : State) → not_yet (due_head xs) ≡ false → (due_head (xs ++ ys) ≡ due_head xs) × (head_stage P (xs ++ ys) s ≡ head_stage P xs s)
  unfolding head_stage
  head_more P s h = let due = head_due_more h in (due, rw due (ap (λ t. cond (head_due s.stage) t s) (at (due_head xs) refl)))
    where
      at : (d : Due) → due_head xs ≡ d → head_state d P (xs ++ ys) s ≡ head_state d P xs s
      at NotYet e = refl
      at Other e = refl
      at Here e = rw (answer_more (head_whole xs e) P)

  pub nothing_more : (s : State) → 0 < length xs → (leb (length (xs ++ ys)) 0 ≡ false) × (nothing_stage (xs ++ ys) s ≡ nothing_stage xs s)
  unfolding nothing_stage
  nothing_more s l =
      let e = lt-leb (length (xs ++ ys)) 0 (omega (arith, longer)) in
      (e, rw (e, lt-leb (length xs) 0 l))
