-- Every stage moves on within its bytes, so that the next finds its own and is in reach again.
use mathlib.Core.Path.{◌≡◌, refl, ap, ◌∙◌}
use mathlib.Core.Bool.{Bool, true, false, not, cond, ◌&&◌}
use mathlib.Core.List.{List}
use Prim.Native.Nat.{ℕ, ◌+◌, ◌-◌, ◌≤◌}
use native.Mathlib.Omega.{arith}
use lib.Dec.{eqb, leb}
use lib.ListN.{length, take, drop, length-drop}
use lib.Seq.{take_all}
use Rattle.params.specs.declared.params.Params.{Params}
use Rattle.params.specs.declared.answers.Refusal.TheVariants.{Form}
use Rattle.sketch.specs.Sketch.{Sketch}
use Rattle.files.specs.Bytes.{word}
use Rattle.files.specs.Records.{record_at, is_kind, is_head, end_kind}
use Rattle.files.specs.Fields.{records_field}
use Rattle.files.proofs.Standing.{kind_ends}
use Rattle.desk.specs.declared.states.State.{State}
use Rattle.desk.specs.declared.stages.Due.{Due}
use Rattle.desk.specs.declared.stages.Due.TheVariants.{Here, NotYet, Other}
use Rattle.desk.specs.Desk.{packets_due, head_due, nothing_due, is_due, packets_state, due_end, due_head, end_state, ended_state, stopped, downstream_head_answer, answered, head_state, headed_state, packets_stage, packets_sketch, end_stage, head_stage, nothing_stage, rest, offsets_fit}
use Rattle.desk.proofs.Taking.{taken_bytes}
use Rattle.desk.proofs.HeadAnswers.{second_within}
use Rattle.desk.proofs.WhatIsDue.{end_whole, head_whole}
use Rattle.desk.proofs.OffsetsFit.{bounded, offsets_fit_lem}
use Rattle.params.specs.Answers.{Answer, Done}
use Rattle.std.specs.Prelude.{Err}

-- t comes after s by some of these bytes, and no more records than bytes stood in between
pub record Onward (bs : List ℕ) (s t : State) : Type 0 where
  pub low : s.at ≤ t.at
  pub within : t.at - s.at ≤ length bs
  pub counted : t.records ≤ s.records + (t.at - s.at)

pub onward_here : (bs : List ℕ) (s : State) → Onward bs s s
onward_here bs s = omega arith

pub onward_then : (bs : List ℕ) (s t u : State) → Onward bs s t → Onward (rest s t bs) t u → Onward bs s u
onward_then bs s t u h k =
    let long : length (rest s t bs) ≡ length bs - (t.at - s.at) = length-drop (t.at - s.at) bs in
    omega arith

onward_fits : (bs : List ℕ) (s t : State) → offsets_fit bs s ≡ true → Onward bs s t → offsets_fit (rest s t bs) t ≡ true
onward_fits bs s t e h =
    let r = bounded bs s e in
    let long : length (rest s t bs) ≡ length bs - (t.at - s.at) = length-drop (t.at - s.at) bs in
    offsets_fit_lem (rest s t bs) t (omega arith)

-- each stage
pub packets_onward : (downstream : Bool) (P : Params) (bs : List ℕ) (S : Sketch) (s : State) → Onward bs s (packets_stage downstream P bs S s)
unfolding packets_stage packets_state
packets_onward downstream P bs S s = at (is_due downstream s.stage)
  where
    at : (b : Bool) → Onward bs s (cond b (packets_state P bs S s) s)
    at true = omega (arith, taken_bytes P bs S)
    at false = onward_here bs s

pub end_onward : (bs : List ℕ) (s : State) → Onward bs s (end_stage bs s)
unfolding end_stage
end_onward bs s = at (packets_due s.stage) (due_end bs) refl
  where
    ended : (b : Bool) → is_kind end_kind (record_at bs 0) ≡ true → Onward bs s (cond b (ended_state s) (stopped Form s))
    ended true w = omega (arith, kind_ends end_kind bs 0 w)
    ended false w = omega arith

    at : (b : Bool) (d : Due) → due_end bs ≡ d → Onward bs s (cond b (end_state d bs s) s)
    at false d e = onward_here bs s
    at true NotYet e = onward_here bs s
    at true Other e = omega arith
    at true Here e = ended (eqb (word bs records_field) s.records) (end_whole bs e)

pub head_onward : (P : Params) (bs : List ℕ) (s : State) → Onward bs s (head_stage P bs s)
unfolding head_stage
head_onward P bs s = at (head_due s.stage) (due_head bs) refl
  where
    judged : (r : Answer) → downstream_head_answer P bs ≡ r → is_head (record_at bs 0) ≡ true → Onward bs s (answered r s (headed_state P s))
    judged Done q w = omega (arith, second_within bs P q w)
    judged (Err r) q w = omega arith

    at : (b : Bool) (d : Due) → due_head bs ≡ d → Onward bs s (cond b (head_state d P bs s) s)
    at false d e = onward_here bs s
    at true NotYet e = onward_here bs s
    at true Other e = omega arith
    at true Here e = judged (downstream_head_answer P bs) refl (head_whole bs e)

pub nothing_onward : (bs : List ℕ) (s : State) → Onward bs s (nothing_stage bs s)
unfolding nothing_stage
nothing_onward bs s = at (nothing_due s.stage && not (leb (length bs) 0))
  where
    at : (b : Bool) → Onward bs s (cond b (stopped Form s) s)
    at true = omega arith
    at false = onward_here bs s

-- what is left of the bytes for t, as a slice of them
abbrev pub part : List ℕ → State → State → List ℕ
part bs s t = take (length bs - (t.at - s.at)) (drop (t.at - s.at) bs)

part_rest : (bs : List ℕ) (s t : State) → part bs s t ≡ rest s t bs
part_rest bs s t = take_all (length bs - (t.at - s.at)) (rest s t bs) (omega (arith, length-drop (t.at - s.at) bs))

pub part_fits : {bs : List ℕ} {s t : State} → Onward bs s t → offsets_fit bs s ≡ true → offsets_fit (part bs s t) t ≡ true
part_fits {bs} {s} {t} h e = rw (part_rest bs s t) (onward_fits bs s t e h)

-- t is what x says, and was come to from s
pub record Came (bs : List ℕ) (s t x : State) : Type 0 where
  pub onward : Onward bs s t
  pub same : t ≡ x

module _ {bs : List ℕ} {s t x : State} (h : Came bs s t x) where
  -- one stage more
  further : (f : List ℕ → State → State) → ((xs : List ℕ) (v : State) → Onward xs v (f xs v)) → (u : State) → u ≡ f (part bs s t) t → Came bs s u (f (rest s x bs) x)
  further f moves u e =
      let here : u ≡ f (rest s t bs) t = e ∙ ap (λ xs. f xs t) (part_rest bs s t) in
      record {
        onward = onward_then bs s t u h.onward (rw here (moves (rest s t bs) t));
        same = here ∙ ap (λ v. f (rest s v bs) v) h.same;
      }

  pub then_end : (u : State) → u ≡ end_stage (part bs s t) t → Came bs s u (end_stage (rest s x bs) x)
  then_end u e = further end_stage end_onward u e

  pub then_head : (P : Params) (u : State) → u ≡ head_stage P (part bs s t) t → Came bs s u (head_stage P (rest s x bs) x)
  then_head P u e = further (head_stage P) (head_onward P) u e

  pub then_packets : (P : Params) (S : Sketch) (u : State) → u ≡ packets_stage true P (part bs s t) S t → Came bs s u (packets_stage true P (rest s x bs) S x)
  then_packets P S u e = further (λ xs v. packets_stage true P xs S v) (λ xs v. packets_onward true P xs S v) u e

  pub then_nothing : (u : State) → u ≡ nothing_stage (part bs s t) t → Came bs s u (nothing_stage (rest s x bs) x)
  then_nothing u e = further nothing_stage nothing_onward u e

  -- and the sketch that the downstream packets leave
  pub then_sketch : (P : Params) (S S' : Sketch) → S' ≡ packets_sketch true P (part bs s t) S t → S' ≡ packets_sketch true P (rest s x bs) S x
  then_sketch P S S' e = e ∙ ap (λ xs. packets_sketch true P xs S t) (part_rest bs s t) ∙ ap (λ v. packets_sketch true P (rest s v bs) S v) h.same

pub packets_first : (P : Params) (bs : List ℕ) (S : Sketch) (s t : State) → t ≡ packets_stage false P bs S s → Came bs s t (packets_stage false P bs S s)
packets_first P bs S s t e = record { onward = rw e (packets_onward false P bs S s); same = e }
