-- From a state that is not refused back to the one before it: what each stage must have found.
use mathlib.Core.Path.{◌≡◌, refl, sym, ap}
use mathlib.Core.Bool.{Bool, true, false, not, cond, ◌&&◌, true≢false}
use mathlib.Core.Logic.{◌⊎◌, inl, inr}
use mathlib.Core.List.{List}
use Prim.Native.Nat.{ℕ}
use native.Mathlib.Omega.{arith}
use borrow.Author.Tests.{eqb-true, leb-true}
use lib.Dec.{eqb, leb}
use lib.ListN.{length}
use Rattle.params.specs.declared.params.Params.{Params}
use Rattle.params.specs.declared.answers.Refusal.TheVariants.{Form}
use Rattle.sketch.specs.Sketch.{Sketch}
use Rattle.files.specs.Bytes.{word}
use Rattle.files.specs.Records.{record_at, is_kind, is_head, end_kind}
use Rattle.files.specs.Fields.{records_field}
use Rattle.desk.specs.declared.states.Stage.{Stage}
use Rattle.desk.specs.declared.states.Stage.TheVariants.{UpstreamPackets, DownstreamHead, DownstreamPackets, Nothing, Refused as Stopped}
use Rattle.desk.specs.declared.states.State.{State}
use Rattle.desk.specs.declared.stages.Due.{Due}
use Rattle.desk.specs.declared.stages.Due.TheVariants.{Here, NotYet, Other}
use Rattle.desk.specs.Desk.{packets_due, head_due, nothing_due, stopped, stage_after, taken_answer, is_due, packets_state, due_end, due_head, ended_state, end_state, downstream_head_answer, headed_state, answered, head_state, packets_stage, end_stage, head_stage, nothing_stage}
use Rattle.desk.proofs.WhatIsDue.{end_whole, head_whole}
use Rattle.params.specs.Answers.{Answer, Done}
use Rattle.std.specs.Prelude.{Err}

-- the input is not refused
abbrev pub live : Stage → Bool
live UpstreamPackets = true
live DownstreamHead = true
live DownstreamPackets = true
live Nothing = true
live (Stopped w) = false

-- where packets of a stream, or a head, are due, that is the stage; and it is not refused
pub upstream_stage : (g : Stage) → is_due false g ≡ true → g ≡ UpstreamPackets
upstream_stage UpstreamPackets e = refl
upstream_stage DownstreamHead e = absurd (true≢false (sym e))
upstream_stage DownstreamPackets e = absurd (true≢false (sym e))
upstream_stage Nothing e = absurd (true≢false (sym e))
upstream_stage (Stopped w) e = absurd (true≢false (sym e))

pub downstream_stage : (g : Stage) → is_due true g ≡ true → g ≡ DownstreamPackets
downstream_stage UpstreamPackets e = absurd (true≢false (sym e))
downstream_stage DownstreamHead e = absurd (true≢false (sym e))
downstream_stage DownstreamPackets e = refl
downstream_stage Nothing e = absurd (true≢false (sym e))
downstream_stage (Stopped w) e = absurd (true≢false (sym e))

head_stage_lem : (g : Stage) → head_due g ≡ true → g ≡ DownstreamHead
head_stage_lem UpstreamPackets e = absurd (true≢false (sym e))
head_stage_lem DownstreamHead e = refl
head_stage_lem DownstreamPackets e = absurd (true≢false (sym e))
head_stage_lem Nothing e = absurd (true≢false (sym e))
head_stage_lem (Stopped w) e = absurd (true≢false (sym e))

pub packets_live : (g : Stage) → packets_due g ≡ true → live g ≡ true
packets_live UpstreamPackets e = refl
packets_live DownstreamHead e = refl
packets_live DownstreamPackets e = refl
packets_live Nothing e = refl
packets_live (Stopped w) e = absurd (true≢false (sym e))

pub due_live : (downstream : Bool) (g : Stage) → is_due downstream g ≡ true → live g ≡ true
due_live false g e = ap live (upstream_stage g e)
due_live true g e = ap live (downstream_stage g e)

-- packets: not due, or all of them taken
pub record TakenBy (downstream : Bool) (P : Params) (bs : List ℕ) (S : Sketch) (s t : State) : Type 0 where
  pub due : is_due downstream s.stage ≡ true
  pub done : taken_answer P bs S ≡ Done
  pub next : t ≡ packets_state P bs S s

after_live : (g : Stage) (r : Answer) → live (stage_after g r) ≡ true → r ≡ Done
unfolding stage_after
after_live g Done e = refl
after_live g (Err r) e = absurd (true≢false (sym e))

pub packets_back : (downstream : Bool) (P : Params) (bs : List ℕ) (S : Sketch) (s : State) → live (packets_stage downstream P bs S s).stage ≡ true
    → ((is_due downstream s.stage ≡ false) × (packets_stage downstream P bs S s ≡ s)) ⊎ TakenBy downstream P bs S s (packets_stage downstream P bs S s)
unfolding packets_stage packets_state
packets_back downstream P bs S s = at (is_due downstream s.stage) refl
  where
    at : (b : Bool) → is_due downstream s.stage ≡ b → live (cond b (packets_state P bs S s) s).stage ≡ true
        → ((is_due downstream s.stage ≡ false) × (cond b (packets_state P bs S s) s ≡ s)) ⊎ TakenBy downstream P bs S s (cond b (packets_state P bs S s) s)
    at true q e = inr record { due = q; done = after_live _ _ e; next = refl }
    at false q e = inl (q, refl)

-- an end: not there, or there with the right number
pub record EndedBy (bs : List ℕ) (s t : State) : Type 0 where
  pub due : packets_due s.stage ≡ true
  pub whole : is_kind end_kind (record_at bs 0) ≡ true
  pub said : word bs records_field ≡ s.records
  pub next : t ≡ ended_state s

pub end_back : (bs : List ℕ) (s : State) → live (end_stage bs s).stage ≡ true → (end_stage bs s ≡ s) ⊎ EndedBy bs s (end_stage bs s)
unfolding end_stage
end_back bs s = at (packets_due s.stage) refl (due_end bs) refl
  where
    judged : (b : Bool) → eqb (word bs records_field) s.records ≡ b → packets_due s.stage ≡ true → is_kind end_kind (record_at bs 0) ≡ true → live (cond b (ended_state s) (stopped Form s)).stage ≡ true
        → (cond b (ended_state s) (stopped Form s) ≡ s) ⊎ EndedBy bs s (cond b (ended_state s) (stopped Form s))
    judged true q p w e = inr record { due = p; whole = w; said = eqb-true _ _ q; next = refl }
    judged false q p w e = absurd (true≢false (sym e))

    at : (b : Bool) → packets_due s.stage ≡ b → (d : Due) → due_end bs ≡ d → live (cond b (end_state d bs s) s).stage ≡ true
        → (cond b (end_state d bs s) s ≡ s) ⊎ EndedBy bs s (cond b (end_state d bs s) s)
    at false p d q e = inl refl
    at true p NotYet q e = inl refl
    at true p Other q e = absurd (true≢false (sym e))
    at true p Here q e = judged (eqb (word bs records_field) s.records) refl p (end_whole bs q) e

-- the downstream head: not there, or there with the same parameters
pub record HeadedBy (P : Params) (bs : List ℕ) (s t : State) : Type 0 where
  pub due : s.stage ≡ DownstreamHead
  pub whole : is_head (record_at bs 0) ≡ true
  pub same : downstream_head_answer P bs ≡ Done
  pub next : t ≡ headed_state P s

pub head_back : (P : Params) (bs : List ℕ) (s : State) → live (head_stage P bs s).stage ≡ true → (head_stage P bs s ≡ s) ⊎ HeadedBy P bs s (head_stage P bs s)
unfolding head_stage
head_back P bs s = at (head_due s.stage) refl (due_head bs) refl
  where
    judged : (r : Answer) → downstream_head_answer P bs ≡ r → s.stage ≡ DownstreamHead → is_head (record_at bs 0) ≡ true → live (answered r s (headed_state P s)).stage ≡ true
        → (answered r s (headed_state P s) ≡ s) ⊎ HeadedBy P bs s (answered r s (headed_state P s))
    judged Done q p w e = inr record { due = p; whole = w; same = q; next = refl }
    judged (Err r) q p w e = absurd (true≢false (sym e))

    at : (b : Bool) → head_due s.stage ≡ b → (d : Due) → due_head bs ≡ d → live (cond b (head_state d P bs s) s).stage ≡ true
        → (cond b (head_state d P bs s) s ≡ s) ⊎ HeadedBy P bs s (cond b (head_state d P bs s) s)
    at false p d q e = inl refl
    at true p NotYet q e = inl refl
    at true p Other q e = absurd (true≢false (sym e))
    at true p Here q e = judged (downstream_head_answer P bs) refl (head_stage_lem _ p) (head_whole bs q) e

-- nothing more was due, and no byte stood there
pub nothing_back : (bs : List ℕ) (s : State) → (nothing_stage bs s).stage ≡ Nothing → (nothing_stage bs s ≡ s) × (length bs ≡ 0)
unfolding nothing_stage
nothing_back bs s = at s.stage refl (leb (length bs) 0) refl
  where
    at : (g : Stage) → s.stage ≡ g → (b : Bool) → leb (length bs) 0 ≡ b → (cond (nothing_due g && not b) (stopped Form s) s).stage ≡ Nothing
        → (cond (nothing_due g && not b) (stopped Form s) s ≡ s) × (length bs ≡ 0)
    at UpstreamPackets p b q e = absurd cc
    at DownstreamHead p b q e = absurd cc
    at DownstreamPackets p b q e = absurd cc
    at (Stopped w) p b q e = absurd cc
    at Nothing p true q e = (refl, omega (arith, leb-true (length bs) 0 q))
    at Nothing p false q e = absurd cc
