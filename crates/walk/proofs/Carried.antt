-- The induction along a walk: what holds at the start, and what every pop that leads on keeps, holds where the walk ends. And how it ends.
use Rattle.std.proofs.Common.{rules}
use mathlib.Core.Path.{◌≡◌, refl, sym, ap, ◌∙◌}
use mathlib.Core.Bool.{Bool, true, false, cond, true≢false}
use mathlib.Core.List.{List, [], ◌∷◌}
use Prim.Native.Nat.{ℕ, zero, suc}
use lib.Dec.{eqb}
use borrow.Author.Tests.{eqb-false}
use Rattle.sketch.specs.Sketch.{Sketch, count_in, idsum_in}
use Rattle.walk.specs.declared.Ending.{Ending}
use Rattle.walk.specs.declared.Ending.TheVariants.{Clean, Stuck, Spent, Range, Full}
use Rattle.walk.specs.Endings.{ending_number}
use Rattle.walk.specs.Walk.{Rule, State, Move, stops, goes, Outcome, out, queued, nothing_remains, in_range, has_room, taken, takes, follows, popped, before, after, run}
use Rattle.std.specs.Prelude.{None, Option, Some}

-- the test of bucket k
abbrev pub found : Rule → ℕ → Sketch → Option ℕ
found R k S = R.test k (count_in S k) (idsum_in S k)

-- an ending at a state: clean where nothing remains and only there, stuck only where no bucket waits
pub record Ended (e : Ending) (st : State) : Type 0 where
  pub clean : e ≡ Clean → nothing_remains st.held ≡ true
  pub nothing : nothing_remains st.held ≡ true → e ≡ Clean
  pub stuck : e ≡ Stuck → st.queue ≡ []

-- bucket k is pure with flow f, and the take is within the range and the slots
pub record Takeable (R : Rule) (slots k f : ℕ) (st : State) : Type 0 where
  pub pure : found R k st.held ≡ Some f
  pub range : in_range R f (count_in st.held k) st ≡ true
  pub room : has_room slots f st.table ≡ true

-- the state after it
abbrev pub taken_at : Rule → ℕ → ℕ → State → State
taken_at R k f st = taken R f (count_in st.held k) (idsum_in st.held k) st

-- bucket k is pure with flow f, and the take would leave the range
pub record OutOfRange (R : Rule) (k f : ℕ) (st : State) : Type 0 where
  pub pure : found R k st.held ≡ Some f
  pub range : in_range R f (count_in st.held k) st ≡ false

-- bucket k is pure with flow f, and the take is within the range, but no slot is left for it
pub record NoSlot (R : Rule) (slots k f : ℕ) (st : State) : Type 0 where
  pub pure : found R k st.held ≡ Some f
  pub range : in_range R f (count_in st.held k) st ≡ true
  pub room : has_room slots f st.table ≡ false

-- range and full, at the pop of bucket k that leaves the state st
pub data AtPop (R : Rule) (slots k : ℕ) (st : State) : Ending → Type 0 where
  out_of_range : (f : ℕ) → OutOfRange R k f st → AtPop R slots k st Range
  table_full : (f : ℕ) → NoSlot R slots k f st → AtPop R slots k st Full

-- what a move at that pop has to keep
abbrev pub Keeps : Rule → ℕ → ℕ → State → (State → Type 0) → Move → Type 0
Keeps R slots k st K (stops e) = AtPop R slots k st e
Keeps R slots k st K (goes st') = K st'

-- two endings with different numbers
pub apart : (e x : Ending) → eqb (ending_number e) (ending_number x) ≡ false → e ≡ x → ⊥
apart e x h p = eqb-false _ _ h (ap ending_number p)

clean_end : (st : State) → nothing_remains st.held ≡ true → Ended Clean st
clean_end st h = record { clean = λ x. h; nothing = λ x. refl; stuck = λ x. absurd (apart Clean Stuck refl x) }

-- an ending other than clean, where something remains
other_end : (e : Ending) (st : State) → (e ≡ Clean → ⊥) → (e ≡ Stuck → st.queue ≡ []) → nothing_remains st.held ≡ false → Ended e st
other_end e st c s h = record { clean = λ x. absurd (c x); nothing = λ x. absurd (true≢false (sym x ∙ h)); stuck = s }

module _ (R : Rule) (slots : ℕ) where
  -- a move keeps K where an impure pop and a take do
  module _ (K : State → Type 0) where
    chosen : (k f : ℕ) (st : State) (b r : Bool) → in_range R f (count_in st.held k) st ≡ b → has_room slots f st.table ≡ r → found R k st.held ≡ Some f
        → (Takeable R slots k f st → K (taken_at R k f st)) → Keeps R slots k st K (cond b (cond r (goes (taken_at R k f st)) (stops Full)) (stops Range))
    chosen k f st true true range room pure t = t (record { pure = pure; range = range; room = room })
    chosen k f st true false range room pure t = table_full f (record { pure = pure; range = range; room = room })
    chosen k f st false r range room pure t = out_of_range f (record { pure = pure; range = range })

    pub pop_keeps : (k : ℕ) (st : State) → (found R k st.held ≡ None → K st) → ((f : ℕ) → Takeable R slots k f st → K (taken_at R k f st)) → Keeps R slots k st K (popped R slots k st)
    unfolding popped follows takes
    pop_keeps k st i t = search (rules, chosen)

  module _ (K : State → Type 0) (O : Outcome → Type 0)
      (ends : (e : Ending) (n : ℕ) (st : State) → K st → Ended e st → O (out e n st))
      (goes_on : (k : ℕ) (q : List ℕ) (st : State) → K st → st.queue ≡ k ∷ q → found R k st.held ≡ None → K (queued st q))
      (takes-on : (k f : ℕ) (q : List ℕ) (st : State) → K st → st.queue ≡ k ∷ q → Takeable R slots k f (queued st q) → K (taken_at R k f (queued st q))) where
    -- the tests before a pop
    tested : (b : Bool) (q : List ℕ) (n : ℕ) (st : State) (pop : ℕ → List ℕ → Outcome) → K st → nothing_remains st.held ≡ b → st.queue ≡ q
        → ((k : ℕ) (r : List ℕ) → nothing_remains st.held ≡ false → st.queue ≡ k ∷ r → O (pop k r)) → O (before b q n st pop)
    unfolding before
    tested b q n st pop h l e f = search rules

    moved : (m : Move) (k : ℕ) (q : List ℕ) (n : ℕ) (st : State) (next : State → Outcome) → K st → nothing_remains st.held ≡ false → Keeps R slots k (queued st q) K m → ((st' : State) → K st' → O (next st')) → O (after m n st next)
    unfolding after
    moved m k q n st next h l i ih = search rules

    pub carried : (a n : ℕ) (st : State) → K st → O (run R slots a n st)
    unfolding run
    carried zero n st h =
        tested (nothing_remains st.held) st.queue n st _ h refl refl
        (λ k q l e. ends Spent n st h (other_end Spent st (apart Spent Clean refl) (λ x. absurd (apart Spent Stuck refl x)) l))
    carried (suc a) n st h =
        tested (nothing_remains st.held) st.queue n st _ h refl refl
        (λ k q l e.
        moved (popped R slots k (queued st q)) k q (suc n) st (run R slots a (suc n)) h l
        (pop_keeps K k (queued st q) (goes_on k q st h e) (λ f. takes-on k f q st h e))
        (carried a (suc n)))
