-- A walk of a sketch with every count within the limits asks its test of such counts alone: by another test that agrees on these it is the same walk.
use Rattle.std.proofs.Common.{rules}
use mathlib.Core.Path.{◌≡◌, refl, ap, ◌∙◌}
use mathlib.Core.Bool.{Bool, true}
use mathlib.Core.List.{List}
use Prim.Native.Nat.{ℕ, zero, suc, ◌<◌}
use lib.IntN.{ℤ}
use lib.ListN.{get_or-eq_default}
use Rattle.buckets.specs.Buckets.{in_limits}
use Rattle.sketch.specs.Sketch.{Sketch, count_in}
use Rattle.walk.specs.Walk.{Rule, State, Move, Outcome, queued, nothing_remains, less, in_range, taken, takes, follows, popped, before, after, run, walk}
use Rattle.walk.proofs.Carried.{Keeps, pop_keeps}
use Rattle.walk.proofs.Stuck.{ByArrays}
use Rattle.walk.proofs.Remainder.{Within, taken_keeps}
use Rattle.std.specs.Prelude.{Option}

-- the rule R with another test
abbrev pub retested : Rule → (ℕ → ℤ → ℕ → Option ℕ) → Rule
retested R t = record { prime = R.prime; arrays = R.arrays; index = R.index; stands = R.stands; test = t }

module _ (R : Rule) (t : ℕ → ℤ → ℕ → Option ℕ) (agree : (k : ℕ) (c : ℤ) (s : ℕ) → in_limits c ≡ true → R.test k c s ≡ t k c s) (size : ℕ) (by_arrays : ByArrays R) (slots : ℕ) where
  abbrev In : State → Type 0
  In st = Within R size by_arrays st.held

  -- also of an index past the last, where the count is read as 0
  count_within : (st : State) → In st → (k : ℕ) → Dec (k < size) → in_limits (count_in st.held k) ≡ true
  unfolding in_limits
  count_within st h k e = search (rules, get_or-eq_default)

  -- the other fields of the rule are the same
  follows_same : (c : ℤ) (s : ℕ) (st : State) (w : Option ℕ) → follows R slots c s st w ≡ follows (retested R t) slots c s st w
  unfolding follows takes in_range taken less
  follows_same c s st w = search rules

  popped_same : (k : ℕ) (st : State) → In st → popped R slots k st ≡ popped (retested R t) slots k st
  unfolding popped
  popped_same k st h = search (rules, count_within, follows_same)

  before_same : (b : Bool) (q : List ℕ) (n : ℕ) (st : State) (f g : ℕ → List ℕ → Outcome) → ((k : ℕ) (q : List ℕ) → f k q ≡ g k q) → before b q n st f ≡ before b q n st g
  unfolding before
  before_same b q n st f g e = search rules

  after_same : (m : Move) (k n : ℕ) (st here : State) (f g : State → Outcome) → Keeps R slots k here In m → ((st : State) → In st → f st ≡ g st) → after m n st f ≡ after m n st g
  unfolding after
  after_same m k n st here f g h same = search rules

  run_same : (a n : ℕ) (st : State) → In st → run R slots a n st ≡ run (retested R t) slots a n st
  unfolding run
  run_same zero n st h = refl
  run_same (suc a) n st h =
      before_same (nothing_remains st.held) st.queue n st _ _
      (λ k q.
      let here : State = queued st q in
      after_same (popped R slots k here) k (suc n) st here (run R slots a (suc n)) (run (retested R t) slots a (suc n))
      (pop_keeps R slots In k here (λ i. h) (λ f e. taken_keeps R size by_arrays slots k f here h e))
      (run_same a (suc n))
      ∙ ap (λ m. after m (suc n) st (run (retested R t) slots a (suc n))) (popped_same k here h))

  pub same_walk : (allowance : ℕ) (S : Sketch) → Within R size by_arrays S → walk R slots allowance S ≡ walk (retested R t) slots allowance S
  unfolding walk
  same_walk allowance S h = run_same allowance 0 _ h
