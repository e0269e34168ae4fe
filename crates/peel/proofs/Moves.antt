-- Laws of the walk's definition: how a walk ends or goes on, and the requeue by indexes that agree.
use mathlib.Core.Path.{◌≡◌, refl}
use mathlib.Core.Bool.{true, false, cond}
use mathlib.Core.List.{List, [], ◌∷◌}
use Prim.Native.Nat.{ℕ, zero, suc, ◌+◌, ◌<◌}
use native.Mathlib.Omega.{arith}
use lib.IntN.{ℤ}
use Rattle.sketch.specs.Sketch.{sketch, count_in}
use Rattle.walk.specs.declared.Ending.{Ending}
use Rattle.walk.specs.declared.Ending.TheVariants.{Clean, Stuck, Spent}
use Rattle.walk.specs.Walk.{Rule, State, stops, goes, out, queued, join, nothing_remains, requeue, popped, before, after, run}
use Rattle.buckets.specs.Buckets.{is_zero}

module _ (R : Rule) (slots : ℕ) where
  -- the endings, and a walk that goes on
  pub run_clean : (a n : ℕ) (st : State) → nothing_remains st.held ≡ true → run R slots a n st ≡ out Clean n st
  unfolding run before
  run_clean zero n st e = rw e
  run_clean (suc a) n st e = rw e

  pub run_stuck : (a n : ℕ) (st : State) → nothing_remains st.held ≡ false → st.queue ≡ [] → run R slots a n st ≡ out Stuck n st
  unfolding run before
  run_stuck zero n st e h = rw (e, h)
  run_stuck (suc a) n st e h = rw (e, h)

  module _ (n k : ℕ) (q : List ℕ) (st : State) (more : nothing_remains st.held ≡ false) (h : st.queue ≡ k ∷ q) where
    pub run_spent : run R slots 0 n st ≡ out Spent n st
    unfolding run before
    run_spent = rw (more, h)

    pub run_stops : (a : ℕ) (x : Ending) → popped R slots k (queued st q) ≡ stops x → run R slots (suc a) n st ≡ out x (suc n) st
    unfolding run before after
    run_stops a x m = rw (more, h, m)

    pub run_goes : (a : ℕ) (st' : State) → popped R slots k (queued st q) ≡ goes st' → run R slots (suc a) n st ≡ run R slots a (suc n) st'
    unfolding run before after
    run_goes a st' m = rw (more, h, m)

-- a requeue reads its indexes and the counts alone; h counts its arrays from 1, g from 0
pub requeue_same : (g h : ℕ → ℕ) (cs : List ℤ) (ss ts : List ℕ) (i n : ℕ) → ((j : ℕ) → j < i + n → g j ≡ h (suc j)) → (q : List ℕ)
    → requeue g (sketch cs ss) i n q ≡ requeue h (sketch cs ts) (suc i) n q
unfolding requeue
requeue_same g h cs ss ts i zero at q = refl
requeue_same g h cs ss ts i (suc n) at q =
    rw (at i (omega arith))
    (requeue_same g h cs ss ts (suc i) n (λ j l. at j (omega arith)) (cond (is_zero (count_in (sketch cs ts) (h (suc i)))) q (join (h (suc i)) q)))
