-- Which buckets wait in a queue: after one joined, after a take's buckets were queued again, and at the start.
use Rattle.std.proofs.Common.{rules}
use mathlib.Core.Path.{◌≡◌, refl, sym}
use mathlib.Core.Bool.{Bool, true, false, cond, ◌||◌, true≢false}
use mathlib.Core.List.{List, [], ◌∷◌, ◌++◌}
use Prim.Native.Nat.{ℕ, zero, suc, ◌+◌, ◌<◌, ◌≤◌}
use native.Mathlib.Decide.{dec_lt}
use native.Mathlib.Nat.{add-zero}
use native.Mathlib.Omega.{arith}
use borrow.Author.Tests.{eq-eqb, ne_eqb}
use lib.Dec.{eqb}
use lib.IntN.{ℤ, pos}
use lib.ListN.{length, get_or}
use Rattle.sketch.specs.Sketch.{Sketch, count_in}
use Rattle.walk.specs.Walk.{any, waits, join, requeue, first_queue}
use Rattle.buckets.specs.Buckets.{is_zero}

pub or_true : (s t : Bool) → t ≡ true → (s || t) ≡ true
or_true s t e = search rules

pub none_waits : (k : ℕ) → waits k [] ≡ true → ⊥
unfolding waits any
none_waits k e = true≢false (sym e)

-- the first, and one behind it
first_waits : (k : ℕ) (q : List ℕ) → waits k (k ∷ q) ≡ true
unfolding waits any
first_waits k q = rw (eq-eqb k k refl)

later_waits : (k j : ℕ) (q : List ℕ) → waits k q ≡ true → waits k (j ∷ q) ≡ true
unfolding waits any
later_waits k j q e = or_true (eqb j k) _ e

pub waits_behind : (k j : ℕ) (q : List ℕ) → (j ≡ k → ⊥) → waits k (j ∷ q) ≡ true → waits k q ≡ true
unfolding waits any
waits_behind k j q d e = rw (ne_eqb j k d) at e

-- one that joined at the back, and those before it
appended : (k j : ℕ) (q : List ℕ) → waits k q ≡ true → waits k (q ++ (j ∷ [])) ≡ true
unfolding waits any
appended k j [] e = absurd (true≢false (sym e))
appended k j (i ∷ q) e = search (rules, appended k j q)

last_waits : (k : ℕ) (q : List ℕ) → waits k (q ++ (k ∷ [])) ≡ true
unfolding waits any
last_waits k [] = first_waits k []
last_waits k (i ∷ q) = or_true (eqb i k) _ (last_waits k q)

join_keeps : (k j : ℕ) (q : List ℕ) → waits k q ≡ true → waits k (join j q) ≡ true
join_keeps k j q e = search (rules, appended)

joins : (k : ℕ) (q : List ℕ) → waits k (join k q) ≡ true
joins k q = search (rules, last_waits)

-- of f's buckets, each whose count is not 0
module _ (at : ℕ → ℕ) (S : Sketch) where
  step : ℕ → List ℕ → List ℕ
  step i q = cond (is_zero (count_in S (at i))) q (join (at i) q)

  step_keeps : (k i : ℕ) (q : List ℕ) → waits k q ≡ true → waits k (step i q) ≡ true
  unfolding step
  step_keeps k i q e = search (rules, join_keeps)

  pub requeue_keeps : (k i n : ℕ) (q : List ℕ) → waits k q ≡ true → waits k (requeue at S i n q) ≡ true
  unfolding requeue step
  requeue_keeps k i zero q e = e
  requeue_keeps k i (suc n) q e = requeue_keeps k (suc i) n (step i q) (step_keeps k i q e)

  pub requeue_adds : (i n j : ℕ) (q : List ℕ) → i ≤ j → j < i + n → is_zero (count_in S (at j)) ≡ false → waits (at j) (requeue at S i n q) ≡ true
  unfolding requeue step
  requeue_adds i zero j q l u e = absurd (omega arith)
  requeue_adds i (suc n) j q l u e = go (dec_lt i j) (λ h. requeue_adds (suc i) n j (step i q) h (omega arith) e)
    where
      here : i ≡ j → waits (at j) (step i q) ≡ true
      here p = rw (p, e) (joins (at j) q)

      go : Dec (i < j) → (i < j → waits (at j) (requeue at S (suc i) n (step i q)) ≡ true) → waits (at j) (requeue at S (suc i) n (step i q)) ≡ true
      go (yes h) ih = ih h
      go (no h) ih = requeue_keeps (at j) (suc i) n (step i q) (here (omega arith))

-- at the start, every bucket whose count is not 0
pub starts : (k i : ℕ) (cs : List ℤ) → i < length cs → is_zero (get_or cs i (pos 0)) ≡ false → waits (k + i) (first_queue k cs) ≡ true
unfolding first_queue
starts k i [] l e = absurd (omega arith)
starts k zero (c ∷ cs) l e = rw (e, add-zero k) (first_waits k (first_queue (suc k) cs))
starts k (suc i) (c ∷ cs) l e = search (rules, starts (suc k) i cs (omega arith) e, later_waits)
