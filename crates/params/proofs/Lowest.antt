-- What a search finds is the lowest number that passes its test, and so is the index of a refusal that a search makes.
use mathlib.Core.Path.{◌≡◌, refl, ap}
use mathlib.Core.Bool.{Bool, true, false, cond}
use mathlib.Core.Logic.{◌⊎◌, inl, inr}
use Prim.Native.Nat.{ℕ, zero, suc, ◌+◌, ◌≤◌, ◌<◌}
use native.Mathlib.Decide.{ℕ_discrete}
use native.Mathlib.Omega.{arith}
use borrow.Author.Tests.{ltb-true}
use lib.Dec.{ltb}
use Rattle.params.specs.declared.answers.Refusal.{Refusal}
use Rattle.params.specs.declared.answers.Refused.{Refused as RefusedAt}
use Rattle.params.specs.Lists.{least}
use Rattle.params.specs.Answers.{refuse_if, refuse_at, Answer, Refused}
use Rattle.params.proofs.Searches.{none_found}

-- k is the lowest number below n that passes the test
pub record Lowest (n : ℕ) (t : ℕ → Bool) (k : ℕ) : Type 0 where
  pub inside : k < n
  pub here : t k ≡ true
  pub none_lower : (j : ℕ) → j < k → t j ≡ false

-- a search from k on, by what its first test tells
found_step : (n k : ℕ) (t : ℕ → Bool) (b : Bool) → t k ≡ b → cond b k (least (suc k) n t) < k + suc n
    → (least (suc k) n t < suc k + n → (t (least (suc k) n t) ≡ true) × ((j : ℕ) → suc k ≤ j → j < least (suc k) n t → t j ≡ false))
    → (t (cond b k (least (suc k) n t)) ≡ true) × ((j : ℕ) → k ≤ j → j < cond b k (least (suc k) n t) → t j ≡ false)
found_step n k t true e h ih = (e, λ j l m. absurd (omega arith))
found_step n k t false e h ih = let r = ih (omega arith) in (r.0, λ j l m. at j l m (ℕ_discrete j k) (r.1 j))
  where
    at : (j : ℕ) → k ≤ j → j < least (suc k) n t → Dec (j ≡ k) → (suc k ≤ j → j < least (suc k) n t → t j ≡ false) → t j ≡ false
    at j l m (yes p) r = rw p e
    at j l m (no q) r = r (omega arith) m

least_found : (n k : ℕ) (t : ℕ → Bool) → least k n t < k + n
    → (t (least k n t) ≡ true) × ((j : ℕ) → k ≤ j → j < least k n t → t j ≡ false)
unfolding least
least_found zero k t h = absurd (omega arith)
least_found (suc n) k t h = found_step n k t (t k) refl h (least_found n (suc k) t)

pub least_lowest : (n : ℕ) (t : ℕ → Bool) → least 0 n t < n → Lowest n t (least 0 n t)
least_lowest n t h =
    let r = least_found n 0 t (omega arith) in record { inside = h; here = r.0; none_lower = λ j l. r.1 j (omega arith) l }

-- a search that may have refused: it did, with the lowest number, or what is judged next did
at_step : (n : ℕ) (t : ℕ → Bool) (w v : Refusal) (k : ℕ) (next : Answer) (b : Bool) → ltb (least 0 n t) n ≡ b → refuse_if b w (least 0 n t) next ≡ Refused v k
    → ((w ≡ v) × Lowest n t k) ⊎ (((j : ℕ) → j < n → t j ≡ false) × (next ≡ Refused v k))
at_step n t w v k next true e q =
    let same : ◌≡◌ {A = RefusedAt} (w, least 0 n t) (v, k) = cc in
    inl (ap (λ (r : RefusedAt). r.0) same, rw (ap (λ (r : RefusedAt). r.1) same) at (least_lowest n t (ltb-true (least 0 n t) n e)))
at_step n t w v k next false e q =
    inr (none_found n t e, q)

pub refuse_at_lem : (n : ℕ) (t : ℕ → Bool) (w v : Refusal) (k : ℕ) (next : Answer) → refuse_at n t w next ≡ Refused v k
    → ((w ≡ v) × Lowest n t k) ⊎ (((j : ℕ) → j < n → t j ≡ false) × (next ≡ Refused v k))
unfolding refuse_at
refuse_at_lem n t w v k next e = at_step n t w v k next (ltb (least 0 n t) n) refl e
