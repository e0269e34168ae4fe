-- The first and the last place of a list made by `from`.
use mathlib.Core.Path.{◌≡◌, refl, ap}
use mathlib.Core.List.{List, [], ◌∷◌, ◌++◌}
use Prim.Native.Nat.{ℕ, zero, suc, ◌+◌}
use native.Mathlib.Nat.{add-suc, suc-add, add-zero}
use Rattle.params.specs.Lists.{from}

module _ {A : Type 0} where
  pub from_first : (n : ℕ) (h : ℕ → A) → from 0 (suc n) h ≡ h 0 ∷ from 0 n (λ i. h (suc i))
  unfolding from
  from_first n h = ap (λ (l : List A). h 0 ∷ l) (later 0 n)
    where
      later : (k n : ℕ) → from (suc k) n h ≡ from k n (λ i. h (suc i))
      later k zero = refl
      later k (suc n) = ap (λ (l : List A). h (suc k) ∷ l) (later (suc k) n)

  pub from_last : (k n : ℕ) (h : ℕ → A) → from k (suc n) h ≡ from k n h ++ (h (k + n) ∷ [])
  unfolding from
  from_last k zero h = rw (add-zero k)
  from_last k (suc n) h = ap (λ (l : List A). h k ∷ l) (rw (add-suc k n, ← suc-add k n) (from_last (suc k) n h))
