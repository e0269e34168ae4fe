-- Sums of signed numbers by index.
use mathlib.Core.Path.{◌≡◌, refl, sym, ap, ap₂, ◌∙◌}
use mathlib.Core.Bool.{Bool, true, false}
use Prim.Native.Nat.{ℕ, zero, suc, ◌+◌, ◌%◌, ◌≤◌, ◌<◌}
use native.Mathlib.Decide.{ℕ_discrete}
use native.Mathlib.Numerals.{add-one}
use native.Mathlib.Omega.{arith}
use lib.IntN.{ℤ, pos, neg_ℤ, ◌+ℤ◌, +ℤ_idl, +ℤ_idr, +ℤ_assoc, +ℤ_comm, neg_ℤ-+ℤ}
use lib.Signed.{◌≤ℤ◌}
use Rattle.field.specs.Residue.{residue}
use Rattle.field.proofs.Parts.{int, up_down_add}
use Rattle.field.proofs.Residues.{residue_add, residue_twice}
use Rattle.buckets.specs.Buckets.{plus_minus}
use Rattle.fold.specs.Fold.{total}

swap_middle : (a b c d : ℤ) → (a +ℤ b) +ℤ (c +ℤ d) ≡ (a +ℤ c) +ℤ (b +ℤ d)
swap_middle a b c d =
    +ℤ_assoc a b (c +ℤ d)
    ∙ ap (◌+ℤ◌ a) (sym (+ℤ_assoc b c d) ∙ ap (λ (z : ℤ). z +ℤ d) (+ℤ_comm b c) ∙ +ℤ_assoc c b d)
    ∙ sym (+ℤ_assoc a c (b +ℤ d))

pub total_add : (n : ℕ) (s t : ℕ → ℤ) → total n (λ i. s i +ℤ t i) ≡ total n s +ℤ total n t
unfolding total
total_add zero s t = refl
total_add (suc n) s t = ap (λ (z : ℤ). z +ℤ (s n +ℤ t n)) (total_add n s t) ∙ swap_middle (total n s) (total n t) (s n) (t n)

-- one summand more
pub total_next : (n : ℕ) (t : ℕ → ℤ) → total (n + 1) t ≡ total n t +ℤ t n
unfolding total
total_next n t = ap (λ (k : ℕ). total k t) (add-one n)

pub total_same : (n : ℕ) (s t : ℕ → ℤ) → ((i : ℕ) → i < n → s i ≡ t i) → total n s ≡ total n t
unfolding total
total_same zero s t h = refl
total_same (suc n) s t h = ap₂ ◌+ℤ◌ (total_same n s t (λ i l. h i (omega arith))) (h n (omega arith))

-- where no summand is greater than the other's, the sum is not
pub total_below : (n : ℕ) (s t : ℕ → ℤ) → ((i : ℕ) → s i ≤ℤ t i) → total n s ≤ℤ total n t
unfolding total
total_below zero s t h = omega int
total_below (suc n) s t h = omega (int, total_below n s t h, h n, up_down_add (total n s) (s n), up_down_add (total n t) (t n))

pub total_none : (n : ℕ) (t : ℕ → ℤ) → ((i : ℕ) → i < n → t i ≡ pos 0) → total n t ≡ pos 0
unfolding total
total_none zero t h = refl
total_none (suc n) t h = ap₂ ◌+ℤ◌ (total_none n t (λ i l. h i (omega arith))) (h n (omega arith))

-- all summands but one are 0
pub total_one : (n g : ℕ) (t : ℕ → ℤ) → g < n → ((i : ℕ) → i < n → (i ≡ g → ⊥) → t i ≡ pos 0) → total n t ≡ t g
unfolding total
total_one zero g t l h = absurd (omega arith)
total_one (suc n) g t l h = at (ℕ_discrete n g) (λ m. total_one n g t m (λ i k q. h i (omega arith) q))
  where
    at : Dec (n ≡ g) → (g < n → total n t ≡ t g) → total n t +ℤ t n ≡ t g
    at (yes p) ih =
        ap (λ (z : ℤ). z +ℤ t n) (total_none n t (λ i m. h i (omega arith) (λ q. omega arith)))
        ∙ +ℤ_idl (t n)
        ∙ ap t p
    at (no q) ih = ap₂ ◌+ℤ◌ (ih (omega arith)) (h n (omega arith) q) ∙ +ℤ_idr (t g)

-- all summands behind one are 0
total_last : (n g : ℕ) (t : ℕ → ℤ) → g < n → ((i : ℕ) → g < i → i < n → t i ≡ pos 0) → total n t ≡ total g t +ℤ t g
unfolding total
total_last zero g t l h = absurd (omega arith)
total_last (suc n) g t l h = at (ℕ_discrete n g) (λ m. total_last n g t m (λ i a b. h i a (omega arith)))
  where
    at : Dec (n ≡ g) → (g < n → total n t ≡ total g t +ℤ t g) → total n t +ℤ t n ≡ total g t +ℤ t g
    at (yes p) ih = ap (λ (i : ℕ). total i t +ℤ t i) p
    at (no q) ih = ap₂ ◌+ℤ◌ (ih (omega arith)) (h n (omega arith) (omega arith)) ∙ +ℤ_idr (total g t +ℤ t g)

-- all summands but those at e 0, e 1, .., e (n - 1), which rise, are 0
pub total_at : (n N : ℕ) (e : ℕ → ℕ) (t : ℕ → ℤ) → ((q : ℕ) → q < n → e q < N) → ((p q : ℕ) → p < q → e p < e q)
    → ((s : ℕ) → s < N → ((q : ℕ) → q < n → s ≡ e q → ⊥) → t s ≡ pos 0) → total N t ≡ total n (λ q. t (e q))
unfolding total
total_at zero N e t inside rising none = total_none N t (λ s l. none s l (λ q m p. omega arith))
total_at (suc n) N e t inside rising none =
    total_last N (e n) t (inside n (omega arith)) (λ s a b. none s b (λ q m p. omega (arith, up_to_last q m (ℕ_discrete q n))))
    ∙ ap (λ (z : ℤ). z +ℤ t (e n))
    (total_at n (e n) e t (λ q l. rising q n l) rising (λ s l miss. none s (omega (arith, inside n (omega arith))) (λ q m p. missed s l miss q m p (ℕ_discrete q n))))
  where
    up_to_last : (q : ℕ) → q < suc n → Dec (q ≡ n) → e q ≤ e n
    up_to_last q l (yes p) = rw p (omega arith)
    up_to_last q l (no d) = omega (arith, rising q n (omega arith))

    missed : (s : ℕ) → s < e n → ((q : ℕ) → q < n → s ≡ e q → ⊥) → (q : ℕ) → q < suc n → s ≡ e q → Dec (q ≡ n) → ⊥
    missed s l miss q m p (yes r) = let here : e q ≡ e n = ap e r in omega arith
    missed s l miss q m p (no d) = miss q (omega arith) p

-- sums and differences, summand by summand
total_negated : (n : ℕ) (t : ℕ → ℤ) → total n (λ i. neg_ℤ (t i)) ≡ neg_ℤ (total n t)
unfolding total
total_negated zero t = refl
total_negated (suc n) t = ap (λ (z : ℤ). z +ℤ neg_ℤ (t n)) (total_negated n t) ∙ sym (neg_ℤ-+ℤ (total n t) (t n))

pub total_plus_minus : (minus : Bool) (n : ℕ) (s t : ℕ → ℤ) → total n (λ i. plus_minus minus (s i) (t i)) ≡ plus_minus minus (total n s) (total n t)
total_plus_minus false n s t = total_add n s t
total_plus_minus true n s t = total_add n s (λ i. neg_ℤ (t i)) ∙ ap (◌+ℤ◌ (total n s)) (total_negated n t)

-- a sum of residues has the residue of the sum
pub total_residues : (p n : ℕ) (t : ℕ → ℤ) → 0 < p → residue p (total n (λ i. pos (residue p (t i)))) ≡ residue p (total n t)
unfolding total
total_residues p zero t l = refl
total_residues p (suc n) t l =
    residue_add p l (total n (λ i. pos (residue p (t i)))) (pos (residue p (t n)))
    ∙ ap₂ (λ (a b : ℕ). (a + b) % p) (total_residues p n t l) (residue_twice p l (t n))
    ∙ sym (residue_add p l (total n t) (t n))
