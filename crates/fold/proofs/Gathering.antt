-- Laws of what is gathered: sums over the numbers that go to one.
use mathlib.Core.Path.{◌≡◌, refl, sym, ap, ap₂, ◌∙◌}
use mathlib.Core.Bool.{Bool, true, false, cond}
use Prim.Native.Nat.{ℕ, zero, suc, ◌<◌}
use native.Mathlib.Omega.{arith}
use borrow.Author.Tests.{eq-eqb, ne_eqb, eqb-true}
use lib.Dec.{eqb}
use lib.IntN.{ℤ, pos, ◌+ℤ◌}
use Rattle.field.specs.Residue.{residue}
use Rattle.field.proofs.Residues.{residue_zero}
use Rattle.params.proofs.Searches.{same_either}
use Rattle.buckets.specs.Buckets.{plus_minus}
use Rattle.fold.specs.Fold.{total, gathered}
use Rattle.fold.proofs.Totals.{total_same, total_none, total_one, total_plus_minus, total_residues}

-- what is chosen by a test, or 0
cond_plus_minus : (minus b : Bool) (x y : ℤ) → cond b (plus_minus minus x y) (pos 0) ≡ plus_minus minus (cond b x (pos 0)) (cond b y (pos 0))
cond_plus_minus minus true x y = refl
cond_plus_minus false false x y = refl
cond_plus_minus true false x y = refl

cond_residue : (p : ℕ) (b : Bool) (x : ℤ) → cond b (pos (residue p x)) (pos 0) ≡ pos (residue p (cond b x (pos 0)))
cond_residue p true x = refl
cond_residue p false x = ap pos (sym (residue_zero p))

module _ (n : ℕ) (to : ℕ → ℕ) where
  pub gathered_same : (s t : ℕ → ℤ) (k : ℕ) → ((i : ℕ) → i < n → s i ≡ t i) → gathered n to s k ≡ gathered n to t k
  unfolding gathered
  gathered_same s t k e = total_same n _ _ (λ i l. ap (λ (z : ℤ). cond (eqb (to i) k) z (pos 0)) (e i l))

  -- of sums and of differences
  pub gathered_plus_minus : (minus : Bool) (s t : ℕ → ℤ) (k : ℕ) → gathered n to (λ i. plus_minus minus (s i) (t i)) k ≡ plus_minus minus (gathered n to s k) (gathered n to t k)
  unfolding gathered
  gathered_plus_minus minus s t k =
      total_same n _ _ (λ i l. cond_plus_minus minus (eqb (to i) k) (s i) (t i))
      ∙ total_plus_minus minus n (λ i. cond (eqb (to i) k) (s i) (pos 0)) (λ i. cond (eqb (to i) k) (t i) (pos 0))

  -- of residues
  pub gathered_residues : (p : ℕ) (t : ℕ → ℤ) (k : ℕ) → 0 < p → residue p (gathered n to (λ i. pos (residue p (t i))) k) ≡ residue p (gathered n to t k)
  unfolding gathered
  gathered_residues p t k l =
      ap (residue p) (total_same n _ _ (λ i e. cond_residue p (eqb (to i) k) (t i)))
      ∙ total_residues p n (λ i. cond (eqb (to i) k) (t i) (pos 0)) l

  -- of zeros
  pub gathered_none : (t : ℕ → ℤ) (k : ℕ) → ((i : ℕ) → i < n → to i ≡ k → t i ≡ pos 0) → gathered n to t k ≡ pos 0
  unfolding gathered
  gathered_none t k e = total_none n _ (λ i l. at i l (eqb (to i) k) refl)
    where
      at : (i : ℕ) → i < n → (b : Bool) → eqb (to i) k ≡ b → cond b (t i) (pos 0) ≡ pos 0
      at i l true q = e i l (eqb-true (to i) k q)
      at i l false q = refl

  -- all but one of the summands that go to k are 0
  pub gathered_one : (t : ℕ → ℤ) (k g : ℕ) → g < n → ((i : ℕ) → i < n → to i ≡ k → (i ≡ g → ⊥) → t i ≡ pos 0) → gathered n to t k ≡ cond (eqb (to g) k) (t g) (pos 0)
  unfolding gathered
  gathered_one t k g l e = total_one n g _ l (λ i m d. at i m d (eqb (to i) k) refl)
    where
      at : (i : ℕ) → i < n → (i ≡ g → ⊥) → (b : Bool) → eqb (to i) k ≡ b → cond b (t i) (pos 0) ≡ pos 0
      at i m d true q = e i m (eqb-true (to i) k q) d
      at i m d false q = refl

-- gathered once and then again is gathered at one go
pub gathered_twice : (n m : ℕ) (to next : ℕ → ℕ) (t : ℕ → ℤ) (k : ℕ) → ((i : ℕ) → i < n → to i < m) → gathered m next (gathered n to t) k ≡ gathered n (λ i. next (to i)) t k
unfolding gathered total
gathered_twice zero m to next t k inside = total_none m _ (λ i l. same_either (eqb (next i) k) (pos 0))
gathered_twice (suc n) m to next t k inside =
    gathered_plus_minus m next false (gathered n to t) (λ i. cond (eqb (to n) i) (t n) (pos 0)) k
    ∙ ap₂ ◌+ℤ◌ (gathered_twice n m to next t k (λ i l. inside i (omega arith))) last
  where
    last : gathered m next (λ i. cond (eqb (to n) i) (t n) (pos 0)) k ≡ cond (eqb (next (to n)) k) (t n) (pos 0)
    last =
        gathered_one m next (λ i. cond (eqb (to n) i) (t n) (pos 0)) k (to n) (inside n (omega arith)) (λ i l q d. ap (λ (b : Bool). cond b (t n) (pos 0)) (ne_eqb (to n) i (λ e. d (sym e))))
        ∙ ap (λ (b : Bool). cond (eqb (next (to n)) k) (cond b (t n) (pos 0)) (pos 0)) (eq-eqb (to n) (to n) refl)
