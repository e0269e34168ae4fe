-- Multiples of p: what the test of one says, and that a number whose size is below p is a multiple of p only where it is 0.
use mathlib.Core.Path.{◌≡◌, sym, ap, ◌∙◌}
use mathlib.Core.Bool.{true}
use Prim.Native.Nat.{ℕ, suc, ◌*◌, ◌/◌, ◌%◌, ◌<◌}
use native.Mathlib.Nat.{mod-lt, mod-add-div', mod_self, mul-zero, zero-mod}
use native.Mathlib.Omega.{arith}
use borrow.Author.Tests.{eq-eqb, ne_eqb, eqb-true}
use lib.Dec.{eqb}
use lib.IntN.{ℤ, pos, negsuc, nat_abs, neg_ℤ, ◌*ℤ◌}
use Rattle.field.specs.Residue.{residue, is_multiple}
use Rattle.field.proofs.Residues.{residue_pos, residue_negsuc, residue_own, residue_mul, residue_nonzero}

module _ (p : ℕ) (h : 0 < p) where
  -- a multiple, by its test, is p times some number, and p times any number is one
  pub multiple_is : (z : ℤ) → is_multiple p z ≡ true → (q : ℤ) × (q *ℤ pos p ≡ z)
  multiple_is (pos n) e = (pos (n / p), ap pos (omega (arith, eqb-true (residue p (pos n)) 0 e, residue_pos p h n, mod-add-div' n p)))
  multiple_is (negsuc n) e =
      let whole : suc (n / p) * p ≡ suc n = omega (arith, eqb-true (residue p (negsuc n)) 0 e, residue_negsuc p h n, mod-add-div' n p, mod-lt n h) in
      (negsuc (n / p), ap (λ (x : ℕ). neg_ℤ (pos x)) whole)

  pub is_multiple_lem : (z q : ℤ) → q *ℤ pos p ≡ z → is_multiple p z ≡ true
  is_multiple_lem z q e =
      eq-eqb (residue p z) 0
      (ap (residue p) (sym e)
      ∙ residue_mul p h q (pos p)
      ∙ ap (λ (r : ℕ). (residue p q * r) % p) (residue_pos p h p ∙ mod_self p)
      ∙ ap (λ (n : ℕ). n % p) (mul-zero (residue p q))
      ∙ zero-mod p)

  -- a number whose size is below p is a multiple of p where it is 0, and only there
  pub zero_alone : (z : ℤ) → nat_abs z < p → is_multiple p z ≡ eqb (nat_abs z) 0
  zero_alone (pos n) l = ap (λ (r : ℕ). eqb r 0) (residue_own p h n l)
  zero_alone (negsuc n) l = ne_eqb (residue p (negsuc n)) 0 (λ e. omega (arith, residue_nonzero p h (negsuc n) (omega arith) l)) ∙ sym (ne_eqb (suc n) 0 (λ e. omega arith))
