-- Laws of a count that is 0.
use mathlib.Core.Path.{◌≡◌, ap}
use mathlib.Core.Bool.{true, false}
use Prim.Native.Nat.{suc}
use native.Mathlib.Omega.{arith}
use lib.IntN.{ℤ, pos, negsuc, nat_abs}
use borrow.Author.Tests.{eq-eqb, ne_eqb, eqb-true}
use Rattle.buckets.specs.Buckets.{is_zero}

pub is_zero_lem : (z : ℤ) → z ≡ pos 0 → is_zero z ≡ true
is_zero_lem z e = eq-eqb (nat_abs z) 0 (ap nat_abs e)

pub zero_is : (z : ℤ) → is_zero z ≡ true → z ≡ pos 0
zero_is (pos n) e = ap pos (eqb-true n 0 e)
zero_is (negsuc n) e = absurd (omega (arith, eqb-true (suc n) 0 e))

pub not_zero : (z : ℤ) → (z ≡ pos 0 → ⊥) → is_zero z ≡ false
not_zero (pos n) d = ne_eqb n 0 (λ e. d (ap pos e))
not_zero (negsuc n) d = ne_eqb (suc n) 0 (λ e. omega arith)
