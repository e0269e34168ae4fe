-- Signed numbers as the machine has them. A signed local holds bits, so what the code computes with is `to_z w (of_z w z)`, which is z where z fits.
use mathlib.Core.Path.{◌≡◌, sym, ap, subst⁻¹, ◌∙◌}
use mathlib.Core.Bool.{true, false}
use Prim.Native.Nat.{ℕ, ◌^◌, ◌<◌}
use native.Mathlib.Omega.{arith}
use lib.IntN.{ℤ, pos, nat_abs, ◌-ℤ◌}
use lib.Dec.{T}
use lib.Signed.{non_neg, mag, lt_z}
use mir.Syntax.{Width, w32, w64}
use mir.Val.{to_z, of_z, SFits, Fits, hbits}
use mir.Facts.{to_z-of_z, sfits_widen}
use borrow.Author.Rules.{sfits_of}
use Rattle.field.proofs.Parts.{negative, not_negative, abs_of_sfits}

-- what the machine reads back of a number that is z
pub as_is : {w : Width} {x z : ℤ} → x ≡ z → SFits w z → to_z w (of_z w x) ≡ z
as_is {w} e f = ap (λ (y : ℤ). to_z w (of_z w y)) e ∙ to_z-of_z f

-- the same, where what is known are the bounds of an element or of a result
pub back : (w : Width) (z : ℤ) → mag z < 2 ^ hbits w → to_z w (of_z w z) ≡ z
back w z h = to_z-of_z (sfits_of h)

-- an i32 cast to i64
pub widened : {z : ℤ} → SFits w32 z → to_z w64 (of_z w64 (to_z w32 (of_z w32 z))) ≡ z
widened f = as_is {w = w64} (to_z-of_z f) (sfits_widen tt f)

pub widens : {z : ℤ} → SFits w32 z → SFits w64 (to_z w32 (of_z w32 z))
widens {z} f = rw (to_z-of_z f) (sfits_widen tt f)

-- what a cast of a signed number that is n to an unsigned type asks
pub cast_asks : {w : Width} {z : ℤ} {n : ℕ} → z ≡ pos n → Fits w n → T (non_neg z) × Fits w (nat_abs z)
cast_asks {z = z} e f = rw e (tt, f)

-- the size of an i32, by the code's test of whether it is below 0: taken from 0 as an i64 where it is, and as it stands where not
module _ (z : ℤ) (f : SFits w32 z) where
  negative_size : lt_z (to_z w32 (of_z w32 z)) (pos 0) ≡ true → pos 0 -ℤ to_z w64 (of_z w64 (to_z w32 (of_z w32 z))) ≡ pos (nat_abs z)
  negative_size h = ap (λ (y : ℤ). pos 0 -ℤ y) (widened f) ∙ negative z (rw (to_z-of_z f) at h)

  pub negative_fits : lt_z (to_z w32 (of_z w32 z)) (pos 0) ≡ true → SFits w64 (pos 0 -ℤ to_z w64 (of_z w64 (to_z w32 (of_z w32 z))))
  negative_fits h = subst⁻¹ (SFits w64) (negative_size h) (record { sfits = omega (arith, abs_of_sfits f) })

  pub negative_read : lt_z (to_z w32 (of_z w32 z)) (pos 0) ≡ true → to_z w64 (of_z w64 (pos 0 -ℤ to_z w64 (of_z w64 (to_z w32 (of_z w32 z))))) ≡ pos (nat_abs z)
  negative_read h = to_z-of_z (negative_fits h) ∙ negative_size h

  pub plain_read : lt_z (to_z w32 (of_z w32 z)) (pos 0) ≡ false → to_z w32 (of_z w32 z) ≡ pos (nat_abs z)
  plain_read h = to_z-of_z f ∙ not_negative z (rw (to_z-of_z f) at h)

-- an i32 is 0 where its bits are
pub zero_of_bits : (z : ℤ) → SFits w32 z → of_z w32 z ≡ 0 → z ≡ pos 0
zero_of_bits z h e = sym (to_z-of_z h) ∙ ap (to_z w32) e

pub bits_of_zero : (z : ℤ) → z ≡ pos 0 → of_z w32 z ≡ 0
bits_of_zero z e = ap (of_z w32) e
