-- Numbers in decimal: the last digit, how many digits there are, and the numbers below 0.
use mathlib.Core.Path.{◌≡◌, refl, sym, ap, ◌∙◌}
use mathlib.Core.Bool.{Bool, true, false}
use mathlib.Core.List.{[], ◌∷◌, ◌++◌}
use Prim.Native.Nat.{ℕ, zero, suc, ◌+◌, ◌-◌, ◌/◌, ◌%◌, ◌^◌, ◌≤◌, ◌<◌}
use native.Mathlib.Omega.{arith}
use borrow.Author.Tests.{ltb-true, ltb-false, lt-ltb, le-ltb}
use lib.Dec.{ltb}
use lib.IntN.{ℤ, pos, negsuc, nat_abs, neg_ℤ, ◌-ℤ◌}
use lib.ListN.{length, length-append}
use lib.Signed.{lt_z}
use mir.Syntax.{w64}
use mir.Val.{SFits}
use Rattle.field.proofs.Parts.{int, up_down_add, up_neg, down_neg}
use Rattle.lines.specs.Decimal.{digits, decimal, signed_decimal}

-- one digit, and the last of several
digits_one : (k n : ℕ) → n < 10 → digits (suc k) n ≡ (48 + n) ∷ []
unfolding digits
digits_one k n h = rw (lt-ltb n 10 h)

digits_last : (k n : ℕ) → 10 ≤ n → digits (suc k) n ≡ digits k (n / 10) ++ ((48 + n % 10) ∷ [])
unfolding digits
digits_last k n h = rw (le-ltb n 10 h)

-- a place more than a number has digits changes nothing
digits_more : (k n : ℕ) → n < 10 ^ suc k → digits (suc (suc k)) n ≡ digits (suc k) n
digits_more zero n h = digits_one 1 n (omega arith) ∙ sym (digits_one 0 n (omega arith))
digits_more (suc k) n h = go (digits_more k (n / 10) (omega arith)) (ltb n 10) refl
  where
    go : digits (suc (suc k)) (n / 10) ≡ digits (suc k) (n / 10) → (t : Bool) → ltb n 10 ≡ t → digits (suc (suc (suc k))) n ≡ digits (suc (suc k)) n
    go same true e = let h = ltb-true n 10 e in digits_one _ n h ∙ sym (digits_one _ n h)
    go same false e =
        let h = ltb-false n 10 e in
        digits_last _ n h ∙ ap (λ ds. ds ++ ((48 + n % 10) ∷ [])) same ∙ sym (digits_last _ n h)

-- no more digits than the power of ten above the number has zeros
length_digits : (j k n : ℕ) → n < 10 ^ suc k → length (digits j n) ≤ suc k
unfolding digits
length_digits zero k n h = omega arith
length_digits (suc j) zero n h = omega (arith, ap length (digits_one j n (omega arith)))
length_digits (suc j) (suc k) n h = go (length_digits j k (n / 10) (omega arith)) (ltb n 10) refl
  where
    go : length (digits j (n / 10)) ≤ suc k → (t : Bool) → ltb n 10 ≡ t → length (digits (suc j) n) ≤ suc (suc k)
    go short true e = omega (arith, ap length (digits_one j n (ltb-true n 10 e)))
    go short false e = omega (arith, ap length (digits_last j n (ltb-false n 10 e)), length-append (digits j (n / 10)) ((48 + n % 10) ∷ []))

-- the digits that are written: one, or those of the tenth and one more
pub decimal_one : (n : ℕ) → n < 10 → decimal n ≡ (48 + n) ∷ []
decimal_one n h = digits_one 19 n h

pub decimal_last : (n : ℕ) → 10 ≤ n → n < 2 ^ 64 → decimal n ≡ decimal (n / 10) ++ ((48 + n % 10) ∷ [])
decimal_last n h f = digits_last 19 n h ∙ ap (λ ds. ds ++ ((48 + n % 10) ∷ [])) (sym (digits_more 18 (n / 10) (omega arith)))

pub length_last : (n : ℕ) → 10 ≤ n → n < 2 ^ 64 → length (decimal n) ≡ length (decimal (n / 10)) + 1
length_last n h f = ap length (decimal_last n h f) ∙ length-append (decimal (n / 10)) ((48 + n % 10) ∷ [])

-- how many digits a number of 64 bits, one of 32 bits and a signed number have at most
pub length_decimal : (n : ℕ) → n < 2 ^ 64 → length (decimal n) ≤ 20
length_decimal n f = length_digits 20 19 n (omega arith)

pub length_short : (n : ℕ) → n < 2 ^ 32 → length (decimal n) ≤ 10
length_short n f = length_digits 20 9 n (omega arith)

pub length_signed : (z : ℤ) → SFits w64 z → length (signed_decimal z) ≤ 20
length_signed (pos n) f = omega (arith, length_digits 20 18 n (omega arith))
length_signed (negsuc n) f = omega (arith, length_digits 20 18 (suc n) (omega arith))

-- the same where the machine reads the number back from its bits
pub length_read : {y z : ℤ} → y ≡ z → SFits w64 z → length (signed_decimal y) ≤ 20
length_read {z = z} e f = rw e (length_signed z f)

-- a number below 0 is a - and its size, which is one more than what -1 exceeds it by; any other is its size
pub below_minus_one : (z : ℤ) → lt_z z (pos 0) ≡ true → negsuc 0 -ℤ z ≡ pos (nat_abs z - 1)
below_minus_one (pos n) h = absurd (omega int)
below_minus_one (negsuc n) h =
    omega (int, up_down_add (negsuc 0) (neg_ℤ (negsuc n)), up_neg (negsuc n), down_neg (negsuc n))

pub signed_below : (z : ℤ) → lt_z z (pos 0) ≡ true → signed_decimal z ≡ 45 ∷ decimal (nat_abs z)
signed_below (pos n) h = absurd (omega int)
signed_below (negsuc n) h = refl

pub signed_not_below : (z : ℤ) → lt_z z (pos 0) ≡ false → signed_decimal z ≡ decimal (nat_abs z)
signed_not_below (pos n) h = refl
signed_not_below (negsuc n) h = absurd (omega int)
