-- Trial division, a test that the checker computes, the law that makes a prime of it, and the two primes of the field.
use mathlib.Core.Path.{◌≡◌, refl, sym, ap, subst, ◌∙◌}
use mathlib.Core.Bool.{Bool, true, false, not, ◌&&◌}
use mathlib.Core.Logic.{◌⊎◌, inl, inr, ⊎_elim}
use Prim.Native.Nat.{ℕ, zero, suc, ◌*◌, ◌%◌, ◌≤◌, ◌<◌}
use native.Mathlib.Nat.{mul-mod_left, mul-mod_right, mul-le-mul, eq-or-lt_of_le}
use native.Mathlib.Decide.{dec_le}
use native.Mathlib.Omega.{arith}
use lib.Dec.{T, T_not, eqb, ltb, ltb→lt}
use borrow.Author.Tests.{eq-eqb}
use Rattle.field.specs.Prime.{Prime}

-- no number from 2 to k + 1 divides n
unfoldable pub no_divisor : ℕ → ℕ → Bool
no_divisor n zero = true
no_divisor n (suc k) = not (eqb (n % suc (suc k)) 0) && no_divisor n k

-- n is above 1, below the square of k + 2, and no number from 2 to k + 1 divides it
unfoldable pub trial : ℕ → ℕ → Bool
trial n k = (ltb 1 n && ltb n (suc (suc k) * suc (suc k))) && no_divisor n k

and_left : (a b : Bool) → T (a && b) → T a
and_left true b t = tt
and_left false b t = t

and_right : (a b : Bool) → T (a && b) → T b
and_right true b t = t
and_right false b t = absurd t

no_divisor_lem : (n k d : ℕ) → T (no_divisor n k) → 1 < d → d ≤ suc k → n % d ≡ 0 → ⊥
unfolding no_divisor
no_divisor_lem n zero d t h u e = omega arith
no_divisor_lem n (suc k) d t h u e =
    ⊎_elim
    (λ q. T_not (eqb (n % suc (suc k)) 0) (and_left (not (eqb (n % suc (suc k)) 0)) (no_divisor n k) t) (subst T (sym (eq-eqb (n % suc (suc k)) 0 (ap (λ (x : ℕ). n % x) (sym q) ∙ e))) tt))
    (λ l. no_divisor_lem n k d (and_right (not (eqb (n % suc (suc k)) 0)) (no_divisor n k) t) h (omega arith) e)
    (eq-or-lt_of_le u)

-- two factors above 1 are not both above k + 1, and neither is below k + 2
module _ (n k : ℕ) (low : 1 < n) (high : n < suc (suc k) * suc (suc k)) (none : T (no_divisor n k)) where
  no_factors : (a b : ℕ) → 1 < a → 1 < b → a * b ≡ n → ⊥
  no_factors a b ha hb e = go (dec_le a (suc k)) (dec_le b (suc k))
    where
      go : Dec (a ≤ suc k) → Dec (b ≤ suc k) → ⊥
      go (yes l) d = no_divisor_lem n k a none ha l (ap (λ (x : ℕ). x % a) (sym e) ∙ mul-mod_right a b)
      go (no f) (yes l) = no_divisor_lem n k b none hb l (ap (λ (x : ℕ). x % b) (sym e) ∙ mul-mod_left a b)
      go (no f) (no g) =
          let square : suc (suc k) * suc (suc k) ≤ a * b = mul-le-mul (omega arith) (omega arith) in
          omega arith

  trivial_factors : (a b : ℕ) → a * b ≡ n → (a ≡ 1) ⊎ (b ≡ 1)
  trivial_factors zero b e = absurd (omega arith)
  trivial_factors (suc zero) b e = inl refl
  trivial_factors (suc (suc a)) zero e = absurd (omega arith)
  trivial_factors (suc (suc a)) (suc zero) e = inr refl
  trivial_factors (suc (suc a)) (suc (suc b)) e =
      absurd (no_factors (suc (suc a)) (suc (suc b)) (omega arith) (omega arith) e)

pub prime_by_trial : (n k : ℕ) → T (trial n k) → Prime n
unfolding trial
prime_by_trial n k t =
    let square = suc (suc k) * suc (suc k) in
    let bounds = and_left (ltb 1 n && ltb n square) (no_divisor n k) t in
    let low = ltb→lt 1 n (and_left (ltb 1 n) (ltb n square) bounds) in
    let high = ltb→lt n square (and_right (ltb 1 n) (ltb n square) bounds) in
    let none = and_right (ltb 1 n && ltb n square) (no_divisor n k) t in
    record { above_one = low; only_trivial = trivial_factors n k low high none }

-- 2 ^ 31 - 1, and the largest prime below 2 ^ 32
pub prime_31 : Prime 2147483647
unfolding trial no_divisor
prime_31 = prime_by_trial 2147483647 46340 tt

pub prime_32 : Prime 4294967291
unfolding trial no_divisor
prime_32 = prime_by_trial 4294967291 65534 tt
