-- Laws of a bucket's limits.
use mathlib.Core.Path.{◌≡◌}
use mathlib.Core.Bool.{Bool, true, false}
use Prim.Native.Nat.{ℕ, ◌≤◌, ◌<◌}
use native.Mathlib.Omega.{arith}
use borrow.Author.Tests.{le-leb, leb-true, lt-ltb, ltb-true, not-false}
use lib.Dec.{leb, ltb}
use lib.IntN.{ℤ, nat_abs, ◌+ℤ◌, ◌-ℤ◌}
use mir.Syntax.{w32, w64}
use mir.Facts.{to_z-of_z}
use mir.Val.{SFits, to_z, of_z}
use Rattle.field.proofs.Parts.{sfits_of_abs, abs_of_sfits, abs_add, abs_sub}
use Rattle.params.specs.Params.{prime}
use Rattle.buckets.specs.Buckets.{in_limits, is_number, damaged, is_small, plus_minus}
use Rattle.params.proofs.Searches.{and_true}

-- a number within the limits fits a count
pub limits_size : (z : ℤ) → in_limits z ≡ true → nat_abs z ≤ 2147483646
unfolding in_limits
limits_size z e = leb-true (nat_abs z) 2147483646 e

pub limits_fit : (z : ℤ) → in_limits z ≡ true → SFits w32 z
limits_fit z e = sfits_of_abs w32 z (omega (arith, limits_size z e))

-- a number of packets, by its test, and back
pub number_within : (n : ℕ) → is_number n ≡ true → (1 ≤ n) × (n < prime)
unfolding is_number
number_within n e = let q = and_true (leb 1 n) (leb n 2147483646) e in (leb-true 1 n q.0, omega (arith, leb-true n 2147483646 q.1))

pub number_back : (n : ℕ) → 1 ≤ n → n < prime → is_number n ≡ true
unfolding is_number
number_back n l h = rw (le-leb 1 n l, le-leb n 2147483646 (omega arith))

-- a bucket within its limits, by its test, and back
pub whole : (c : ℤ) (s : ℕ) → damaged c s ≡ false → (in_limits c ≡ true) × (s < prime)
whole c s e = let q = and_true (in_limits c) (ltb s prime) (not-false _ e) in (q.0, ltb-true s prime q.1)

pub whole_back : (c : ℤ) (s : ℕ) → in_limits c ≡ true → s < prime → damaged c s ≡ false
whole_back c s e l = rw (e, lt-ltb s prime l)

-- a small bucket is within its limits, and stays there with a count no larger than a small one's
pub small_whole : (c : ℤ) (s : ℕ) → is_small c s ≡ true → damaged c s ≡ false
unfolding is_small in_limits
small_whole c s e =
    let q = and_true (ltb s prime) (leb (nat_abs c) 1000000000) e in
    whole_back c s (le-leb (nat_abs c) 2147483646 (omega (arith, leb-true (nat_abs c) 1000000000 q.1))) (ltb-true s prime q.0)

pub small_size : (c : ℤ) (s : ℕ) → is_small c s ≡ true → nat_abs c ≤ 1000000000
unfolding is_small
small_size c s e = leb-true (nat_abs c) 1000000000 (and_true (ltb s prime) (leb (nat_abs c) 1000000000) e).1

pub small_stays : (minus : Bool) (x y : ℤ) → nat_abs x ≤ 1000000000 → nat_abs y ≤ 1000000000 → in_limits (plus_minus minus x y) ≡ true
unfolding in_limits
small_stays false x y h k = le-leb (nat_abs (x +ℤ y)) 2147483646 (omega (arith, abs_add x y))
small_stays true x y h k = le-leb (nat_abs (x -ℤ y)) 2147483646 (omega (arith, abs_sub x y))

-- the sum and the difference of two counts fit the wide width
pub wide : (minus : Bool) (x y : ℤ) → SFits w32 x → SFits w32 y → SFits w64 (plus_minus minus x y)
wide false x y h k = sfits_of_abs w64 (x +ℤ y) (omega (arith, abs_add x y, abs_of_sfits h, abs_of_sfits k))
wide true x y h k = sfits_of_abs w64 (x -ℤ y) (omega (arith, abs_sub x y, abs_of_sfits h, abs_of_sfits k))

-- a sum or a difference within the limits, found at the wide width, fits a count and is the same as one
pub narrows : {r z : ℤ} → SFits w64 r → r ≡ z → in_limits z ≡ true → SFits w32 (to_z w64 (of_z w64 r))
narrows {r} {z} h e l = rw (to_z-of_z h, e) (limits_fit z l)

pub narrowed : {r z : ℤ} → SFits w64 r → r ≡ z → in_limits z ≡ true → to_z w32 (of_z w32 (to_z w64 (of_z w64 r))) ≡ z
narrowed {r} {z} h e l = rw (to_z-of_z h, e) (to_z-of_z (limits_fit z l))
