-- A signed number as two naturals, its part above 0 and its part below, so that `omega`, which does not read ℤ, proves facts on signed numbers: hand it these laws of the numbers' parts.
use mathlib.Core.Path.{◌≡◌, refl, sym, ap, subst}
use mathlib.Core.Bool.{Bool, true, false, not, cond}
use mathlib.Core.Logic.{◌⊎◌, inl, inr, ⊎_elim}
use Prim.Native.Nat.{ℕ, zero, suc, ◌+◌, ◌-◌, ◌*◌, ◌^◌, ◌≤◌, ◌<◌}
use native.Mathlib.Omega.{arith}
use lib.IntN.{ℤ, pos, negsuc, nat_abs, neg_ℤ, sub_ℕ, ◌+ℤ◌, ◌-ℤ◌, ◌*ℤ◌}
use lib.Signed.{◌≤ℤ◌, ◌<ℤ◌, lt_z, lt_z_no}
use lib.Dec.{T, ltb, leb→le, le→leb, ltb→lt, lt→ltb}
use borrow.Author.Tests.{ltb-true, ltb-false}
use mir.Syntax.{Width}
use mir.Val.{SFits, hbits}
use Rattle.field.specs.Parts.{up, down}

-- the parts of a difference, a sum, an opposite and a product
pub up_down_sub : (a b : ℕ) → up (sub_ℕ a b) + b ≡ a + down (sub_ℕ a b)
up_down_sub a b = go (ltb a b) refl
  where
    go : (t : Bool) → ltb a b ≡ t → up (cond t (negsuc (b - suc a)) (pos (a - b))) + b ≡ a + down (cond t (negsuc (b - suc a)) (pos (a - b)))
    go true e = omega (arith, ltb-true a b e)
    go false e = omega (arith, ltb-false a b e)

pub up_down_add : (a b : ℤ) → up (a +ℤ b) + (down a + down b) ≡ up a + up b + down (a +ℤ b)
up_down_add (pos a) (pos b) = omega arith
up_down_add (pos a) (negsuc b) = omega (arith, up_down_sub a (suc b))
up_down_add (negsuc a) (pos b) = omega (arith, up_down_sub b (suc a))
up_down_add (negsuc a) (negsuc b) = omega arith

pub up_neg : (a : ℤ) → up (neg_ℤ a) ≡ down a
up_neg (pos zero) = refl
up_neg (pos (suc n)) = refl
up_neg (negsuc n) = refl

pub down_neg : (a : ℤ) → down (neg_ℤ a) ≡ up a
down_neg (pos zero) = refl
down_neg (pos (suc n)) = refl
down_neg (negsuc n) = refl

pub up_mul : (a b : ℤ) → up (a *ℤ b) ≡ up a * up b + down a * down b
up_mul (pos a) (pos b) = omega arith
up_mul (pos a) (negsuc b) = omega (arith, up_neg (pos (a * suc b)))
up_mul (negsuc a) (pos b) = omega (arith, up_neg (pos (suc a * b)))
up_mul (negsuc a) (negsuc b) = omega arith

pub down_mul : (a b : ℤ) → down (a *ℤ b) ≡ up a * down b + down a * up b
down_mul (pos a) (pos b) = omega arith
down_mul (pos a) (negsuc b) = omega (arith, down_neg (pos (a * suc b)))
down_mul (negsuc a) (pos b) = omega (arith, down_neg (pos (suc a * b)))
down_mul (negsuc a) (negsuc b) = omega arith

pub abs_parts : (a : ℤ) → nat_abs a ≡ up a + down a
abs_parts (pos n) = omega arith
abs_parts (negsuc n) = omega arith

-- one of the two parts is 0
pub one_part : (a : ℤ) → (up a ≡ 0) ⊎ (down a ≡ 0)
one_part (pos n) = inr refl
one_part (negsuc n) = inl refl

-- equations, orders and ranges, by the parts
pub eq_of_parts : (a b : ℤ) → up a + down b ≡ up b + down a → a ≡ b
eq_of_parts (pos a) (pos b) e = ap pos (omega arith)
eq_of_parts (pos a) (negsuc b) e = absurd (omega arith)
eq_of_parts (negsuc a) (pos b) e = absurd (omega arith)
eq_of_parts (negsuc a) (negsuc b) e = ap negsuc (omega arith)

pub le_of_parts : (a b : ℤ) → up a + down b ≤ up b + down a → a ≤ℤ b
le_of_parts (pos a) (pos b) h = record { le = le→leb a b (omega arith) }
le_of_parts (pos a) (negsuc b) h = absurd (omega arith)
le_of_parts (negsuc a) (pos b) h = record { le = tt }
le_of_parts (negsuc a) (negsuc b) h = record { le = le→leb b a (omega arith) }

pub parts_of_le : {a b : ℤ} → a ≤ℤ b → up a + down b ≤ up b + down a
parts_of_le {a = pos a} {b = pos b} h = omega (arith, leb→le a b h.le)
parts_of_le {a = pos a} {b = negsuc b} h = absurd h.le
parts_of_le {a = negsuc a} {b = pos b} h = omega arith
parts_of_le {a = negsuc a} {b = negsuc b} h = omega (arith, leb→le b a h.le)

pub lt_of_parts : (a b : ℤ) → up a + down b < up b + down a → a <ℤ b
lt_of_parts (pos a) (pos b) h = record { lt = lt→ltb a b (omega arith) }
lt_of_parts (pos a) (negsuc b) h = absurd (omega arith)
lt_of_parts (negsuc a) (pos b) h = record { lt = tt }
lt_of_parts (negsuc a) (negsuc b) h = record { lt = lt→ltb b a (omega arith) }

pub parts_of_lt : {a b : ℤ} → a <ℤ b → up a + down b < up b + down a
parts_of_lt {a = pos a} {b = pos b} h = omega (arith, ltb→lt a b h.lt)
parts_of_lt {a = pos a} {b = negsuc b} h = absurd h.lt
parts_of_lt {a = negsuc a} {b = pos b} h = omega arith
parts_of_lt {a = negsuc a} {b = negsuc b} h = omega (arith, ltb→lt b a h.lt)

-- what a test tells
pub parts_of_lt_z : (a b : ℤ) → lt_z a b ≡ true → up a + down b < up b + down a
parts_of_lt_z a b e = parts_of_lt {a = a} {b = b} (record { lt = subst T (sym e) tt })

pub parts_of_not_lt_z : (a b : ℤ) → lt_z a b ≡ false → up b + down a ≤ up a + down b
parts_of_not_lt_z a b e = parts_of_le (lt_z_no {a = a} {b = b} (subst (λ (t : Bool). T (not t)) (sym e) tt))

pub sfits_of_parts : (w : Width) (z : ℤ) → up z < 2 ^ hbits w → down z ≤ 2 ^ hbits w → SFits w z
sfits_of_parts w (pos n) h k = record { sfits = h }
sfits_of_parts w (negsuc n) h k = record { sfits = k }

pub parts_of_sfits : {w : Width} {z : ℤ} → SFits w z → (up z < 2 ^ hbits w) × (down z ≤ 2 ^ hbits w)
parts_of_sfits {z = pos n} f = omega arith
parts_of_sfits {z = negsuc n} f = omega arith

pub sfits_of_abs : (w : Width) (z : ℤ) → nat_abs z < 2 ^ hbits w → SFits w z
sfits_of_abs w z h = sfits_of_parts w z (omega (arith, abs_parts z)) (omega (arith, abs_parts z))

pub abs_of_sfits : {w : Width} {z : ℤ} → SFits w z → nat_abs z ≤ 2 ^ hbits w
abs_of_sfits {z = pos n} f = omega arith
abs_of_sfits {z = negsuc n} f = omega arith

pub abs_neg : (a : ℤ) → nat_abs (neg_ℤ a) ≡ nat_abs a
abs_neg a = omega (arith, abs_parts a, abs_parts (neg_ℤ a), up_neg a, down_neg a)

-- What `omega` is handed for signed numbers: with it a hypothesis or a goal `a ≤ℤ b`, `a <ℤ b`, a goal `a ≡ b`, a test's `lt_z a b ≡ t` and `SFits w z` are read by the numbers' parts and sizes. Of each sum `a +ℤ b` that it is to see through, list `up_down_add a b` besides, of a size `abs_parts a`, of an opposite `up_neg a` and `down_neg a`.
pub ruleset int = (arith, parts_of_le, parts_of_lt, parts_of_lt_z, parts_of_not_lt_z, le_of_parts, lt_of_parts, eq_of_parts, abs_of_sfits, sfits_of_abs)

pub abs_add : (a b : ℤ) → nat_abs (a +ℤ b) ≤ nat_abs a + nat_abs b
abs_add a b = ⊎_elim (λ e. omega (arith, abs_parts a, abs_parts b, abs_parts (a +ℤ b), up_down_add a b)) (λ e. omega (arith, abs_parts a, abs_parts b, abs_parts (a +ℤ b), up_down_add a b)) (one_part (a +ℤ b))

pub abs_sub : (a b : ℤ) → nat_abs (a -ℤ b) ≤ nat_abs a + nat_abs b
abs_sub a b = omega (arith, abs_add a (neg_ℤ b), abs_neg b)

-- a difference of two numbers, by which is the greater, and a negative number by its size
pub sub_up : (a b : ℕ) → b ≤ a → pos a -ℤ pos b ≡ pos (a - b)
sub_up a b h = omega (int, up_down_add (pos a) (neg_ℤ (pos b)), up_neg (pos b), down_neg (pos b))

pub sub_down : (a b : ℕ) → a ≤ b → pos a -ℤ pos b ≡ neg_ℤ (pos (b - a))
sub_down a b h =
    omega (int, up_down_add (pos a) (neg_ℤ (pos b)), up_neg (pos b), down_neg (pos b), up_neg (pos (b - a)), down_neg (pos (b - a)))

pub negative : (z : ℤ) → lt_z z (pos 0) ≡ true → pos 0 -ℤ z ≡ pos (nat_abs z)
negative z h =
    ⊎_elim (λ e. omega (int, up_down_add (pos 0) (neg_ℤ z), up_neg z, down_neg z, abs_parts z)) (λ e. omega (int, up_down_add (pos 0) (neg_ℤ z), up_neg z, down_neg z, abs_parts z)) (one_part z)

pub negated : (z : ℤ) → lt_z z (pos 0) ≡ true → z ≡ neg_ℤ (pos (nat_abs z))
negated z h =
    ⊎_elim (λ e. omega (int, up_neg (pos (nat_abs z)), down_neg (pos (nat_abs z)), abs_parts z)) (λ e. omega (int, up_neg (pos (nat_abs z)), down_neg (pos (nat_abs z)), abs_parts z)) (one_part z)

pub not_negative : (z : ℤ) → lt_z z (pos 0) ≡ false → z ≡ pos (nat_abs z)
not_negative z h = ⊎_elim (λ e. omega (int, abs_parts z)) (λ e. omega (int, abs_parts z)) (one_part z)

-- which part a number has, by a test of whether it is below 0
pub parts_negative : (z : ℤ) → lt_z z (pos 0) ≡ true → (up z ≡ 0) × (down z ≡ nat_abs z)
parts_negative (pos n) h = absurd (omega int)
parts_negative (negsuc n) h = (refl, refl)

pub parts_not_negative : (z : ℤ) → lt_z z (pos 0) ≡ false → (up z ≡ nat_abs z) × (down z ≡ 0)
parts_not_negative (pos n) h = (refl, refl)
parts_not_negative (negsuc n) h = absurd (omega int)
