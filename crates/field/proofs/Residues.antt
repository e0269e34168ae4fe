-- Laws of the residue of a signed number, over any modulus above 0.
use mathlib.Core.Path.{◌≡◌, refl, sym, ap, ◌∙◌}
use Prim.Native.Nat.{ℕ, zero, suc, ◌+◌, ◌-◌, ◌*◌, ◌/◌, ◌%◌, ◌≤◌, ◌<◌}
use native.Mathlib.Nat.{mod-lt, mod-eq_of_lt, mod-add-div', mod-add-mod, add-mod-mod, zero-mod}
use native.Mathlib.Omega.{arith}
use lib.IntN.{ℤ, pos, negsuc, nat_abs, neg_ℤ, ◌+ℤ◌, ◌-ℤ◌, ◌*ℤ◌}
use Rattle.field.specs.Parts.{up, down}
use Rattle.field.specs.Residue.{residue}
use Rattle.field.proofs.Parts.{up_down_add, up_neg, down_neg, up_mul, down_mul}
use Rattle.field.proofs.Remainders.{same_rest, rest_same, rest_is, add_rest_cancel}

-- modulo 0 every residue is 0
pub residue_none : (p : ℕ) (z : ℤ) → p ≡ 0 → residue p z ≡ 0
unfolding residue
residue_none zero z e = refl
residue_none (suc q) z e = absurd (omega arith)

pub residue_zero : (p : ℕ) → residue p (pos 0) ≡ 0
unfolding residue
residue_zero zero = refl
residue_zero (suc q) = zero-mod (suc q)

-- the two products of signed numbers r and s with r + d ≡ u and s + e ≡ v modulo p
mul_parts : (p r d u k l s e v m n : ℕ) → r + d + k * p ≡ u + l * p → s + e + m * p ≡ v + n * p
    → (r * s + (u * e + d * v)) % p ≡ (u * v + d * e) % p
mul_parts p r d u k l s e v m n x y =
    same_rest p (r * s + (u * e + d * v)) (u * v + d * e) (d * n + k * s + u * m) (d * m + l * s + u * n)
    (omega (arith, ap (λ (q : ℕ). d * q) y, ap (λ (q : ℕ). q * s) x, ap (λ (q : ℕ). u * q) y))

-- the definition's two cases
pub residue_pos : (p : ℕ) → 0 < p → (n : ℕ) → residue p (pos n) ≡ n % p
unfolding residue
residue_pos zero h n = absurd (omega arith)
residue_pos (suc q) h n = refl

pub residue_negsuc : (p : ℕ) → 0 < p → (n : ℕ) → residue p (negsuc n) ≡ p - suc (n % p)
unfolding residue
residue_negsuc zero h n = absurd (omega arith)
residue_negsuc (suc q) h n = omega arith

module _ (p : ℕ) (h : 0 < p) where
  pub residue_below : (z : ℤ) → residue p z < p
  residue_below (pos n) = rw (residue_pos p h n) (mod-lt n h)
  residue_below (negsuc n) = omega (arith, residue_negsuc p h n)

  -- it differs from z by a multiple of p, and is the only number below p that does
  pub residue_is : (z : ℤ) → (residue p z + down z) % p ≡ up z % p
  residue_is (pos n) = same_rest p _ _ (n / p) 0 (omega (arith, residue_pos p h n, mod-add-div' n p))
  residue_is (negsuc n) =
      same_rest p _ _ 0 (suc (n / p)) (omega (arith, residue_negsuc p h n, mod-add-div' n p, mod-lt n h))

  pub residue_only : (z : ℤ) (r : ℕ) → r < p → (r + down z) % p ≡ up z % p → residue p z ≡ r
  residue_only z r l e =
      sym (mod-eq_of_lt (residue_below z))
      ∙ add_rest_cancel (residue p z) r (down z) p (residue_is z ∙ sym e)
      ∙ mod-eq_of_lt l

  -- a number below p is its own residue, and so is a residue
  pub residue_own : (n : ℕ) → n < p → residue p (pos n) ≡ n
  residue_own n l = residue_pos p h n ∙ mod-eq_of_lt l

  pub residue_twice : (z : ℤ) → residue p (pos (residue p z)) ≡ residue p z
  residue_twice z = residue_own (residue p z) (residue_below z)

  -- the residue of a sum, of a product, of the opposite and of a difference
  pub residue_add : (a b : ℤ) → residue p (a +ℤ b) ≡ (residue p a + residue p b) % p
  residue_add a b =
      residue_only (a +ℤ b) ((residue p a + residue p b) % p) (mod-lt (residue p a + residue p b) h)
      (mod-add-mod (residue p a + residue p b) p (down (a +ℤ b))
      ∙ same_rest p _ _ (up a / p + up b / p) ((residue p a + down a) / p + (residue p b + down b) / p)
      (omega (arith, up_down_add a b, rest_same p _ _ (residue_is a), rest_same p _ _ (residue_is b))))

  pub residue_mul : (a b : ℤ) → residue p (a *ℤ b) ≡ (residue p a * residue p b) % p
  residue_mul a b =
      residue_only (a *ℤ b) ((residue p a * residue p b) % p) (mod-lt (residue p a * residue p b) h)
      (mod-add-mod (residue p a * residue p b) p (down (a *ℤ b))
      ∙ rw (down_mul a b, up_mul a b)
      (mul_parts p (residue p a) (down a) (up a) _ _ (residue p b) (down b) (up b) _ _
      (rest_same p _ _ (residue_is a)) (rest_same p _ _ (residue_is b))))

  pub residue_neg : (a : ℤ) → residue p (neg_ℤ a) ≡ (p - residue p a) % p
  residue_neg a =
      residue_only (neg_ℤ a) ((p - residue p a) % p) (mod-lt (p - residue p a) h)
      (mod-add-mod (p - residue p a) p (down (neg_ℤ a))
      ∙ rw (down_neg a, up_neg a)
      (same_rest p _ _ ((residue p a + down a) / p) (suc (up a / p))
      (omega (arith, residue_below a, rest_same p _ _ (residue_is a)))))

  pub residue_sub : (a b : ℤ) → residue p (a -ℤ b) ≡ (residue p a + (p - residue p b)) % p
  residue_sub a b =
      residue_add a (neg_ℤ b) ∙ ap (λ (n : ℕ). (residue p a + n) % p) (residue_neg b) ∙ add-mod-mod (residue p a) (p - residue p b) p

  -- a number that has p in it once
  pub residue_once : (n r : ℕ) → r + p ≡ n → r < p → residue p (pos n) ≡ r
  residue_once n r e l = residue_pos p h n ∙ sym (rest_is 1 r n p (omega arith) l)

  -- a summand may be replaced by another with its residue
  pub residue_add_same : (a b c : ℤ) → residue p a ≡ residue p b → residue p (a +ℤ c) ≡ residue p (b +ℤ c)
  residue_add_same a b c e =
      residue_add a c ∙ ap (λ (n : ℕ). (n + residue p c) % p) e ∙ sym (residue_add b c)

  -- a number other than 0 whose size is below p has a residue other than 0
  pub residue_nonzero : (z : ℤ) → 0 < nat_abs z → nat_abs z < p → 0 < residue p z
  residue_nonzero (pos n) l u = rw (residue_own n u) l
  residue_nonzero (negsuc n) l u =
      let own : n % p ≡ n = mod-eq_of_lt (omega arith) in
      omega (arith, residue_negsuc p h n)

-- the opposite of a number whose residue is 0, and of one whose residue is not
pub opposite_of_multiple : (p n : ℕ) → residue p (pos n) ≡ 0 → residue p (neg_ℤ (pos n)) ≡ 0
opposite_of_multiple zero n e = residue_none zero (neg_ℤ (pos n)) refl
opposite_of_multiple (suc q) n e =
    residue_neg (suc q) (omega arith) (pos n) ∙ ap (λ (r : ℕ). (suc q - r) % suc q) e ∙ same_rest (suc q) (suc q - 0) 0 0 1 (omega arith) ∙ zero-mod (suc q)

pub opposite_of_other : (p n r : ℕ) → r ≡ residue p (pos n) → (r ≡ 0 → ⊥) → (r ≤ p) × (p - r ≡ residue p (neg_ℤ (pos n)))
opposite_of_other zero n r e d = absurd (d (e ∙ residue_none zero (pos n) refl))
opposite_of_other (suc q) n r e d =
    let low : residue (suc q) (pos n) < suc q = residue_below (suc q) (omega arith) (pos n) in (
      omega arith,
      sym (residue_neg (suc q) (omega arith) (pos n) ∙ ap (λ (s : ℕ). (suc q - s) % suc q) (sym e) ∙ mod-eq_of_lt (omega arith)),
    )
