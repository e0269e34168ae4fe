-- Inverses modulo a prime, and Euclid's lemma. With p = q * a + r, the numbers a * (p - q) and r leave one rest, so 1 / a is (p - q) / r, and r is below a; it is never 0 where p is prime.
use mathlib.Core.Path.{◌≡◌, refl, sym, ap, ◌∙◌}
use mathlib.Core.Bool.{Bool, true, false}
use mathlib.Core.Logic.{◌⊎◌, inl, inr, ⊎_elim}
use Prim.Native.Nat.{ℕ, zero, suc, ◌+◌, ◌-◌, ◌*◌, ◌/◌, ◌%◌, ◌≤◌, ◌<◌}
use native.Mathlib.Nat.{mod-lt, mod-eq_of_lt, mod-add-div', div-le_self, mul-zero, one-mul, mul_assoc, zero-mod, eq-zero-or-pos}
use native.Mathlib.Omega.{arith}
use lib.IntN.{pos}
use lib.Dec.{leb}
use borrow.Author.Tests.{le-leb, lt-leb, leb-true, leb-false}
use Rattle.field.specs.Prime.{Prime}
use Rattle.field.specs.Residue.{residue}
use Rattle.field.specs.Flow.{inverse_in, inverse}
use Rattle.field.proofs.Remainders.{same_rest, mul_rest_left, mul_rest_right, undo}
use Rattle.field.proofs.Residues.{residue_none, residue_pos, residue_below}

-- the step, for p = q * a + r and d = p - q
step : (p a q r d i : ℕ) → r + q * a ≡ p → d + q ≡ p → (a * (d * i)) % p ≡ (r * i) % p
step p a q r d i e f =
    same_rest p (a * (d * i)) (r * i) i (a * i) (omega (arith, ap (λ (n : ℕ). n * i) e, ap (λ (n : ℕ). a * i * n) f))

-- one step of the definition, where it is known whether a is above 1
opened : (p fuel a : ℕ) (b : Bool) → leb a 1 ≡ b
    → inverse_in (suc fuel) p a ≡ elim b [ true ↦ a | false ↦ ((p - p / a) * inverse_in fuel p (p % a)) % p ]
unfolding inverse_in
opened p fuel a b e =
    ap (λ (t : Bool). elim t [ true ↦ a | false ↦ ((p - p / a) * inverse_in fuel p (p % a)) % p ]) e

-- a steps are enough, and more change nothing
enough : (p f g a : ℕ) → a ≤ f → a ≤ g → inverse_in f p a ≡ inverse_in g p a
unfolding inverse_in
enough p zero zero a u v = refl
enough p zero (suc g) a u v =
    let none : 0 ≡ a = omega arith in
    none ∙ sym (opened p g a true (le-leb a 1 (omega arith)))
enough p (suc f) zero a u v =
    let none : a ≡ 0 = omega arith in
    opened p f a true (le-leb a 1 (omega arith)) ∙ none
enough p (suc f) (suc g) a u v = go (leb a 1) refl (enough p f g (p % a))
  where
    go : (b : Bool) → leb a 1 ≡ b → (p % a ≤ f → p % a ≤ g → inverse_in f p (p % a) ≡ inverse_in g p (p % a)) → inverse_in (suc f) p a ≡ inverse_in (suc g) p a
    go true e ih = opened p f a true e ∙ sym (opened p g a true e)
    go false e ih =
        let above : 1 < a = leb-false a 1 e in
        let less : p % a < a = mod-lt p (omega arith) in
        opened p f a false e
        ∙ ap (λ (n : ℕ). ((p - p / a) * n) % p) (ih (omega arith) (omega arith))
        ∙ sym (opened p g a false e)

-- what is left of the work at a: nothing at 0 and 1, else one turn and what is left at p % a
inverse_small : (p a : ℕ) → a ≤ 1 → inverse_in a p a ≡ a
unfolding inverse_in
inverse_small p zero l = refl
inverse_small p (suc a) l = opened p a (suc a) true (le-leb (suc a) 1 l)

inverse_turn : (p a : ℕ) → 1 < a → inverse_in a p a ≡ ((p - p / a) * inverse_in (p % a) p (p % a)) % p
inverse_turn p zero l = absurd (omega arith)
inverse_turn p (suc a) l =
    let less : p % suc a < suc a = mod-lt p (omega arith) in
    opened p a (suc a) false (lt-leb (suc a) 1 l)
    ∙ ap (λ (n : ℕ). ((p - p / suc a) * n) % p) (enough p a (p % suc a) (p % suc a) (omega arith) (omega arith))

inverse_in_below : (p fuel a : ℕ) → a < p → inverse_in fuel p a < p
unfolding inverse_in
inverse_in_below p zero a l = omega arith
inverse_in_below p (suc fuel) a l = go (leb a 1)
  where
    go : (b : Bool) → elim b [ true ↦ a | false ↦ ((p - p / a) * inverse_in fuel p (p % a)) % p ] < p
    go true = l
    go false = mod-lt ((p - p / a) * inverse_in fuel p (p % a)) (omega arith)

-- the loop of the code: l is what is left, x what is found; where it starts, and where it stops
pub inverse_starts : (p a l : ℕ) → l ≡ residue p (pos a) → (l ≤ p) × (0 < l → 1 < p) × ((1 * inverse_in l p l) % p ≡ inverse p a)
unfolding inverse inverse_in
inverse_starts zero a l e =
    let none : l ≡ 0 = e ∙ residue_none zero (pos a) refl in
    (omega arith, (λ h. absurd (omega arith)), rw (none, residue_none zero (pos a) refl))
inverse_starts (suc q) a l e =
    let low : residue (suc q) (pos a) < suc q = residue_below (suc q) (omega arith) (pos a) in (
      omega arith,
      (λ h. omega arith),
      rw e
          (ap (λ (n : ℕ). n % suc q) (one-mul (inverse_in (residue (suc q) (pos a)) (suc q) (residue (suc q) (pos a))))
          ∙ mod-eq_of_lt (inverse_in_below (suc q) (residue (suc q) (pos a)) (residue (suc q) (pos a)) low)),
    )

pub inverse_stops : (p x l : ℕ) → l ≤ 1 → (x * inverse_in l p l) % p ≡ (x * l) % p
inverse_stops p x l h = ap (λ (n : ℕ). (x * n) % p) (inverse_small p l h)

pub inverse_again : (p x a : ℕ) → 1 < a
    → (((x * (p - p / a)) % p) * inverse_in (p % a) p (p % a)) % p ≡ (x * inverse_in a p a) % p
inverse_again p x a l =
    mul_rest_left (x * (p - p / a)) (inverse_in (p % a) p (p % a)) p
    ∙ ap (λ (n : ℕ). n % p) (mul_assoc x (p - p / a) (inverse_in (p % a) p (p % a)))
    ∙ sym (mul_rest_right x ((p - p / a) * inverse_in (p % a) p (p % a)) p)
    ∙ ap (λ (n : ℕ). (x * n) % p) (sym (inverse_turn p a l))

module _ (p : ℕ) (prime : Prime p) where
  pub prime_pos : 0 < p
  prime_pos = omega (arith, prime.above_one)

  -- what the inverse goes on with is not 0
  rest_pos : (a : ℕ) → 1 < a → a < p → 0 < p % a
  rest_pos a h l = go (p % a) refl
    where
      go : (r : ℕ) → p % a ≡ r → 0 < r
      go zero e =
          absurd (⊎_elim (λ x. omega (arith, mod-add-div' p a, ap (λ (n : ℕ). n * a) x)) (λ x. omega arith)
          (prime.only_trivial (p / a) a (omega (arith, mod-add-div' p a))))
      go (suc r) e = omega arith

  inverse_in_solves : (fuel a : ℕ) → a ≤ fuel → 0 < a → a < p → (a * inverse_in fuel p a) % p ≡ 1
  unfolding inverse_in
  inverse_in_solves zero a u h l = omega arith
  inverse_in_solves (suc fuel) a u h l = go (leb a 1) refl (inverse_in_solves fuel (p % a))
    where
      go : (b : Bool) → leb a 1 ≡ b → (p % a ≤ fuel → 0 < p % a → p % a < p → (p % a * inverse_in fuel p (p % a)) % p ≡ 1)
          → (a * elim b [ true ↦ a | false ↦ ((p - p / a) * inverse_in fuel p (p % a)) % p ]) % p ≡ 1
      go true e ih =
          let one : a ≡ 1 = omega (arith, leb-true a 1 e) in
          rw one (mod-eq_of_lt prime.above_one)
      go false e ih =
          let above : 1 < a = leb-false a 1 e in
          let less : p % a < a = mod-lt p h in
          mul_rest_right a ((p - p / a) * inverse_in fuel p (p % a)) p
          ∙ step p a (p / a) (p % a) (p - p / a) (inverse_in fuel p (p % a)) (mod-add-div' p a) (omega (arith, div-le_self p a))
          ∙ ih (omega arith) (rest_pos a above l) (omega arith)

  -- a number that p does not divide has an inverse
  pub inverse_solves : (c : ℕ) → 0 < c % p → (c * inverse p c) % p ≡ 1
  unfolding inverse
  inverse_solves c h =
      rw (residue_pos p prime_pos c)
      (sym (mul_rest_left c (inverse_in (c % p) p (c % p)) p)
      ∙ inverse_in_solves (c % p) (c % p) (omega arith) h (mod-lt c prime_pos))

  -- a factor that p does not divide may go
  pub mul_rest_cancel : (c f g : ℕ) → 0 < c % p → (c * f) % p ≡ (c * g) % p → f % p ≡ g % p
  mul_rest_cancel c f g h e =
      sym (undo c (inverse p c) f p (inverse_solves c h))
      ∙ ap (λ (n : ℕ). (inverse p c * n) % p) e
      ∙ undo c (inverse p c) g p (inverse_solves c h)

  -- Euclid's lemma
  pub euclid : (a b : ℕ) → (a * b) % p ≡ 0 → (a % p ≡ 0) ⊎ (b % p ≡ 0)
  euclid a b e = ⊎_elim inl (λ h. inr (by_inverse h)) (eq-zero-or-pos (a % p))
    where
      by_inverse : 0 < a % p → b % p ≡ 0
      by_inverse h =
          mul_rest_cancel a b 0 h (e ∙ sym (ap (λ (n : ℕ). n % p) (mul-zero a) ∙ zero-mod p)) ∙ zero-mod p
