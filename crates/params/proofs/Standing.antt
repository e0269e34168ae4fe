-- Laws of `stands_in`: one bucket an array. They hold of any positions g, a flow's or those that the code keeps.
use mathlib.Core.Path.{◌≡◌, sym, ap, ◌∙◌}
use mathlib.Core.Bool.{true, false, ◌&&◌}
use Prim.Native.Nat.{ℕ, ◌+◌, ◌*◌, ◌/◌, ◌%◌, ◌≤◌, ◌<◌}
use native.Mathlib.Nat.{div-eq_of_lt-le, le-div_iff_mul-le, mod-add-div', mul-le-mul_right, suc-mul}
use native.Mathlib.Decide.{ℕ_discrete}
use native.Mathlib.Omega.{arith}
use borrow.Author.Tests.{eq-eqb, ne_eqb, lt-ltb, le-ltb}
use lib.Dec.{eqb}
use Rattle.params.specs.declared.params.Params.{Params}
use Rattle.params.specs.Params.{good_dimensions}
use Rattle.params.specs.Positions.{stand, stands_in, sketched_stands}
use Rattle.params.proofs.Rules.{dimensions}

-- the array of a bucket
array_of : (m i k : ℕ) → i * m ≤ k → k < i * m + m → k / m ≡ i
array_of m i k h l = div-eq_of_lt-le {k = i} m {m = k} h (omega (arith, suc-mul i m))

-- within the array that i others stand before, the one bucket is at its position
pub standing_in : (d m : ℕ) (g : ℕ → ℕ) (i k : ℕ) → i < d → i * m ≤ k → k < i * m + m → stands_in d m g k ≡ eqb k (i * m + g i)
unfolding stands_in
standing_in d m g i k low h l = rw (array_of m i k h l, lt-ltb i d low) (go (ℕ_discrete k (i * m + g i)))
  where
    rest : k % m + i * m ≡ k
    rest = ap (λ (n : ℕ). k % m + n * m) (sym (array_of m i k h l)) ∙ mod-add-div' k m

    go : Dec (k ≡ i * m + g i) → eqb (g i) (k % m) ≡ eqb k (i * m + g i)
    go (yes p) = eq-eqb (g i) (k % m) (omega (arith, rest)) ∙ sym (eq-eqb k (i * m + g i) p)
    go (no q) = ne_eqb (g i) (k % m) (λ e. q (omega (arith, rest))) ∙ sym (ne_eqb k (i * m + g i) q)

-- past the last array nothing stands
pub standing_past : (d m : ℕ) (g : ℕ → ℕ) (k : ℕ) → 1 ≤ m → d * m ≤ k → stands_in d m g k ≡ false
unfolding stands_in
standing_past d m g k low h = rw (le-ltb (k / m) d ((le-div_iff_mul-le low).1 h))

-- the two as the code finds them, where the dimensions keep the rules: t is the bucket of what is sketched, x in the array that i others stand before
module _ (P : Params) (x k i : ℕ) (good : good_dimensions P ≡ true) where
  pub stands_in_lem : {t : ℕ} → i < P.d → i * P.m ≤ k → k < i * P.m + P.m → t ≡ i * P.m + stand P i x → eqb k t ≡ (good_dimensions P && sketched_stands P x k)
  stands_in_lem low h l e = rw (good, e) (sym (standing_in P.d P.m (λ j. stand P j x) i k low h l))

  pub stands_nowhere : P.d ≤ i → i * P.m ≤ k → false ≡ (good_dimensions P && sketched_stands P x k)
  stands_nowhere low h =
      rw good
      (sym
      (standing_past P.d P.m (λ j. stand P j x) k (dimensions P good).m_low
      (omega (arith, mul-le-mul_right {m = P.d} {n = i} P.m low))))
