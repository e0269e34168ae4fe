-- Laws of `stands_in`, array by array. They hold of any positions g, a flow's or those that the code keeps.
use mathlib.Core.Path.{◌≡◌, refl, sym, ap, ◌∙◌, fun_ext}
use mathlib.Core.Bool.{Bool, true, false, cond, ◌&&◌}
use mathlib.Core.List.{List}
use Prim.Native.Nat.{ℕ, ◌+◌, ◌*◌, ◌/◌, ◌%◌, ◌≤◌, ◌<◌}
use native.Mathlib.Nat.{div-lt_iff_lt-mul, mod-add-div', suc-mul}
use native.Mathlib.Numerals.{add-one}
use native.Mathlib.Decide.{ℕ_discrete, dec_lt}
use native.Mathlib.Omega.{arith}
use borrow.Author.Tests.{eq-eqb, ne_eqb, lt-ltb, le-ltb}
use lib.Dec.{eqb, ltb}
use lib.ListN.{get_or}
use Rattle.params.specs.Lists.{found}
use Rattle.params.specs.Positions.{stands_in, WithinArrays}
use Rattle.params.proofs.Searches.{and_false, found_first, found_nothing}
use Rattle.std.specs.Prelude.{Some, None}
use Rattle.params.proofs.BucketNumbers.{stretch_within, small}
use Rattle.params.proofs.Standing.{standing_in, standing_past}

-- one array more
pub standing_next : (m : ℕ) (g : ℕ → ℕ) (i : ℕ) → 1 ≤ m → g i < m → stands_in (i + 1) m g ≡ (λ k. cond (eqb k (i * m + g i)) true (stands_in i m g k))
unfolding stands_in
standing_next m g i low small = fun_ext (λ k. at k (dec_lt k (i * m)) (dec_lt k (i * m + m)))
  where
    at : (k : ℕ) → Dec (k < i * m) → Dec (k < i * m + m) → stands_in (i + 1) m g k ≡ cond (eqb k (i * m + g i)) true (stands_in i m g k)
    at k (yes h) d =
        let early : k / m < i = (div-lt_iff_lt-mul low).1 h in
        rw (ne_eqb k (i * m + g i) (omega arith), lt-ltb (k / m) i early, lt-ltb (k / m) (i + 1) (omega arith)) refl
    at k (no h) (yes l) =
        standing_in (i + 1) m g i k (omega arith) (omega arith) l
        ∙ go (eqb k (i * m + g i)) (standing_past i m g k low (omega arith))
      where
        go : (b : Bool) → stands_in i m g k ≡ false → b ≡ cond b true (stands_in i m g k)
        go true e = refl
        go false e = sym e
    at k (no h) (no l) =
        rw (ne_eqb k (i * m + g i) (omega arith))
        (standing_past (i + 1) m g k low (omega (arith, suc-mul i m, add-one i)) ∙ sym (standing_past i m g k low (omega arith)))

pub standing_none : (m : ℕ) (g : ℕ → ℕ) → stands_in 0 m g ≡ (λ k. false)
unfolding stands_in
standing_none m g = fun_ext (λ k. rw (le-ltb (k / m) 0 (omega arith)))

-- positions that agree in every array
pub standing_same : (d m : ℕ) (g h : ℕ → ℕ) → ((i : ℕ) → i < d → g i ≡ h i) → stands_in d m g ≡ stands_in d m h
unfolding stands_in
standing_same d m g h e = fun_ext (λ k. at k (dec_lt (k / m) d))
  where
    at : (k : ℕ) → Dec (k / m < d) → (ltb (k / m) d && eqb (g (k / m)) (k % m)) ≡ (ltb (k / m) d && eqb (h (k / m)) (k % m))
    at k (yes l) = rw (e (k / m) l)
    at k (no l) = rw (le-ltb (k / m) d (omega arith))

-- what fails at the bucket in each array fails at every bucket that stands there
standing_fails : (d m : ℕ) (g : ℕ → ℕ) (q : ℕ → Bool) (k : ℕ) → ((i : ℕ) → i < d → k ≡ i * m + g i → q k ≡ false) → (stands_in d m g k && q k) ≡ false
unfolding stands_in
standing_fails d m g q k h = at (dec_lt (k / m) d) (ℕ_discrete (g (k / m)) (k % m))
  where
    at : Dec (k / m < d) → Dec (g (k / m) ≡ k % m) → (stands_in d m g k && q k) ≡ false
    at (yes l) (yes e) = and_false (stands_in d m g k) (q k) (h (k / m) l (omega (arith, mod-add-div' k m)))
    at (yes l) (no e) = rw (lt-ltb (k / m) d l, ne_eqb (g (k / m)) (k % m) e)
    at (no l) e = rw (le-ltb (k / m) d (omega arith))

pub none_standing : (d m : ℕ) (g : ℕ → ℕ) (q : ℕ → Bool) → ((i : ℕ) → i < d → q (i * m + g i) ≡ false) → (k : ℕ) → (stands_in d m g k && q k) ≡ false
none_standing d m g q h k = standing_fails d m g q k (λ i l e. ap q e ∙ h i l)

-- where the code reaches: each of the d positions is a bucket, and no index is large
pub record Within (d m i k : ℕ) : Type 0 where
  pub few : i < 4
  pub start : i * m + m ≤ d * m
  pub bucket : i * m + k < d * m
  pub size : d * m ≤ 65536

pub reach_small : {d m c s : ℕ} {ks : List ℕ} → WithinArrays d m ks c s → d * m ≤ 65536
reach_small {d} {m} r = small d m r.d_high r.m_high

pub reach : {d m c s : ℕ} {ks : List ℕ} (i : ℕ) → WithinArrays d m ks c s → i < d → Within d m i (get_or ks i 0)
reach {d} {m} i r h =
    let end = stretch_within d m i h in
    record {
      few = omega (arith, r.d_high);
      start = end;
      bucket = omega (arith, end, r.inside i h);
      size = reach_small r;
    }

-- A scan array by array: the lowest bucket that stands there and passes q is that of the first array whose bucket passes.
pub array_found : (d m : ℕ) (g : ℕ → ℕ) (q : ℕ → Bool) (i : ℕ) → i < d → g i < m → q (i * m + g i) ≡ true → ((j : ℕ) → j < i → q (j * m + g j) ≡ false)
    → found (d * m) (λ k. stands_in d m g k && q k) ≡ Some (i * m + g i)
array_found d m g q i low small e none =
    found_first (d * m) (i * m + g i) _ (omega (arith, stretch_within d m i low))
    (rw (standing_in d m g i (i * m + g i) low (omega arith) (omega arith), eq-eqb (i * m + g i) (i * m + g i) refl) e)
    (λ k l. standing_fails d m g q k (λ j h p. ap q p ∙ none j (before j k l p (dec_lt i j))))
  where
    before : (j k : ℕ) → k < i * m + g i → k ≡ j * m + g j → Dec (i < j) → j < i
    before j k l p (yes h) = absurd (omega (arith, stretch_within j m i h))
    before j k l p (no h) = before_same j k l p (ℕ_discrete j i) (omega arith)
      where
        before_same : (j k : ℕ) → k < i * m + g i → k ≡ j * m + g j → Dec (j ≡ i) → j ≤ i → j < i
        before_same j k l p (yes e) h = absurd (omega (arith, rw e at p))
        before_same j k l p (no e) h = omega arith

pub none_found : (d m : ℕ) (g : ℕ → ℕ) (q : ℕ → Bool) → ((i : ℕ) → i < d → q (i * m + g i) ≡ false) → found (d * m) (λ k. stands_in d m g k && q k) ≡ None
none_found d m g q h = found_nothing (d * m) _ (λ k l. none_standing d m g q h k)
