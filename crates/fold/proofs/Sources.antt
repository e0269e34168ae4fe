-- Where the buckets that go into one stand: bucket k of the folded sketch has m / m2 sources, in one array, each m2 behind the one before it.
use mathlib.Core.Path.{◌≡◌, sym, ap, ap₂, ◌∙◌}
use mathlib.Core.Bool.{Bool, cond}
use Prim.Native.Nat.{ℕ, suc, ◌+◌, ◌*◌, ◌/◌, ◌%◌, ◌≤◌, ◌<◌}
use native.Mathlib.Nat.{mod-lt, mod-eq_of_lt, mod-add-div', mul-add-div_right, mul-add-mod_self_right, add-mul-mod_self_right, div-eq_of_lt, div-lt_iff_lt-mul, div-mul_cancel, dvd_of_mod-eq-zero, le_of_dvd, mul-le-mul_left, mul-le-mul_right, suc-mul}
use native.Mathlib.Omega.{arith}
use borrow.Author.Tests.{eq-eqb, ne_eqb}
use lib.Dec.{eqb}
use lib.IntN.{ℤ, pos}
use Rattle.params.proofs.BucketNumbers.{stretch_within}
use Rattle.fold.specs.Fold.{total, target, gathered, start_of}
use Rattle.fold.proofs.Totals.{total_same, total_at}

-- bucket r of the array that q others stand before, by its index
pub quotient_of : (n q r : ℕ) → r < n → (q * n + r) / n ≡ q
quotient_of n q r l = mul-add-div_right (omega arith) q r ∙ omega (arith, div-eq_of_lt l)

pub rest_of : (n q r : ℕ) → r < n → (q * n + r) % n ≡ r
rest_of n q r l = mul-add-mod_self_right q n r ∙ mod-eq_of_lt l

-- an index has one array and one position
pub apart : (n q r k : ℕ) → r < n → q * n + r ≡ k → (q ≡ k / n) × (r ≡ k % n)
apart n q r k l e = (sym (quotient_of n q r l) ∙ ap (λ (x : ℕ). x / n) e, sym (rest_of n q r l) ∙ ap (λ (x : ℕ). x % n) e)

-- a bucket of the sketch goes to one of the folded sketch
pub target_inside : (d m m2 i : ℕ) → 1 ≤ m → 1 ≤ m2 → i < d * m → target m m2 i < d * m2
unfolding target
target_inside d m m2 i m_low low l =
    omega (arith, mod-lt (i % m) low, stretch_within d m2 (i / m) ((div-lt_iff_lt-mul {k = m} {x = i} {y = d} m_low).1 l))

module _ (m m2 : ℕ) (low : 1 ≤ m2) (m_low : 1 ≤ m) (whole : m % m2 ≡ 0) where
  -- m is m / m2 times m2, and not below it
  pub times : m / m2 * m2 ≡ m
  times = div-mul_cancel m2 (dvd_of_mod-eq-zero m2 whole)

  pub not_below : m2 ≤ m
  not_below = le_of_dvd m_low (dvd_of_mod-eq-zero m2 whole)

  -- position j + q * m2 lies within the array
  within_array : (j q : ℕ) → j < m2 → q < m / m2 → j + q * m2 < m
  within_array j q l h = omega (arith, times, suc-mul q m2, mul-le-mul_right {m = suc q} {n = m / m2} m2 h)

  -- where the bucket at position v of the array that i others stand before goes
  pub goes_to : (i v : ℕ) → v < m → target m m2 (i * m + v) ≡ i * m2 + v % m2
  unfolding target
  goes_to i v l = ap₂ (λ (a b : ℕ). a * m2 + b % m2) (quotient_of m i v l) (rest_of m i v l)

  -- each of bucket k's sources goes there
  pub source_goes : (k q : ℕ) → q < m / m2 → target m m2 (start_of m m2 k + q * m2) ≡ k
  source_goes k q h =
      ap (target m m2) (omega arith)
      ∙ goes_to (k / m2) (k % m2 + q * m2) (within_array (k % m2) q (mod-lt k low) h)
      ∙ ap (λ (x : ℕ). k / m2 * m2 + x) (add-mul-mod_self_right (k % m2) q m2 ∙ mod-eq_of_lt (mod-lt k low))
      ∙ omega (arith, mod-add-div' k m2)

  -- and what goes there is one of them
  pub goes_source : (k s : ℕ) → target m m2 s ≡ k → (s % m / m2 < m / m2) × (s ≡ start_of m m2 k + s % m / m2 * m2)
  unfolding target
  goes_source k s e =
      let h = apart m2 (s / m) (s % m % m2) k (mod-lt (s % m) low) e in
      let same : s / m * m ≡ k / m2 * m = ap (λ (i : ℕ). i * m) h.0 in (
        (div-lt_iff_lt-mul {k = m2} {x = s % m} {y = m / m2} low).1 (omega (arith, times, mod-lt s m_low)),
        omega (arith, mod-add-div' s m, mod-add-div' (s % m) m2, same, h.1),
      )

  -- a source lies within the sketch, and none lies before its target: what was stored below k is not wanted any more
  module _ (d k : ℕ) (inside : k < d * m2) where
    pub array_below : k / m2 < d
    array_below = (div-lt_iff_lt-mul {k = m2} {x = k} {y = d} low).1 inside

    pub source_inside : (q : ℕ) → q < m / m2 → start_of m m2 k + q * m2 < d * m
    source_inside q h = omega (arith, within_array (k % m2) q (mod-lt k low) h, stretch_within d m (k / m2) array_below)

  pub never_behind : (k q : ℕ) → k ≤ start_of m m2 k + q * m2
  never_behind k q = omega (arith, mod-add-div' k m2, mul-le-mul_left {m = m2} {n = m} (k / m2) not_below)

  -- what is gathered in bucket k is the sum over its sources
  pub gathered_sources : (d k : ℕ) (t : ℕ → ℤ) → k < d * m2 → gathered (d * m) (target m m2) t k ≡ total (m / m2) (λ q. t (start_of m m2 k + q * m2))
  unfolding gathered
  gathered_sources d k t l =
      total_at (m / m2) (d * m) (λ q. start_of m m2 k + q * m2) (λ s. cond (eqb (target m m2 s) k) (t s) (pos 0))
      (source_inside d k l)
      (λ p q h. omega (arith, suc-mul p m2, mul-le-mul_right {m = suc p} {n = q} m2 h))
      (λ s h miss. ap (λ (b : Bool). cond b (t s) (pos 0)) (ne_eqb (target m m2 s) k (λ e. let g = goes_source k s e in miss (s % m / m2) g.0 g.1)))
      ∙ total_same (m / m2) _ _ (λ q h. ap (λ (b : Bool). cond b (t (start_of m m2 k + q * m2)) (pos 0)) (eq-eqb (target m m2 (start_of m m2 k + q * m2)) k (source_goes k q h)))
