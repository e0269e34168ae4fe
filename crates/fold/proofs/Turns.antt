-- Laws of a loop over the buckets of the folded sketch, array by array: what the code asks for, and what it finds.
use mathlib.Core.Path.{◌≡◌, sym, ap}
use mathlib.Core.Bool.{not, ◌&&◌}
use mathlib.Core.List.{List}
use Prim.Native.Nat.{ℕ, ◌+◌, ◌*◌, ◌/◌, ◌≤◌, ◌<◌}
use native.Mathlib.Nat.{mul-le-mul_left}
use native.Mathlib.Omega.{arith}
use lib.IntN.{ℤ, pos}
use lib.ListN.{length, get_or}
use borrow.Author.Tests.{le-ltb}
use Rattle.params.specs.Lists.{below, touched}
use Rattle.params.proofs.BucketNumbers.{small, stretch_within}
use Rattle.params.proofs.Changes.{up_to, untouched}
use Rattle.buckets.specs.Buckets.{in_limits, damaged_of}
use Rattle.sketch.specs.Sketch.{sketch}
use Rattle.fold.specs.Fold.{total, whole_count, whole_idsum, start_of, unfit_at, Foldable}
use Rattle.fold.proofs.Totals.{total_same}
use Rattle.fold.proofs.Sources.{quotient_of, rest_of, not_below, source_inside, never_behind, gathered_sources}

module _ {d m m2 c s : ℕ} (h : Foldable d m m2 c s) where
  -- what is small
  pub short_step : m2 ≤ m
  short_step = not_below m m2 h.m2_low h.m_low h.no_rest

  pub few_buckets : c ≤ 65536
  few_buckets = omega (arith, small d m h.d_high h.m_high, h.counts_long)

  pub fewer_buckets : d * m2 ≤ c
  fewer_buckets = omega (arith, mul-le-mul_left {m = m2} {n = m} d short_step, h.counts_long)

  -- bucket j of array i of the folded sketch
  module _ {i j : ℕ} (low : i < d) (inside : j < m2) where
    pub bucket_inside : i * m2 + j < d * m2
    bucket_inside = omega (arith, stretch_within d m2 i low)

    -- its first source
    first_source : start_of m m2 (i * m2 + j) ≡ i * m + j
    first_source = rw (quotient_of m2 i j inside, rest_of m2 i j inside)

    -- each source lies within the slices, at or behind the bucket
    sources_inside : (q : ℕ) → q < m / m2 → i * m + j + q * m2 < c
    sources_inside q e = rw (← first_source, h.counts_long) (source_inside m m2 h.m2_low h.m_low h.no_rest d (i * m2 + j) bucket_inside q e)

    sources_behind : (q : ℕ) → i * m2 + j ≤ i * m + j + q * m2
    sources_behind q = omega (arith, first_source, never_behind m m2 h.m2_low h.m_low h.no_rest (i * m2 + j) q)

    -- the whole sums are those over the sources
    pub whole_count_lem : (cs : List ℤ) → total (m / m2) (λ q. get_or cs (i * m + j + q * m2) (pos 0)) ≡ whole_count d m m2 cs (i * m2 + j)
    unfolding whole_count
    whole_count_lem cs = rw (← first_source) (sym (gathered_sources m m2 h.m2_low h.m_low h.no_rest d (i * m2 + j) (λ s. get_or cs s (pos 0)) bucket_inside))

    pub whole_idsum_lem : (ss : List ℕ) → total (m / m2) (λ q. pos (get_or ss (i * m + j + q * m2) 0)) ≡ whole_idsum d m m2 ss (i * m2 + j)
    unfolding whole_idsum
    whole_idsum_lem ss = rw (← first_source) (sym (gathered_sources m m2 h.m2_low h.m_low h.no_rest d (i * m2 + j) (λ s. pos (get_or ss s 0)) bucket_inside))

    -- what was stored in the buckets before it has spoilt no source
    pub unspoilt : {A : Type 0} (z : A) (g : ℕ → A → A) (f : A → ℤ) (xs : List A) → length xs ≡ c → (ys : List A) → ys ≡ touched (up_to (i * m2 + j)) g xs
        → total (m / m2) (λ q. f (get_or ys (i * m + j + q * m2) z)) ≡ total (m / m2) (λ q. f (get_or xs (i * m + j + q * m2) z))
    unspoilt z g f xs long ys e =
        total_same (m / m2) _ _ (λ q r. ap f (rw e (untouched (up_to (i * m2 + j)) g xs (i * m + j + q * m2) z (omega (arith, sources_inside q r, long)) (le-ltb (i * m + j + q * m2) (i * m2 + j) (sources_behind q)))))

    -- whether it is unfit
    pub unfit_lem : (cs : List ℤ) (ss : List ℕ) → unfit_at d m m2 (sketch cs ss) (i * m2 + j)
        ≡ not (below (m / m2) (λ q. not (damaged_of cs ss (i * m + j + q * m2))) && in_limits (total (m / m2) (λ q. get_or cs (i * m + j + q * m2) (pos 0))))
    unfolding unfit_at
    unfit_lem cs ss = rw (whole_count_lem cs, first_source)
