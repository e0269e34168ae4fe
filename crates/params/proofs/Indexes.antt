-- The buckets of what is sketched by their indexes: each lies within the sketch, and x stands in bucket k exactly where k is its bucket in some array from 1 to d.
use mathlib.Core.Path.{◌≡◌, refl, ◌∙◌}
use mathlib.Core.Bool.{true}
use Prim.Native.Nat.{ℕ, suc, ◌-◌, ◌/◌, ◌%◌, ◌≤◌, ◌<◌}
use native.Mathlib.Nat.{mod-lt, mod-add-div'}
use native.Mathlib.Omega.{arith}
use borrow.Author.Tests.{eq-eqb, ltb-true, eqb-true}
use lib.Dec.{eqb, ltb}
use Rattle.params.specs.declared.params.Params.{Params}
use Rattle.params.specs.Params.{size, Dimensions}
use Rattle.params.specs.Positions.{stand, bucket_of, stands_in, sketched_stands}
use Rattle.params.proofs.BucketNumbers.{stretch_within}
use Rattle.params.proofs.Searches.{and_true}
use Rattle.params.proofs.Standing.{standing_in}

-- a position lies within its array
pub stand_below : (P : Params) (i x : ℕ) → Dimensions P → stand P i x < P.m
unfolding stand
stand_below P i x h = mod-lt _ h.m_low

-- and so within the sketch
pub bucket_below : (P : Params) (i x : ℕ) → Dimensions P → 1 ≤ i → i ≤ P.d → bucket_of P i x < size P
bucket_below P i x h l u = omega (arith, stand_below P (i - 1) x h, stretch_within P.d P.m (i - 1) (omega arith))

pub stands_in_bucket : (P : Params) (x i : ℕ) → Dimensions P → 1 ≤ i → i ≤ P.d → sketched_stands P x (bucket_of P i x) ≡ true
stands_in_bucket P x i h l u =
    standing_in P.d P.m (λ j. stand P j x) (i - 1) (bucket_of P i x) (omega arith) (omega arith) (omega (arith, stand_below P (i - 1) x h))
    ∙ eq-eqb (bucket_of P i x) (bucket_of P i x) refl

pub bucket_where_stands : (P : Params) (x k : ℕ) → sketched_stands P x k ≡ true → (i : ℕ) × (1 ≤ i) × (i ≤ P.d) × (k ≡ bucket_of P i x)
unfolding stands_in
bucket_where_stands P x k e =
    let h = and_true (ltb (k / P.m) P.d) (eqb (stand P (k / P.m) x) (k % P.m)) e in
    let same : suc (k / P.m) - 1 ≡ k / P.m = omega arith in (
      suc (k / P.m),
      omega arith,
      omega (arith, ltb-true (k / P.m) P.d h.0),
      rw same (omega (arith, mod-add-div' k P.m, eqb-true (stand P (k / P.m) x) (k % P.m) h.1)),
    )
