-- Where a flow stands: where what is sketched for it does.
use Rattle.std.specs.Prelude.{Bool, not, ◌&&◌, ◌≡◌, List, ℕ, ◌+◌, ◌-◌, ◌*◌, ◌/◌, ◌%◌, ◌≤◌, ◌<◌, eqb, ltb, leb, get_or}
use Rattle.params.specs.declared.params.Params.{Params}
use Rattle.params.specs.declared.answers.Refusal.TheVariants.{Param, Flow}
use Rattle.params.specs.Answers.{Answer, Done, refuse_if}
use Rattle.params.specs.Lists.{touched}
use Rattle.params.specs.Params.{prime_of, is_flow, good_dimensions, good_params}
use Rattle.params.specs.Sketched.{sketched}

-- where x, which is what is sketched for a flow, stands in the array that i others stand before
unfoldable pub stand : Params → ℕ → ℕ → ℕ
stand P i x = (get_or P.a i 0 * x + get_or P.b i 0) % prime_of P % P.m

-- the index of its bucket in array i; arrays count from 1
abbrev pub bucket_of : Params → ℕ → ℕ → ℕ
bucket_of P i x = (i - 1) * P.m + stand P (i - 1) x

-- the position of flow f in array i, and the index of its bucket there
abbrev pub position : Params → ℕ → ℕ → ℕ
position P i f = stand P (i - 1) (sketched P f)

abbrev pub index : Params → ℕ → ℕ → ℕ
index P i f = bucket_of P i (sketched P f)

-- what is judged before a position or an index is given
unfoldable pub position_answer : Params → ℕ → ℕ → Answer
position_answer P i f =
    refuse_if (not (good_params P && (leb 1 i && leb i P.d))) Param 0
    (refuse_if (not (is_flow P f)) Flow 0
    Done)

-- bucket k is at position k % m of the array that k / m others stand before; of d arrays, g gives the position that is meant in each
unfoldable pub stands_in : ℕ → ℕ → (ℕ → ℕ) → ℕ → Bool
stands_in d m g k = ltb (k / m) d && eqb (g (k / m)) (k % m)

-- x stands in bucket k
abbrev pub sketched_stands : Params → ℕ → ℕ → Bool
sketched_stands P x = stands_in P.d P.m (λ i. stand P i x)

-- flow f stands in bucket k
abbrev pub stands : Params → ℕ → ℕ → Bool
stands P f = sketched_stands P (sketched P f)

-- the list ks with the position of x in each array where the dimensions keep the rules; the rest is as it was
unfoldable pub positions_in : Params → ℕ → List ℕ → List ℕ
positions_in P x ks = touched (λ i. good_dimensions P && ltb i P.d) (λ i k. stand P i x) ks

-- the list ks has the position of x in each array
pub record Positioned (P : Params) (x : ℕ) (ks : List ℕ) : Type 0 where
  pub at : (i : ℕ) → i < P.d → get_or ks i 0 ≡ stand P i x

-- d arrays of m buckets, and a position within each, over slices of these lengths
pub record WithinArrays (d m : ℕ) (ks : List ℕ) (counts idsums : ℕ) : Type 0 where
  pub d_high : d ≤ 4
  pub m_low : 1 ≤ m
  pub m_high : m ≤ 16384
  pub inside : (i : ℕ) → i < d → get_or ks i 0 < m
  pub counts_long : counts ≡ d * m
  pub idsums_long : idsums ≡ d * m
