-- What folding a sketch to m2 buckets an array answers and leaves: bucket j of each array is added into bucket j mod m2.
use Rattle.std.specs.Prelude.{Bool, not, cond, ◌&&◌, ◌≡◌, List, ℕ, zero, suc, ◌+◌, ◌*◌, ◌/◌, ◌%◌, ◌≤◌, ℤ, pos, ◌+ℤ◌, eqb, leb, length, get_or, take, Ok}
use Rattle.field.specs.Residue.{residue}
use Rattle.params.specs.declared.params.Params.{Params}
use Rattle.params.specs.declared.answers.Refusal.TheVariants.{Damage, Range, Fold}
use Rattle.params.specs.Lists.{below, from, padded}
use Rattle.params.specs.Answers.{refuse_if, refuse_at, first, kept, Answer, Done, Given, given}
use Rattle.params.specs.Params.{prime_of, size, resized, lent_answer}
use Rattle.buckets.specs.Buckets.{in_limits}
use Rattle.sketch.specs.Sketch.{Sketch, sketch, damaged_at}

-- t 0 + t 1 + .. + t (n - 1)
unfoldable pub total : ℕ → (ℕ → ℤ) → ℤ
total zero t = pos 0
total (suc n) t = total n t +ℤ t n

-- m2 is not 0 and divides m
abbrev pub divides : ℕ → ℕ → Bool
divides m2 m = leb 1 m2 && eqb (m % m2) 0

-- where bucket s goes: from position j of its array, of m buckets, to j mod m2 of the same array, of m2 buckets
unfoldable pub target : ℕ → ℕ → ℕ → ℕ
target m m2 s = s / m * m2 + s % m % m2

-- the sum of t over the numbers below n that `to` sends to k
unfoldable pub gathered : ℕ → (ℕ → ℕ) → (ℕ → ℤ) → ℕ → ℤ
gathered n to t k = total n (λ s. cond (eqb (to s) k) (t s) (pos 0))

-- the whole sum of the counts, and that of the idsums, of all buckets that go into bucket k, in d arrays of m buckets
unfoldable pub whole_count : (d m m2 : ℕ) → List ℤ → ℕ → ℤ
whole_count d m m2 cs k = gathered (d * m) (target m m2) (λ s. get_or cs s (pos 0)) k

unfoldable pub whole_idsum : (d m m2 : ℕ) → List ℕ → ℕ → ℤ
whole_idsum d m m2 ss k = gathered (d * m) (target m m2) (λ s. pos (get_or ss s 0)) k

-- the folded sketch: idsums modulo p
unfoldable pub folded : Params → ℕ → Sketch → Sketch
folded P m2 S =
    sketch
    (from 0 (P.d * m2) (whole_count P.d P.m m2 S.counts))
    (from 0 (P.d * m2) (λ k. residue (prime_of P) (whole_idsum P.d P.m m2 S.idsums k)))

-- a sketch in slices of n buckets: zeros stand behind it
unfoldable pub in_slices : ℕ → Sketch → Sketch
in_slices n S = sketch (padded n (pos 0) S.counts) (padded n 0 S.idsums)

-- the first n buckets
abbrev pub front : ℕ → Sketch → Sketch
front n S = sketch (take n S.counts) (take n S.idsums)

-- the whole sum of the counts that go into bucket k leaves the limits
unfoldable pub leaves_folded : (d m m2 : ℕ) → List ℤ → ℕ → Bool
leaves_folded d m m2 cs k = not (in_limits (whole_count d m m2 cs k))

-- of the buckets, damage is judged first, by the index in the larger sketch, and then whole sums, by that in the folded one
unfoldable pub fold_buckets_answer : Params → ℕ → Sketch → Answer
fold_buckets_answer P m2 S =
    refuse_at (size P) (damaged_at S) Damage
    (refuse_at (P.d * m2) (leaves_folded P.d P.m m2 S.counts) Range
    Done)

-- the parameters and the lengths, then m2, then the buckets
unfoldable pub fold_answer : Params → ℕ → Sketch → Answer
fold_answer P m2 S =
    first (lent_answer P (length S.counts) (length S.idsums))
    (refuse_if (not (divides m2 P.m)) Fold 0
    (fold_buckets_answer P m2 S))

-- the answer with the new parameters
abbrev pub fold_returns : Params → ℕ → Sketch → Given Params
fold_returns P m2 S = given (fold_answer P m2 S) (resized P m2)

-- S is folded to m2 buckets an array: what is returned, and the lent sketch before and after
pub record Folded (P : Params) (m2 : ℕ) (S : Sketch) (r : Given Params) (S' : Sketch) : Type 0 where
  pub answer : r ≡ fold_returns P m2 S
  pub after : S' ≡ kept r S (in_slices (size P) (folded P m2 S))

-- what a fold to the parameters Q returns
abbrev pub folded_to : Params → Given Params
folded_to Q = Ok Q

-- The last three are for the code's own functions. No public contract cites them.

-- the first of the buckets that go into bucket k: its sources stand there, m2 behind it, and so on, m / m2 of them
abbrev pub start_of : ℕ → ℕ → ℕ → ℕ
start_of m m2 k = k / m2 * m + k % m2

-- bucket k of the folded sketch has a damaged source, or a whole sum outside the limits
unfoldable pub unfit_at : (d m m2 : ℕ) → Sketch → ℕ → Bool
unfit_at d m m2 S k = not (below (m / m2) (λ q. not (damaged_at S (start_of m m2 k + q * m2))) && in_limits (whole_count d m m2 S.counts k))

-- what they ask for: small dimensions, m2 divides m, and the slices have d * m buckets
pub record Foldable (d m m2 counts idsums : ℕ) : Type 0 where
  pub d_high : d ≤ 4
  pub m_low : 1 ≤ m
  pub m_high : m ≤ 16384
  pub m2_low : 1 ≤ m2
  pub no_rest : m % m2 ≡ 0
  pub counts_long : counts ≡ d * m
  pub idsums_long : idsums ≡ d * m
