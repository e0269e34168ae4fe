-- The rules that parameters obey, the flows under them, and the lengths of what is lent.
use Rattle.std.specs.Prelude.{Bool, not, ◌&&◌, cond, List, [], ◌∷◌, ℕ, ◌-◌, ◌*◌, ◌≤◌, eqb, ltb, leb, get_or}
use Rattle.params.specs.declared.params.Params.{Params}
use Rattle.params.specs.declared.answers.Refusal.TheVariants.{Param, Length}
use Rattle.params.specs.Lists.{below}
use Rattle.params.specs.Answers.{Answer, Done, refuse_if}

-- 2 ^ 31 - 1, the prime of every sketch
abbrev pub prime : ℕ
prime = 2147483647

-- the prime of a sketch with these parameters, one for all: a definition that is given the parameters names its prime through them
abbrev pub prime_of : Params → ℕ
prime_of P = prime

-- the profile: a fifth pair is in use, which gives flows their fingerprints; in the plain profile both of its numbers are 0
abbrev pub fingerprinted : Params → Bool
fingerprinted P = not (eqb P.a5 0)

-- the greatest flow number: p - 1, and with fingerprints 8388606
abbrev pub most_flow : Params → ℕ
most_flow P = cond (fingerprinted P) 8388606 (prime_of P - 1)

-- the flow numbers are those from 1 on; flow 0 is nobody's
abbrev pub is_flow : Params → ℕ → Bool
is_flow P f = leb 1 f && leb f (most_flow P)

-- d arrays of m buckets
abbrev pub size : Params → ℕ
size P = P.d * P.m

-- a pair that is in use, modulo p, and one that is not
abbrev pub pair_ok : ℕ → Bool → ℕ → ℕ → Bool
pair_ok p used a b = cond used (leb 1 a && ltb a p && ltb b p) (eqb a 0 && eqb b 0)

-- pair i of the lists a and b, counted from 0, keeps the rule of its place: of d that are in use, or past them
unfoldable pub pair_at : ℕ → ℕ → List ℕ → List ℕ → ℕ → Bool
pair_at p d a b i = pair_ok p (ltb i d) (get_or a i 0) (get_or b i 0)

-- pairs i and j are equal, and the later, i, is in use
unfoldable pub twins : ℕ → List ℕ → List ℕ → ℕ → ℕ → Bool
twins d a b i j = ltb i d && (eqb (get_or a i 0) (get_or a j 0) && eqb (get_or b i 0) (get_or b j 0))

-- 2 to 4 arrays, of 1 to 16384 buckets
unfoldable pub good_dimensions : Params → Bool
good_dimensions P = leb 2 P.d && leb P.d 4 && leb 1 P.m && leb P.m 16384

-- of the pairs in use no two are equal; the fifth may equal another
unfoldable pub good_params : Params → Bool
good_params P =
    good_dimensions P
    && below 4 (pair_at (prime_of P) P.d P.a P.b)
    && below 4 (λ i. below i (λ j. not (twins P.d P.a P.b i j)))
    && pair_ok (prime_of P) (fingerprinted P) P.a5 P.b5

-- what `good_dimensions` says of the numbers
pub record Dimensions (P : Params) : Type 0 where
  pub d_low : 2 ≤ P.d
  pub d_high : P.d ≤ 4
  pub m_low : 1 ≤ P.m
  pub m_high : P.m ≤ 16384

-- pair i of P is that of Q
unfoldable pub same_pair : Params → Params → ℕ → Bool
same_pair P Q i = eqb (get_or P.a i 0) (get_or Q.a i 0) && eqb (get_or P.b i 0) (get_or Q.b i 0)

unfoldable pub same_params : Params → Params → Bool
same_params P Q =
    eqb P.d Q.d && eqb P.m Q.m && below 4 (same_pair P Q) && (eqb P.a5 Q.a5 && eqb P.b5 Q.b5)

-- the lengths of the counts and of the idsums
unfoldable pub lengths_answer : Params → ℕ → ℕ → Answer
lengths_answer P c s = refuse_if (not (eqb c (size P) && eqb s (size P))) Length 0 Done

-- the dimensions, or all of the parameters, then the lengths
unfoldable pub dimensions_answer : Params → ℕ → ℕ → Answer
dimensions_answer P c s = refuse_if (not (good_dimensions P)) Param 0 (lengths_answer P c s)

unfoldable pub lent_answer : Params → ℕ → ℕ → Answer
lent_answer P c s = refuse_if (not (good_params P)) Param 0 (lengths_answer P c s)

-- the same arrays with n buckets in each
abbrev pub resized : Params → ℕ → Params
resized P n = record { d = P.d; m = n; a = P.a; b = P.b; a5 = P.a5; b5 = P.b5 }

-- the plain profile of the same arrays
abbrev pub plain : Params → Params
plain P = record { d = P.d; m = P.m; a = P.a; b = P.b; a5 = 0; b5 = 0 }

-- what stands for parameters where there are none
abbrev pub no_params : Params
no_params = record { d = 0; m = 0; a = 0 ∷ 0 ∷ 0 ∷ 0 ∷ []; b = 0 ∷ 0 ∷ 0 ∷ 0 ∷ []; a5 = 0; b5 = 0 }
