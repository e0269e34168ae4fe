-- How many buckets are not all zero, and what one take leaves.
use Rattle.std.specs.Prelude.{◌≡◌, true, cond, List, [], ◌∷◌, ℕ, ◌+◌, ◌<◌, ℤ, pos, ◌-ℤ◌, eqb, get_or, length, set}
use Rattle.field.specs.Residue.{residue}
use Rattle.params.specs.Params.{prime}
use Rattle.params.specs.Positions.{stands_in}
use Rattle.sketch.specs.Sketch.{sketch, changed_in}
use Rattle.buckets.specs.Buckets.{is_zero, in_limits}

-- 1 where a bucket is not all zero, and the number of those
unfoldable pub one_if_nonzero : ℤ → ℕ → ℕ
one_if_nonzero c s = cond (is_zero c) (cond (eqb s 0) 0 1) 1

unfoldable pub nonzero_buckets : List ℤ → List ℕ → ℕ
nonzero_buckets [] ss = 0
nonzero_buckets (c ∷ cs) [] = 0
nonzero_buckets (c ∷ cs) (s ∷ ss) = one_if_nonzero c s + nonzero_buckets cs ss

-- a sketch of n buckets with none outside its limits
pub record Sane (n : ℕ) (cs : List ℤ) (ss : List ℕ) : Type 0 where
  pub long : length cs ≡ n
  pub long_ids : length ss ≡ n
  pub counts : (k : ℕ) → in_limits (get_or cs k (pos 0)) ≡ true
  pub idsums : (k : ℕ) → get_or ss k 0 < prime

-- one bucket's part of a take, and all of a flow's
pub record MayLessen (cs : List ℤ) (ss : List ℕ) (j : ℕ) (c : ℤ) (s nonzero : ℕ) : Type 0 where
  pub inside : j < length cs
  pub inside_ids : j < length ss
  pub limits : in_limits (get_or cs j (pos 0) -ℤ c) ≡ true
  pub idsum : get_or ss j 0 < prime
  pub small : s < prime
  pub counted : nonzero ≡ nonzero_buckets cs ss

pub record Lessened (cs : List ℤ) (ss : List ℕ) (j : ℕ) (c : ℤ) (s : ℕ) (cs' : List ℤ) (ss' : List ℕ) (nonzero : ℕ) : Type 0 where
  pub counts : cs' ≡ set cs j (get_or cs j (pos 0) -ℤ c)
  pub idsums : ss' ≡ set ss j (residue prime (pos (get_or ss j 0) -ℤ pos s))
  pub counted : nonzero ≡ nonzero_buckets cs' ss'

pub record Applied (d m : ℕ) (ks : List ℕ) (c : ℤ) (s : ℕ) (cs : List ℤ) (ss : List ℕ) (cs' : List ℤ) (ss' : List ℕ) (nonzero : ℕ) : Type 0 where
  pub after : sketch cs' ss' ≡ changed_in (stands_in d m (λ i. get_or ks i 0)) true c s (sketch cs ss)
  pub counted : nonzero ≡ nonzero_buckets cs' ss'
