-- A sketch less a take, bucket by bucket.
use mathlib.Core.Path.{◌≡◌}
use mathlib.Core.Bool.{cond}
use Prim.Native.Nat.{ℕ, ◌<◌}
use lib.IntN.{ℤ, pos, ◌-ℤ◌}
use lib.ListN.{length}
use Rattle.field.specs.Residue.{residue}
use Rattle.sketch.specs.Sketch.{Sketch, count_in, idsum_in}
use Rattle.params.proofs.Changes.{length_touched, get_d_touched}
use Rattle.walk.specs.Walk.{Rule, less}

module _ (R : Rule) (f : ℕ) (c : ℤ) (s : ℕ) (S : Sketch) where
  pub less_counts : length (less R f c s S).counts ≡ length S.counts
  unfolding less
  less_counts = length_touched _ _ S.counts

  pub less_idsums : length (less R f c s S).idsums ≡ length S.idsums
  unfolding less
  less_idsums = length_touched _ _ S.idsums

  pub less_count : (k : ℕ) → k < length S.counts → count_in (less R f c s S) k ≡ cond (R.stands f k) (count_in S k -ℤ c) (count_in S k)
  unfolding less
  less_count k l = get_d_touched (R.stands f) _ S.counts k (pos 0) l

  pub less_idsum : (k : ℕ) → k < length S.idsums → idsum_in (less R f c s S) k ≡ cond (R.stands f k) (residue R.prime (pos (idsum_in S k) -ℤ pos s)) (idsum_in S k)
  unfolding less
  less_idsum k l = get_d_touched (R.stands f) _ S.idsums k 0 l
