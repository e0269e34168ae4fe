-- The lowest bucket at fault in either of two sketches: what the index of a refusal for Damage or Range is.
use mathlib.Core.Path.{◌≡◌, refl}
use mathlib.Core.Bool.{Bool, true, false, not, ◌&&◌, ◌||◌}
use Prim.Native.Nat.{ℕ, ◌<◌}
use lib.ListN.{length}
use Rattle.params.specs.declared.params.Params.{Params}
use Rattle.params.specs.declared.answers.Refusal.{Refusal}
use Rattle.params.specs.declared.answers.Refusal.TheVariants.{Param, Damage, Range, Mismatch}
use Rattle.params.specs.Params.{size, good_params, same_params}
use Rattle.buckets.specs.Buckets.{in_limits, damaged, plus_minus}
use Rattle.sketch.specs.Sketch.{Sketch, count_in, idsum_in}
use Rattle.sums.specs.Sums.{both_lent_answer, either_damaged, leaves, buckets_answer, combine_answer}
use Rattle.sums.proofs.TwoSketches.{both_lent_done}
use Rattle.params.proofs.Lowest.{Lowest}
use Rattle.sketch.proofs.Lowest.{damage_lowest, range_lowest, of_bucket, refuses_bucket, refuse_early, first_early, first_late, lengths_early}
use Rattle.params.specs.Answers.{Refused}

both_lent_early : (P Q : Params) (c s e t : ℕ) → refuses_bucket (both_lent_answer P Q c s e t) ≡ false
unfolding both_lent_answer
both_lent_early P Q c s e t =
    refuse_early (not (good_params P && good_params Q)) Param 0 _ refl
    (refuse_early (not (same_params P Q)) Mismatch 0 _ refl
    (first_early _ _ (lengths_early P c s) (lengths_early P e t)))

-- a sum or a difference: the lowest bucket, in either sketch
or_neither : (s t : Bool) → (s || t) ≡ false → (s ≡ false) × (t ≡ false)
or_neither true t e = (e, cc)
or_neither false t e = (refl, e)

module _ (minus : Bool) (P Q : Params) (S T : Sketch) (k : ℕ) where
  combine_late : (w : Refusal) → of_bucket w ≡ true → combine_answer minus P Q S T ≡ Refused w k → (length S.counts ≡ size P) × (buckets_answer minus S T ≡ Refused w k)
  unfolding combine_answer
  combine_late w q e =
      let r = first_late _ _ w k (both_lent_early P Q (length S.counts) (length S.idsums) (length T.counts) (length T.idsums)) q e in
      ((both_lent_done P Q _ _ _ _ r.0).counts, r.1)

  pub combine_lowest_damage : combine_answer minus P Q S T ≡ Refused Damage k
      → Lowest (size P) (λ j. damaged (count_in S j) (idsum_in S j) || damaged (count_in T j) (idsum_in T j)) k
  unfolding buckets_answer either_damaged
  combine_lowest_damage e = let r = combine_late Damage refl e in damage_lowest (size P) (size P) _ _ k (rw r.0 at r.1)

  pub combine_lowest_range : combine_answer minus P Q S T ≡ Refused Range k
      → Lowest (size P) (λ j. not (in_limits (plus_minus minus (count_in S j) (count_in T j)))) k
      × ((j : ℕ) → j < size P → (damaged (count_in S j) (idsum_in S j) ≡ false) × (damaged (count_in T j) (idsum_in T j) ≡ false))
  unfolding buckets_answer either_damaged leaves
  combine_lowest_range e =
      let r = combine_late Range refl e in
      let q = range_lowest (size P) (size P) _ _ k (rw r.0 at r.1) in
      (q.0, λ j l. or_neither (damaged (count_in S j) (idsum_in S j)) _ (q.1 j l))
