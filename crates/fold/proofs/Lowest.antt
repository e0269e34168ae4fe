-- The lowest bucket at fault: for Damage by its index in the larger sketch, for Range by that in the folded one.
use mathlib.Core.Path.{◌≡◌, refl}
use mathlib.Core.Bool.{true, false, not}
use Prim.Native.Nat.{ℕ, ◌*◌, ◌<◌}
use lib.ListN.{length}
use Rattle.params.specs.declared.params.Params.{Params}
use Rattle.params.specs.declared.answers.Refusal.{Refusal}
use Rattle.params.specs.declared.answers.Refusal.TheVariants.{Damage, Range, Fold}
use Rattle.params.specs.Params.{size}
use Rattle.params.proofs.Lowest.{Lowest}
use Rattle.buckets.specs.Buckets.{in_limits, damaged}
use Rattle.sketch.specs.Sketch.{Sketch, count_in, idsum_in}
use Rattle.sketch.proofs.Lowest.{damage_lowest, range_lowest, of_bucket, refuse_late, first_late, lent_early}
use Rattle.fold.specs.Fold.{divides, whole_count, leaves_folded, fold_buckets_answer, fold_answer}
use Rattle.params.specs.Answers.{Refused}

module _ (P : Params) (m2 : ℕ) (S : Sketch) (k : ℕ) where
  fold_late : (w : Refusal) → of_bucket w ≡ true → fold_answer P m2 S ≡ Refused w k → fold_buckets_answer P m2 S ≡ Refused w k
  unfolding fold_answer
  fold_late w q e =
      let r = first_late _ _ w k (lent_early P (length S.counts) (length S.idsums)) q e in
      (refuse_late (not (divides m2 P.m)) Fold w 0 k _ refl q r.1).1

  pub fold_lowest_damage : fold_answer P m2 S ≡ Refused Damage k → Lowest (size P) (λ j. damaged (count_in S j) (idsum_in S j)) k
  unfolding fold_buckets_answer
  fold_lowest_damage e = damage_lowest (size P) (P.d * m2) _ _ k (fold_late Damage refl e)

  pub fold_lowest_range : fold_answer P m2 S ≡ Refused Range k
      → Lowest (P.d * m2) (λ j. not (in_limits (whole_count P.d P.m m2 S.counts j))) k
      × ((j : ℕ) → j < size P → damaged (count_in S j) (idsum_in S j) ≡ false)
  unfolding fold_buckets_answer leaves_folded
  fold_lowest_range e = range_lowest (size P) (P.d * m2) _ _ k (fold_late Range refl e)
