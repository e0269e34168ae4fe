-- Laws of two sketches' difference: it is not refused where the counts differ within the limits, and so not where no count is below 0.
use mathlib.Core.Path.{◌≡◌, ap, ◌∙◌}
use mathlib.Core.Bool.{true, false, not}
use mathlib.Core.Logic.{◌⊎◌, inl, inr}
use Prim.Native.Nat.{ℕ, ◌<◌, ◌≤◌}
use native.Mathlib.Omega.{arith}
use borrow.Author.Tests.{eq-eqb, le-leb}
use lib.IntN.{ℤ, pos, nat_abs, neg_ℤ, ◌-ℤ◌}
use lib.Signed.{◌≤ℤ◌}
use lib.ListN.{length}
use Rattle.field.specs.Parts.{up, down}
use Rattle.field.proofs.Parts.{int, up_down_add, up_neg, down_neg, abs_parts, one_part}
use Rattle.params.specs.declared.params.Params.{Params}
use Rattle.params.specs.declared.answers.Refusal.TheVariants.{Damage, Range}
use Rattle.params.specs.Answers.{first, Done}
use Rattle.params.specs.Params.{size, good_params, lengths_answer}
use Rattle.params.proofs.SameParams.{same_itself}
use Rattle.params.proofs.Judging.{first_passed, refuse_none}
use Rattle.buckets.specs.Buckets.{in_limits}
use Rattle.sketch.specs.Sketch.{Sketch, count_in, idsum_in}
use Rattle.buckets.proofs.Limits.{limits_size, whole}
use Rattle.sums.specs.Sums.{both_lent_answer, either_damaged, leaves, buckets_answer, combine_answer}
use Rattle.sketch.proofs.Whole.{Whole}

-- the difference of two numbers that are 0 or more is no greater than the greater of them
less_within : (x y : ℤ) → pos 0 ≤ℤ x → pos 0 ≤ℤ y → in_limits x ≡ true → in_limits y ≡ true → in_limits (x -ℤ y) ≡ true
unfolding in_limits
less_within x y h k l m = le-leb (nat_abs (x -ℤ y)) 2147483646 (small (one_part (x -ℤ y)))
  where
    small : (up (x -ℤ y) ≡ 0) ⊎ (down (x -ℤ y) ≡ 0) → nat_abs (x -ℤ y) ≤ 2147483646
    small (inl e) =
        omega (int, abs_parts (x -ℤ y), up_down_add x (neg_ℤ y), up_neg y, down_neg y, abs_parts y, limits_size y m)
    small (inr e) =
        omega (int, abs_parts (x -ℤ y), up_down_add x (neg_ℤ y), up_neg y, down_neg y, abs_parts x, limits_size x l)

-- so where the counts of both sketches are 0 or more, none leaves its limits
pub never_range : (S T : Sketch) (k : ℕ) → pos 0 ≤ℤ count_in S k → pos 0 ≤ℤ count_in T k → in_limits (count_in S k) ≡ true → in_limits (count_in T k) ≡ true
    → leaves true S.counts T.counts k ≡ false
unfolding leaves
never_range S T k h j l m = ap not (less_within (count_in S k) (count_in T k) h j l m)

-- with the right lengths nothing is refused of them
both_lent_good : (P : Params) (c s e t : ℕ) → good_params P ≡ true → c ≡ size P → s ≡ size P → e ≡ size P → t ≡ size P → both_lent_answer P P c s e t ≡ Done
unfolding both_lent_answer lengths_answer first
both_lent_good P c s e t good h k l m =
    rw (good, same_itself P, eq-eqb c (size P) h, eq-eqb s (size P) k, eq-eqb e (size P) l, eq-eqb t (size P) m)

-- so with good parameters nothing is refused of whole sketches whose counts differ within the limits, as they do where none is below 0
module _ (P : Params) (S T : Sketch) (good : good_params P ≡ true) (v : Whole P S) (w : Whole P T) where
  pub within_refuses_none : ((k : ℕ) → k < size P → in_limits (count_in S k -ℤ count_in T k) ≡ true) → combine_answer true P P S T ≡ Done
  unfolding combine_answer buckets_answer either_damaged leaves
  within_refuses_none h =
      first_passed _ _ (both_lent_good P _ _ _ _ good v.counts_long v.idsums_long w.counts_long w.idsums_long)
      ∙ refuse_none (length S.counts) (either_damaged S T) Damage _ (λ k l. rw (v.undamaged k (omega (arith, v.counts_long)), w.undamaged k (omega (arith, v.counts_long))))
      ∙ refuse_none (length S.counts) (leaves true S.counts T.counts) Range Done (λ k l. ap not (h k (omega (arith, v.counts_long))))

  pub never_refused : ((k : ℕ) → pos 0 ≤ℤ count_in S k) → ((k : ℕ) → pos 0 ≤ℤ count_in T k) → combine_answer true P P S T ≡ Done
  never_refused h j =
      within_refuses_none
      (λ k l. less_within (count_in S k) (count_in T k) (h k) (j k) (whole _ (idsum_in S k) (v.undamaged k l)).0 (whole _ (idsum_in T k) (w.undamaged k l)).0)
