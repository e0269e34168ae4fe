-- The fold of a sum or of a difference is the sum or the difference of the folds.
use mathlib.Core.Path.{◌≡◌, sym, ap, ap₂, subst, ◌∙◌}
use mathlib.Core.Bool.{Bool, true, not, ◌||◌, or-false}
use Prim.Native.Nat.{ℕ, ◌*◌, ◌<◌}
use native.Mathlib.Omega.{arith}
use lib.IntN.{ℤ, pos}
use lib.ListN.{length}
use Rattle.field.specs.Residue.{residue}
use Rattle.params.specs.declared.params.Params.{Params}
use Rattle.params.specs.declared.answers.Refusal.TheVariants.{Damage, Range}
use Rattle.params.specs.Lists.{from}
use Rattle.params.specs.Answers.{kept, Answer, Done, Refused, Given, given}
use Rattle.params.specs.Params.{prime, size, resized, same_params}
use Rattle.params.proofs.Judging.{first_done, first_passed, refuse_none}
use Rattle.params.proofs.Rules.{lengths_back, lent_back}
use Rattle.params.proofs.SameParams.{dimensions_same, resized_same}
use Rattle.buckets.specs.Buckets.{in_limits, plus_minus}
use Rattle.buckets.proofs.Idsums.{prime_pos, idsum_plus_minus_both}
use Rattle.sketch.specs.Sketch.{Sketch, sketch, count_in, idsum_in, damaged_at}
use Rattle.sketch.proofs.Tables.{from_at, from_same, map_from_lem}
use Rattle.fold.specs.Fold.{target, whole_count, whole_idsum, folded, front, Folded, folded_to}
use Rattle.fold.proofs.Accepting.{FoldAccepted, accepted_done}
use Rattle.fold.proofs.AtTheCall.{folded_count, all_accepted, params_are, params_good, size_is, front_is, front_long, folded_undamaged}
use Rattle.fold.proofs.Gathering.{gathered_same, gathered_plus_minus, gathered_residues}
use Rattle.sums.specs.Sums.{both_lent_answer, either_damaged, leaves, buckets_answer, combine_answer, combined, Combined}
use Rattle.sums.proofs.TwoSketches.{Shaped, both_lent_done, combine_done, combined_count, combined_idsum, combined_long, combined_undamaged}
use Rattle.sums.proofs.AtTheCall.{combine_damage}

module _ (minus : Bool) (P : Params) (m2 : ℕ) (S T : Sketch) (counts_long : length S.counts ≡ size P) (idsums_long : length S.idsums ≡ size P) where
  -- whole sums
  pub whole_combined : (k : ℕ) → whole_count P.d P.m m2 (combined minus S T).counts k ≡ plus_minus minus (whole_count P.d P.m m2 S.counts k) (whole_count P.d P.m m2 T.counts k)
  unfolding whole_count
  whole_combined k =
      gathered_same (P.d * P.m) (target P.m m2) _ _ k (λ i l. combined_count minus S T i (omega (arith, counts_long)))
      ∙ gathered_plus_minus (P.d * P.m) (target P.m m2) minus (count_in S) (count_in T) k

  whole_idsums : (k : ℕ) → residue prime (whole_idsum P.d P.m m2 (combined minus S T).idsums k)
      ≡ residue prime (plus_minus minus (whole_idsum P.d P.m m2 S.idsums k) (whole_idsum P.d P.m m2 T.idsums k))
  unfolding whole_idsum
  whole_idsums k =
      ap (residue prime) (gathered_same (P.d * P.m) (target P.m m2) _ _ k (λ i l. ap pos (combined_idsum minus S T i (omega (arith, idsums_long)))))
      ∙ gathered_residues (P.d * P.m) (target P.m m2) prime (λ i. plus_minus minus (pos (idsum_in S i)) (pos (idsum_in T i))) k prime_pos
      ∙ ap (residue prime) (gathered_plus_minus (P.d * P.m) (target P.m m2) minus (λ i. pos (idsum_in S i)) (λ i. pos (idsum_in T i)) k)

  pub folded_combined : folded P m2 (combined minus S T) ≡ combined minus (folded P m2 S) (folded P m2 T)
  unfolding folded combined
  folded_combined =
      ap₂ sketch
      (from_same 0 (P.d * m2) _ _ (λ k a b. whole_combined k ∙ ap (plus_minus minus (count S k)) (sym (from_at (P.d * m2) (count T) k (pos 0) (omega arith))))
      ∙ sym (map_from_lem 0 (P.d * m2) _ (count S)))
      (from_same 0 (P.d * m2) _ _ (λ k a b.
      whole_idsums k
      ∙ sym (idsum_plus_minus_both minus (weight S k) (weight T k))
      ∙ ap (λ (s : ℕ). residue prime (plus_minus minus (pos (residue prime (weight S k))) (pos s))) (sym (from_at (P.d * m2) (λ j. residue prime (weight T j)) k 0 (omega arith))))
      ∙ sym (map_from_lem 0 (P.d * m2) _ (λ k. residue prime (weight S k))))
    where
      count : Sketch → ℕ → ℤ
      count X = whole_count P.d P.m m2 X.counts

      weight : Sketch → ℕ → ℤ
      weight X = whole_idsum P.d P.m m2 X.idsums

-- a fold goes by the dimensions
folded_shared : (P Q : Params) (m2 : ℕ) (T : Sketch) → same_params P Q ≡ true → folded Q m2 T ≡ folded P m2 T
unfolding folded
folded_shared P Q m2 T e =
    let s = dimensions_same P Q e in
    ap₂ (λ (d m : ℕ). sketch (from 0 (d * m2) (whole_count d m m2 T.counts)) (from 0 (d * m2) (λ k. residue prime (whole_idsum d m m2 T.idsums k)))) (sym s.0) (sym s.1)

-- two sketches under the same parameters, each folded to m2, and their sum or difference D
module _ {minus : Bool} {P Q P2 Q2 : Params} {m2 : ℕ} {S T D S' T' : Sketch}
    (c : Combined minus P Q S T Done D) (f : Folded P m2 S (folded_to P2) S') (g : Folded Q m2 T (folded_to Q2) T') where
  shaped : Shaped P Q (length S.counts) (length S.idsums) (length T.counts) (length T.idsums)
  unfolding combine_answer
  shaped = both_lent_done P Q _ _ _ _ (first_done _ _ (sym c.answer)).0

  -- the folds, by the definition
  first_fold : front (size P2) S' ≡ folded P m2 S
  first_fold = front_is f

  second_fold : front (size Q2) T' ≡ folded P m2 T
  second_fold = front_is g ∙ folded_shared P Q m2 T shaped.same

  unrefused : D ≡ combined minus S T
  unfolding kept
  unrefused = c.after

  pub fold_combined : folded P m2 D ≡ combined minus (front (size P2) S') (front (size Q2) T')
  fold_combined =
      ap (folded P m2) unrefused
      ∙ folded_combined minus P m2 S T shaped.counts shaped.idsums
      ∙ ap₂ (combined minus) (sym first_fold) (sym second_fold)

  -- what the folds have in each bucket makes up the whole sum of D
  whole_sum : (k : ℕ) → k < P.d * m2 → whole_count P.d P.m m2 D.counts k ≡ plus_minus minus (count_in (front (size P2) S') k) (count_in (front (size Q2) T') k)
  whole_sum k l =
      ap (λ (X : Sketch). whole_count P.d P.m m2 X.counts k) unrefused
      ∙ whole_combined minus P m2 S T shaped.counts shaped.idsums k
      ∙ ap₂ (plus_minus minus)
      (sym (ap (λ (X : Sketch). count_in X k) first_fold ∙ folded_count P m2 S k l))
      (sym (ap (λ (X : Sketch). count_in X k) second_fold ∙ folded_count P m2 T k l))

  -- the folds are as long as each other
  second_long : (length (front (size Q2) T').counts ≡ size P2) × (length (front (size Q2) T').idsums ≡ size P2)
  second_long =
      let same : size Q2 ≡ size P2 = size_is g ∙ ap (λ (d : ℕ). d * m2) (sym (dimensions_same P Q shaped.same).0) ∙ sym (size_is f) in
      ((front_long g).0 ∙ same, (front_long g).1 ∙ same)

  -- what a sum or a difference of the folds leaves
  left : {X : Sketch} → Combined minus P2 Q2 (front (size P2) S') (front (size Q2) T') Done X → X ≡ combined minus (front (size P2) S') (front (size Q2) T')
  unfolding kept
  left x = x.after

  d_long : (length D.counts ≡ size P) × (length D.idsums ≡ size P)
  d_long =
      let long = combined_long minus S T in
      (ap (λ (X : Sketch). length X.counts) unrefused ∙ long.0 ∙ shaped.counts, ap (λ (X : Sketch). length X.idsums) unrefused ∙ long.1 ∙ shaped.idsums)

  -- all that is judged of D where the folds could be added or subtracted
  accepted_of_combined : {X : Sketch} → Combined minus P2 Q2 (front (size P2) S') (front (size Q2) T') Done X → FoldAccepted P m2 D
  accepted_of_combined x =
      let fits = (all_accepted f).asked in
      let sums = combine_done minus P2 Q2 _ _ (sym x.answer) in
      record {
        lent = lent_back P _ _ shaped.good d_long.0 d_long.1;
        asked =
            record {
              d_high = fits.d_high;
              m_low = fits.m_low;
              m_high = fits.m_high;
              m2_low = fits.m2_low;
              no_rest = fits.no_rest;
              counts_long = d_long.0;
              idsums_long = d_long.1;
            };
        undamaged = λ k l. ap (λ (X : Sketch). damaged_at X k) unrefused ∙ combined_undamaged minus S T P Q (sym c.answer) k (omega (arith, shaped.counts));
        stays = λ k l. ap in_limits (whole_sum k l) ∙ sums.1 k (omega (arith, front_long f, size_is f));
      }

  -- all that is judged of the folds where D could be folded
  combined_accepted : {R : Params} {D' : Sketch} → Folded P m2 D (folded_to R) D' → combine_answer minus P2 Q2 (front (size P2) S') (front (size Q2) T') ≡ Done
  unfolding combine_answer both_lent_answer buckets_answer either_damaged leaves
  combined_accepted d =
      first_passed _ _
      (rw (params_good f, params_good g, same2)
      (first_passed _ _ (lengths_back P2 _ _ (front_long f).0 (front_long f).1) ∙ lengths_back P2 _ _ second_long.0 second_long.1))
      ∙ refuse_none (length (front (size P2) S').counts) _ Damage _ (λ k l. rw (folded_undamaged f k, folded_undamaged g k))
      ∙ refuse_none (length (front (size P2) S').counts) _ Range Done
      (λ k l. let i : k < P.d * m2 = omega (arith, front_long f, size_is f) in ap not (ap in_limits (sym (whole_sum k i)) ∙ (all_accepted d).stays k i))
    where
      same2 : same_params P2 Q2 ≡ true
      same2 = ap₂ same_params (params_are f) (params_are g) ∙ resized_same P Q shaped.same m2

  -- where the folds can be added or subtracted, D can be folded, and gives the same
  pub fold_of_combined : {r : Given Params} {X D' : Sketch} → Combined minus P2 Q2 (front (size P2) S') (front (size Q2) T') Done X → Folded P m2 D r D'
      → (r ≡ folded_to P2) × (front (size P2) D' ≡ X)
  unfolding kept
  fold_of_combined {r} {X} {D'} x d = (returned, front_is (subst (λ (o : Given Params). Folded P m2 D o D') returned d) ∙ fold_combined ∙ sym (left x))
    where
      judged : FoldAccepted P m2 D
      judged = accepted_of_combined x

      returned : r ≡ folded_to P2
      returned = d.answer ∙ ap (λ (y : Answer). given y (resized P m2)) (accepted_done P m2 D judged) ∙ ap folded_to (sym (params_are f))

  -- and where D can be folded, the folds can be added or subtracted, and give the same
  pub combined_of_folds : {R : Params} {a : Answer} {X D' : Sketch} → Folded P m2 D (folded_to R) D' → Combined minus P2 Q2 (front (size P2) S') (front (size Q2) T') a X
      → (a ≡ Done) × (X ≡ front (size R) D')
  combined_of_folds {R} {a} {X} {D'} d x =
      let done : a ≡ Done = x.answer ∙ combined_accepted d in
      (done, left (subst (λ (y : Answer). Combined minus P2 Q2 (front (size P2) S') (front (size Q2) T') y X) done x) ∙ sym fold_combined ∙ sym (front_is d))

-- a folded sketch is not what a sum or a difference is refused for: where that is refused for damage, the other sketch is damaged there
pub combine_after_fold : {minus : Bool} {P Q R : Params} {m2 k : ℕ} {S S' T X : Sketch} → Folded P m2 S (folded_to Q) S' → Combined minus Q R (front (size Q) S') T (Refused Damage k) X
    → damaged_at T k ≡ true
combine_after_fold {k = k} {T = T} f c = ap (λ (b : Bool). b || damaged_at T k) (sym (folded_undamaged f k)) ∙ (combine_damage c).here

pub combine_with_folded : {minus : Bool} {P Q R : Params} {m2 k : ℕ} {S S' T X : Sketch} → Folded P m2 T (folded_to Q) S' → Combined minus R Q S (front (size Q) S') (Refused Damage k) X
    → damaged_at S k ≡ true
combine_with_folded {k = k} {S = S} f c = sym (or-false (damaged_at S k)) ∙ ap (λ (b : Bool). damaged_at S k || b) (sym (folded_undamaged f k)) ∙ (combine_damage c).here
