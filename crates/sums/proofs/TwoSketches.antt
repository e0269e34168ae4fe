-- Laws of the answer of two sketches: what holds where nothing is refused, and that nothing is where all buckets are small; and of what is left of them then.
use mathlib.Core.Path.{◌≡◌, refl, sym, ap, subst, ◌∙◌}
use mathlib.Core.Bool.{Bool, true, false, not, ◌&&◌, ◌||◌}
use Prim.Native.Nat.{ℕ, ◌≤◌, ◌<◌}
use native.Mathlib.Nat.{zero-add}
use native.Mathlib.Omega.{arith}
use borrow.Author.Tests.{not-false}
use lib.IntN.{pos}
use lib.ListN.{length}
use Rattle.field.specs.Residue.{residue}
use Rattle.field.proofs.Residues.{residue_below}
use Rattle.params.specs.declared.params.Params.{Params}
use Rattle.params.specs.declared.answers.Refusal.TheVariants.{Param, Damage, Range, Mismatch}
use Rattle.params.specs.Lists.{below}
use Rattle.params.specs.Params.{prime, size, good_params, same_params, lengths_answer, dimensions_answer}
use Rattle.buckets.specs.Buckets.{in_limits, plus_minus}
use Rattle.sketch.specs.Sketch.{Sketch, count_in, idsum_in, damaged_at, small_at}
use Rattle.sums.specs.Sums.{both_lent_answer, either_damaged, leaves, buckets_answer, combine_answer, combined}
use Rattle.params.proofs.Searches.{and_true, below_at}
use Rattle.params.proofs.Changes.{length_map_from, get_d_map_from}
use Rattle.params.proofs.Judging.{first_done, refuse_done, refuse_at_done, refuse_none}
use Rattle.params.proofs.Rules.{dimensions_small, good_has_dimensions, good_dimensions_lem, lengths_done}
use Rattle.buckets.proofs.Idsums.{prime_pos}
use Rattle.buckets.proofs.Limits.{whole, whole_back, small_whole, small_size, small_stays}
use Rattle.params.specs.Answers.{Done}

-- where the parameters keep the rules, of the dimensions and the lengths the lengths are left to judge
pub lengths_left : (P : Params) (c s : ℕ) → good_params P ≡ true → dimensions_answer P c s ≡ lengths_answer P c s
unfolding dimensions_answer
lengths_left P c s e = rw (good_has_dimensions P e)

-- the parameters keep the rules and are the same, and the four lengths are those that they ask for
pub record Shaped (P Q : Params) (c s e t : ℕ) : Type 0 where
  pub good : good_params P ≡ true
  pub same : same_params P Q ≡ true
  pub counts : c ≡ size P
  pub idsums : s ≡ size P
  pub other_counts : e ≡ size P
  pub other_idsums : t ≡ size P

pub both_lent_done : (P Q : Params) (c s e t : ℕ) → both_lent_answer P Q c s e t ≡ Done → Shaped P Q c s e t
unfolding both_lent_answer
both_lent_done P Q c s e t h =
    let k = refuse_done (not (good_params P && good_params Q)) Param 0 _ h in
    let l = refuse_done (not (same_params P Q)) Mismatch 0 _ k.1 in
    let long = first_done (lengths_answer P c s) _ l.1 in
    let x = lengths_done P c s long.0 in
    let y = lengths_done P e t long.1 in
    record {
      good = (and_true (good_params P) _ (not-false _ k.0)).0;
      same = not-false _ l.0;
      counts = x.0;
      idsums = x.1;
      other_counts = y.0;
      other_idsums = y.1;
    }

-- so all four are the same, and small
pub same_lengths : {P Q : Params} {c s e t : ℕ} → Shaped P Q c s e t → (s ≡ c) × (e ≡ c) × (t ≡ c)
same_lengths h = (h.idsums ∙ sym h.counts, h.other_counts ∙ sym h.counts, h.other_idsums ∙ sym h.counts)

pub small_lengths : {P Q : Params} {c s e t : ℕ} → Shaped P Q c s e t → c ≤ 65536
small_lengths {P} h = omega (arith, h.counts, dimensions_small (good_dimensions_lem P h.good))

-- neither of two tests holds
either_false : (x y : Bool) → (x || y) ≡ false → (x ≡ false) × (y ≡ false)
either_false true y e = (e, cc)
either_false false y e = (refl, e)

-- where nothing is refused, each count stays within its limits, and both idsums are below the prime
pub combine_done : (minus : Bool) (P Q : Params) (S T : Sketch) → combine_answer minus P Q S T ≡ Done
    → ((length S.idsums ≡ length S.counts) × (length T.counts ≡ length S.counts) × (length T.idsums ≡ length S.counts))
    × ((k : ℕ) → k < length S.counts → in_limits (plus_minus minus (count_in S k) (count_in T k)) ≡ true)
    × ((k : ℕ) → k < length S.counts → (idsum_in S k < prime) × (idsum_in T k < prime))
unfolding combine_answer buckets_answer either_damaged leaves
combine_done minus P Q S T e =
    let h = first_done (both_lent_answer P Q (length S.counts) (length S.idsums) (length T.counts) (length T.idsums)) _ e in
    let k = refuse_at_done (length S.counts) (either_damaged S T) Damage _ h.1 in
    let l = (refuse_at_done (length S.counts) (leaves minus S.counts T.counts) Range _ k.1).0 in (
      same_lengths (both_lent_done P Q _ _ _ _ h.0),
      λ j m. not-false _ (l j m),
      λ j m. let u = either_false _ _ (k.0 j m) in ((whole _ _ u.0).1, (whole _ _ u.1).1),
    )

-- where every bucket of both is small, none is at fault
pub small_done : (minus : Bool) (S T : Sketch) → below (length S.counts) (λ k. small_at S k && small_at T k) ≡ true → buckets_answer minus S T ≡ Done
unfolding buckets_answer either_damaged leaves
small_done minus S T e =
    let both : (k : ℕ) → k < length S.counts → (small_at S k ≡ true) × (small_at T k ≡ true) = λ k l. and_true (small_at S k) (small_at T k) (below_at _ k _ e l) in
    refuse_none (length S.counts) (either_damaged S T) Damage _ (λ k l. rw (small_whole _ _ (both k l).0, small_whole _ _ (both k l).1))
    ∙ refuse_none (length S.counts) (leaves minus S.counts T.counts) Range Done
    (λ k l. ap not (small_stays minus _ _ (small_size _ _ (both k l).0) (small_size _ _ (both k l).1)))

-- the sum or the difference of two sketches: its buckets, its lengths, which are those of the first, and that it is undamaged where it is not refused
module _ (minus : Bool) (S T : Sketch) where
  pub combined_count : (k : ℕ) → k < length S.counts → count_in (combined minus S T) k ≡ plus_minus minus (count_in S k) (count_in T k)
  unfolding combined
  combined_count k l = get_d_map_from 0 (λ j x. plus_minus minus x (count_in T j)) S.counts k (pos 0) l ∙ ap (λ (j : ℕ). plus_minus minus (count_in S k) (count_in T j)) (zero-add k)

  pub combined_idsum : (k : ℕ) → k < length S.idsums → idsum_in (combined minus S T) k ≡ residue prime (plus_minus minus (pos (idsum_in S k)) (pos (idsum_in T k)))
  unfolding combined
  combined_idsum k l =
      get_d_map_from 0 (λ j x. residue prime (plus_minus minus (pos x) (pos (idsum_in T j)))) S.idsums k 0 l
      ∙ ap (λ (j : ℕ). residue prime (plus_minus minus (pos (idsum_in S k)) (pos (idsum_in T j)))) (zero-add k)

  pub combined_long : (length (combined minus S T).counts ≡ length S.counts) × (length (combined minus S T).idsums ≡ length S.idsums)
  unfolding combined
  combined_long = (length_map_from 0 _ S.counts, length_map_from 0 _ S.idsums)

  pub combined_undamaged : (P Q : Params) → combine_answer minus P Q S T ≡ Done → (k : ℕ) → k < length S.counts → damaged_at (combined minus S T) k ≡ false
  combined_undamaged P Q done k l =
      let h = combine_done minus P Q S T done in
      whole_back (count_in (combined minus S T) k) (idsum_in (combined minus S T) k)
      (ap in_limits (combined_count k l) ∙ h.1 k l)
      (subst (λ (n : ℕ). n < prime) (sym (combined_idsum k (omega (arith, h.0.0)))) (residue_below prime prime_pos _))
