-- Laws of what a fold answers: what holds where nothing is refused, and what is refused by the buckets of the folded sketch that do not fit.
use mathlib.Core.Path.{◌≡◌, refl, sym, ap, ap₂, ◌∙◌}
use mathlib.Core.Bool.{Bool, true, false, not, ◌&&◌}
use Prim.Native.Nat.{ℕ, ◌+◌, ◌*◌, ◌/◌, ◌%◌, ◌<◌}
use borrow.Author.Tests.{le-leb, leb-true, eq-eqb, eqb-true, not-true, not-false}
use lib.Dec.{eqb, leb}
use lib.ListN.{length}
use Rattle.params.specs.declared.params.Params.{Params}
use Rattle.params.specs.declared.answers.Refusal.TheVariants.{Damage, Range, Fold}
use Rattle.params.specs.Lists.{below}
use Rattle.params.specs.Answers.{refuse_if, Done}
use Rattle.params.specs.Params.{size, lent_answer}
use Rattle.params.proofs.Searches.{and_true, below_at, all_below}
use Rattle.params.proofs.Judging.{first_done, first_passed, refuse_done, refuse_at_done, refuse_none}
use Rattle.params.proofs.Rules.{lent_done}
use Rattle.buckets.specs.Buckets.{in_limits}
use Rattle.sketch.specs.Sketch.{Sketch, damaged_at}
use Rattle.fold.specs.Fold.{divides, target, whole_count, start_of, unfit_at, leaves_folded, fold_buckets_answer, fold_answer, Foldable}
use Rattle.fold.proofs.Sources.{goes_source, target_inside, source_inside}

-- by the buckets of the folded sketch that do not fit, of which each has a damaged source or a whole sum outside the limits
module _ (P : Params) (m2 : ℕ) (S : Sketch) (h : Foldable P.d P.m m2 (length S.counts) (length S.idsums)) where
  -- where all fit nothing is refused, since every bucket is a source of one of them
  pub fit_done : ((k : ℕ) → k < P.d * m2 → unfit_at P.d P.m m2 S k ≡ false) → Done ≡ fold_buckets_answer P m2 S
  unfolding fold_buckets_answer leaves_folded unfit_at
  fit_done none =
      sym
      (refuse_none (size P) (damaged_at S) Damage _ undamaged
      ∙ refuse_none (P.d * m2) (leaves_folded P.d P.m m2 S.counts) Range Done (λ k l. ap not (fit k l).1))
    where
      fit : (k : ℕ) → k < P.d * m2 → (below (P.m / m2) (λ q. not (damaged_at S (start_of P.m m2 k + q * m2))) ≡ true) × (in_limits (whole_count P.d P.m m2 S.counts k) ≡ true)
      fit k l = and_true _ _ (not-false _ (none k l))

      undamaged : (s : ℕ) → s < size P → damaged_at S s ≡ false
      undamaged s l =
          let k = target P.m m2 s in
          let q = goes_source P.m m2 h.m2_low h.m_low h.no_rest k s refl in
          let inside = target_inside P.d P.m m2 s h.m_low h.m2_low l in
          ap (damaged_at S) q.1 ∙ not-true _ (below_at (P.m / m2) (s % P.m / m2) _ (fit k inside).0 q.0)

  -- where no bucket is damaged, one does not fit exactly where its whole sum leaves the limits
  pub unfit_leaves : ((s : ℕ) → s < size P → damaged_at S s ≡ false) → (k : ℕ) → k < P.d * m2 → unfit_at P.d P.m m2 S k ≡ leaves_folded P.d P.m m2 S.counts k
  unfolding leaves_folded unfit_at
  unfit_leaves undamaged k l =
      let whole = all_below (P.m / m2) (λ q. not (damaged_at S (start_of P.m m2 k + q * m2))) (λ q e. ap not (undamaged _ (source_inside P.m m2 h.m2_low h.m_low h.no_rest P.d k l q e))) in
      ap (λ (b : Bool). not (b && in_limits (whole_count P.d P.m m2 S.counts k))) whole

-- what the parameters, the lengths and m2 have to be
pub foldable : (P : Params) (m2 c s : ℕ) → lent_answer P c s ≡ Done → divides m2 P.m ≡ true → Foldable P.d P.m m2 c s
foldable P m2 c s e q =
    let l = lent_done P c s e in
    let v = and_true (leb 1 m2) (eqb (P.m % m2) 0) q in
    record {
      d_high = l.0.d_high;
      m_low = l.0.m_low;
      m_high = l.0.m_high;
      m2_low = leb-true 1 m2 v.0;
      no_rest = eqb-true (P.m % m2) 0 v.1;
      counts_long = l.1;
      idsums_long = l.2;
    }

-- where nothing is refused all of this holds, no bucket is damaged, and each whole sum is within the limits
pub record FoldAccepted (P : Params) (m2 : ℕ) (S : Sketch) : Type 0 where
  pub lent : lent_answer P (length S.counts) (length S.idsums) ≡ Done
  pub asked : Foldable P.d P.m m2 (length S.counts) (length S.idsums)
  pub undamaged : (k : ℕ) → k < size P → damaged_at S k ≡ false
  pub stays : (k : ℕ) → k < P.d * m2 → in_limits (whole_count P.d P.m m2 S.counts k) ≡ true

pub accepted : (P : Params) (m2 : ℕ) (S : Sketch) → fold_answer P m2 S ≡ Done → FoldAccepted P m2 S
unfolding fold_answer fold_buckets_answer leaves_folded
accepted P m2 S e =
    let h = first_done _ _ e in
    let v = refuse_done (not (divides m2 P.m)) Fold 0 _ h.1 in
    let x = refuse_at_done (size P) (damaged_at S) Damage _ v.1 in
    let y = refuse_at_done (P.d * m2) (leaves_folded P.d P.m m2 S.counts) Range _ x.1 in
    record {
      lent = h.0;
      asked = foldable P m2 _ _ h.0 (not-false _ v.0);
      undamaged = x.0;
      stays = λ k l. not-false _ (y.0 k l);
    }

-- and where it holds nothing is refused
pub accepted_done : (P : Params) (m2 : ℕ) (S : Sketch) → FoldAccepted P m2 S → fold_answer P m2 S ≡ Done
unfolding fold_answer fold_buckets_answer leaves_folded
accepted_done P m2 S a =
    first_passed _ _ a.lent
    ∙ ap (λ (b : Bool). refuse_if (not b) Fold 0 (fold_buckets_answer P m2 S)) (ap₂ ◌&&◌ (le-leb 1 m2 a.asked.m2_low) (eq-eqb (P.m % m2) 0 a.asked.no_rest))
    ∙ refuse_none (size P) (damaged_at S) Damage _ a.undamaged
    ∙ refuse_none (P.d * m2) (leaves_folded P.d P.m m2 S.counts) Range Done (λ k l. ap not (a.stays k l))
