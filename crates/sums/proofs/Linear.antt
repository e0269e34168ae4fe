-- Linearity: the sketch of two lists of entries together is the sum of their sketches, bucket by bucket, and with one list negated the difference.
use mathlib.Core.Path.{◌≡◌, sym, ap, ap₂, ◌∙◌}
use mathlib.Core.Bool.{Bool, true, false}
use mathlib.Core.List.{List, ◌++◌}
use Prim.Native.Nat.{ℕ}
use native.Mathlib.Omega.{arith}
use lib.IntN.{pos, neg_ℤ, ◌+ℤ◌}
use Rattle.field.specs.Residue.{residue}
use Rattle.params.specs.declared.params.Params.{Params}
use Rattle.params.specs.Params.{prime, size}
use Rattle.buckets.specs.Buckets.{plus_minus}
use Rattle.sketch.specs.Sketch.{Entry, sketch, count_at, weight_at, sketch_of}
use Rattle.sums.specs.Sums.{combined}
use Rattle.sums.specs.History.{negated}
use Rattle.sketch.proofs.Tables.{from_at, from_same, map_from_lem}
use Rattle.buckets.proofs.Idsums.{idsum_plus_minus_both}
use Rattle.sums.proofs.Weighted.{count_weighted, weight_weighted, weighted_append, weighted_negated}

module _ (P : Params) where
  pub count_append : (es gs : List Entry) (k : ℕ) → count_at P (es ++ gs) k ≡ count_at P es k +ℤ count_at P gs k
  count_append es gs k = simp count_weighted (weighted_append _ es gs)

  pub weight_append : (es gs : List Entry) (k : ℕ) → weight_at P (es ++ gs) k ≡ weight_at P es k +ℤ weight_at P gs k
  weight_append es gs k = simp weight_weighted (weighted_append _ es gs)

  pub count_negated : (es : List Entry) (k : ℕ) → count_at P (negated es) k ≡ neg_ℤ (count_at P es k)
  count_negated es k = simp count_weighted (weighted_negated _ es)

  pub weight_negated : (es : List Entry) (k : ℕ) → weight_at P (negated es) k ≡ neg_ℤ (weight_at P es k)
  weight_negated es k = simp weight_weighted (weighted_negated _ es)

  -- the sum or the difference of two sketches, by what their buckets count and weigh
  combined_is : (minus : Bool) (es gs hs : List Entry) → ((k : ℕ) → plus_minus minus (count_at P es k) (count_at P gs k) ≡ count_at P hs k)
      → ((k : ℕ) → plus_minus minus (weight_at P es k) (weight_at P gs k) ≡ weight_at P hs k) → combined minus (sketch_of P es) (sketch_of P gs) ≡ sketch_of P hs
  unfolding combined sketch_of
  combined_is minus es gs hs c w =
      ap₂ sketch
      (map_from_lem 0 (size P) _ (count_at P es)
      ∙ from_same 0 (size P) _ (count_at P hs)
      (λ k l m. ap (plus_minus minus (count_at P es k)) (from_at (size P) (count_at P gs) k (pos 0) (omega arith)) ∙ c k))
      (map_from_lem 0 (size P) _ (λ k. residue prime (weight_at P es k))
      ∙ from_same 0 (size P) _ (λ k. residue prime (weight_at P hs k))
      (λ k l m.
      ap (λ (s : ℕ). residue prime (plus_minus minus (pos (residue prime (weight_at P es k))) (pos s))) (from_at (size P) (λ j. residue prime (weight_at P gs j)) k 0 (omega arith))
      ∙ idsum_plus_minus_both minus (weight_at P es k) (weight_at P gs k)
      ∙ ap (residue prime) (w k)))

  pub joined : (es gs : List Entry) → sketch_of P (es ++ gs) ≡ combined false (sketch_of P es) (sketch_of P gs)
  joined es gs = sym (combined_is false es gs (es ++ gs) (λ k. sym (count_append es gs k)) (λ k. sym (weight_append es gs k)))

  pub joined_less : (es gs : List Entry) → sketch_of P (es ++ negated gs) ≡ combined true (sketch_of P es) (sketch_of P gs)
  joined_less es gs =
      sym (combined_is true es gs (es ++ negated gs)
      (λ k. sym (count_append es (negated gs) k ∙ ap (◌+ℤ◌ (count_at P es k)) (count_negated gs k)))
      (λ k. sym (weight_append es (negated gs) k ∙ ap (◌+ℤ◌ (weight_at P es k)) (weight_negated gs k))))
