-- The losses and the gains of a bucket, each summed up by themselves: a count is their difference, and is within the limits where both are. So a list of losses is sure that is as the request asks.
use Rattle.std.proofs.Common.{rules}
use mathlib.Core.Path.{◌≡◌, refl, ap, ap₂, ◌∙◌}
use mathlib.Core.Bool.{true, not, cond}
use mathlib.Core.List.{List, [], ◌∷◌}
use Prim.Native.Nat.{ℕ, ◌+◌, ◌≤◌, ◌<◌}
use native.Mathlib.Omega.{arith}
use borrow.Author.Tests.{le-leb}
use lib.Dec.{ltb}
use lib.IntN.{ℤ, pos, nat_abs}
use Rattle.field.specs.Parts.{up, down}
use Rattle.field.proofs.Parts.{abs_parts, one_part}
use Rattle.params.specs.declared.params.Params.{Params}
use Rattle.params.specs.Params.{size}
use Rattle.params.specs.Positions.{stands}
use Rattle.params.proofs.Searches.{same_either, and_true}
use Rattle.buckets.specs.Buckets.{in_limits, is_zero}
use Rattle.buckets.proofs.Limits.{whole}
use Rattle.sketch.specs.Sketch.{count_in, idsum_in, Entry, by, count_at, sketch_of}
use Rattle.sketch.proofs.Tables.{length_from, from_at}
use Rattle.sketch.proofs.Whole.{Whole}
use Rattle.walk.specs.Walk.{all}
use Rattle.walk.specs.Sure.{all_positive, all_nonzero, within_limits, parts_by, SureLosses, Sure}
use Rattle.walk.proofs.Alls.{both_true, all_of}

module _ (P : Params) where
  -- a part of the numbers in bucket k, summed up
  unfoldable pub part_at : (ℤ → ℕ) → List Entry → ℕ → ℕ
  part_at part [] k = 0
  part_at part (e ∷ es) k = cond (stands P e.flow k) (part e.number) 0 + part_at part es k

  pub part_is : (part : ℤ → ℕ) (es : List Entry) (k : ℕ) → count_at P (parts_by part es) k ≡ pos (part_at part es k)
  unfolding count_at part_at
  part_is part [] k = refl
  part_is part (e ∷ es) k = search (rules, part_is part es k)

  -- a count is the losses less the gains
  count_parts : (es : List Entry) (k : ℕ) → up (count_at P es k) + part_at down es k ≡ part_at up es k + down (count_at P es k)
  unfolding count_at part_at
  count_parts [] k = refl
  count_parts (e ∷ es) k = search (rules, count_parts es k)

  -- so it is within the limits where both are
  pub count_within : (es : List Entry) (k : ℕ) → part_at up es k ≤ 2147483646 → part_at down es k ≤ 2147483646 → in_limits (count_at P es k) ≡ true
  unfolding in_limits
  count_within es k l g = search (rules, abs_parts, count_parts, le-leb, nat_abs, one_part)

-- counts that are within the limits, one by one
pub within_all : (P : Params) (es : List Entry) → ((k : ℕ) → k < size P → in_limits (count_at P es k) ≡ true) → within_limits P es ≡ true
unfolding sketch_of
within_all P es h =
    all_of in_limits (sketch_of P es).counts (pos 0)
    (λ k l. let inside : k < size P = omega (arith, length_from 0 (size P) (count_at P es)) in ap in_limits (from_at (size P) (count_at P es) k (pos 0) inside) ∙ h k inside)

-- what is not damaged is within the limits
pub whole_limits : (P : Params) (es : List Entry) → Whole P (sketch_of P es) → within_limits P es ≡ true
whole_limits P es w =
    all_of in_limits (sketch_of P es).counts (pos 0) (λ k l. (whole (count_in (sketch_of P es) k) (idsum_in (sketch_of P es) k) (w.undamaged k (omega (arith, w.counts_long)))).0)

-- losses are sure where they are as the request asks: they are the list, and there are no gains
positive_parts : (z : ℤ) → ltb 0 (up z) ≡ true → (not (is_zero z) ≡ true) × (pos (up z) ≡ z) × (down z ≡ 0)
positive_parts z e = search rules

positive_list : (es : List Entry) → all_positive es ≡ true → (all_nonzero es ≡ true) × (parts_by up es ≡ es)
unfolding all
positive_list [] e = (refl, refl)
positive_list (e ∷ es) a =
    let both = and_true (ltb 0 (up e.number)) (all_positive es) a in
    let one = positive_parts e.number both.0 in
    let rest = positive_list es both.1 in
    (both_true _ _ one.0 rest.0, ap₂ {B = List Entry} (λ z es. by e.flow z ∷ es) one.1 rest.1)

no_gains : (P : Params) (es : List Entry) → all_positive es ≡ true → (j : ℕ) → part_at P down es j ≡ 0
unfolding all part_at
no_gains P [] a j = refl
no_gains P (e ∷ es) a j =
    let both = and_true (ltb 0 (up e.number)) (all_positive es) a in
    rw ((positive_parts e.number both.0).2, same_either {A = ℕ} (stands P e.flow j) 0) (omega (arith, no_gains P es both.1 j))

pub losses_sure : {P : Params} {es : List Entry} → SureLosses P es → Sure P es
unfolding in_limits
losses_sure {P} {es} s =
    let p = positive_list es s.positive in
    record {
      flows = s.flows;
      nonzero = p.0;
      own = s.own;
      losses = ap (within_limits P) p.1 ∙ s.within;
      gains = within_all P (parts_by down es) (λ k l. ap in_limits (part_is P down es k ∙ ap pos (no_gains P es s.positive k)));
    }
