-- Only net counts matter: two lists of entries in which every flow has the same net count have the same sketch.
use mathlib.Core.Path.{◌≡◌, refl, sym, ap, ap₂, subst₂, ◌∙◌, fun_ext}
use mathlib.Core.Bool.{Bool, true, false, cond}
use mathlib.Core.List.{List, [], ◌∷◌, ◌++◌}
use Prim.Native.Nat.{ℕ, suc, ◌+◌, ◌*◌, ◌≤◌, ◌<◌}
use native.Mathlib.Omega.{arith}
use borrow.Author.Tests.{eq-eqb, ne_eqb}
use lib.Dec.{eqb}
use lib.IntN.{ℤ, pos, ◌+ℤ◌, ◌-ℤ◌, ◌*ℤ◌, +ℤ_assoc, +ℤ_comm, zero-*ℤ}
use lib.Signed.{◌≤ℤ◌}
use Rattle.field.specs.Parts.{up, down}
use Rattle.field.proofs.Parts.{int, up_down_add, up_mul, down_mul}
use Rattle.params.specs.declared.params.Params.{Params}
use Rattle.params.specs.Positions.{stands}
use Rattle.sketch.specs.Sketch.{Entry, count_at, sketch_of}
use Rattle.sums.specs.History.{negated, net_count, Rearranged, none, keeping, swapping, twice}
use Rattle.fold.specs.Fold.{total}
use Rattle.fold.proofs.Totals.{total_add, total_below, total_none, total_one}
use Rattle.sums.proofs.Weighted.{weighted, times_one, count_weighted, weight_weighted, net_weighted, weighted_append, weighted_negated, sketch_same}

-- a number above every flow
unfoldable above : List Entry → ℕ
above [] = 0
above (e ∷ es) = suc e.flow + above es

pub times_sum : (x y v : ℤ) → (x +ℤ y) *ℤ v ≡ x *ℤ v +ℤ y *ℤ v
times_sum x y v =
    omega (
      int,
      up_mul (x +ℤ y) v,
      down_mul (x +ℤ y) v,
      up_mul x v,
      down_mul x v,
      up_mul y v,
      down_mul y v,
      up_down_add (x *ℤ v) (y *ℤ v),
      ap (λ (n : ℕ). n * up v) (up_down_add x y),
      ap (λ (n : ℕ). n * down v) (up_down_add x y),
    )

one_flow : (h : ℕ → ℤ) (z : ℤ) (g n : ℕ) → g < n → total n (λ f. cond (eqb g f) z (pos 0) *ℤ h f) ≡ z *ℤ h g
one_flow h z g n l =
    total_one n g (λ f. cond (eqb g f) z (pos 0) *ℤ h f) l
    (λ i m q. ap (λ (b : Bool). cond b z (pos 0) *ℤ h i) (ne_eqb g i (λ p. q (sym p))) ∙ zero-*ℤ (h i))
    ∙ ap (λ (b : Bool). cond b z (pos 0) *ℤ h g) (eq-eqb g g refl)

by_flows : (h : ℕ → ℤ) (n : ℕ) (es : List Entry) → above es ≤ n → weighted h es ≡ total n (λ f. net_count es f *ℤ h f)
unfolding weighted net_count above
by_flows h n [] l = sym (total_none n (λ f. pos 0 *ℤ h f) (λ i m. zero-*ℤ (h i)))
by_flows h n (e ∷ es) l =
    ap₂ ◌+ℤ◌ (sym (one_flow h e.number e.flow n (omega arith))) (by_flows h n es (omega arith))
    ∙ sym (total_add n (λ f. cond (eqb e.flow f) e.number (pos 0) *ℤ h f) (λ f. net_count es f *ℤ h f))
    ∙ ap (total n) (fun_ext (λ f. sym (times_sum (cond (eqb e.flow f) e.number (pos 0)) (net_count es f) (h f))))

weighted_same : (h : ℕ → ℤ) (es gs : List Entry) → ((f : ℕ) → net_count es f ≡ net_count gs f) → weighted h es ≡ weighted h gs
weighted_same h es gs e =
    let n = above es + above gs in
    by_flows h n es (omega arith) ∙ ap (total n) (fun_ext (λ f. ap (λ (z : ℤ). z *ℤ h f) (e f))) ∙ sym (by_flows h n gs (omega arith))

pub net_decides : (P : Params) (es gs : List Entry) → ((f : ℕ) → net_count es f ≡ net_count gs f) → sketch_of P es ≡ sketch_of P gs
net_decides P es gs e =
    sketch_same P P es gs refl
    (λ k. count_weighted P es k ∙ weighted_same _ es gs e ∙ sym (count_weighted P gs k))
    (λ k. weight_weighted P es k ∙ weighted_same _ es gs e ∙ sym (weight_weighted P gs k))

-- where no flow has a greater net count in one list than in the other, no bucket has a greater count
pub net_bounds : (P : Params) (es gs : List Entry) → ((f : ℕ) → net_count es f ≤ℤ net_count gs f) → (k : ℕ) → count_at P es k ≤ℤ count_at P gs k
net_bounds P es gs e k =
    let h : ℕ → ℤ = λ f. cond (stands P f k) (pos 1) (pos 0) in
    let n = above es + above gs in
    let sums : weighted h es ≤ℤ weighted h gs =
    subst₂ ◌≤ℤ◌ (sym (by_flows h n es (omega arith))) (sym (by_flows h n gs (omega arith)))
    (total_below n (λ f. net_count es f *ℤ h f) (λ f. net_count gs f *ℤ h f) (λ f. picked_below (stands P f k) (net_count es f) (net_count gs f) (e f))) in
    subst₂ ◌≤ℤ◌ (sym (count_weighted P es k)) (sym (count_weighted P gs k)) sums
  where
    picked_below : (b : Bool) (x y : ℤ) → x ≤ℤ y → (x *ℤ cond b (pos 1) (pos 0)) ≤ℤ (y *ℤ cond b (pos 1) (pos 0))
    picked_below true x y l = subst₂ ◌≤ℤ◌ (sym (times_one x)) (sym (times_one y)) l
    picked_below false x y l = omega (int, up_mul x (pos 0), down_mul x (pos 0), up_mul y (pos 0), down_mul y (pos 0))

-- net counts of two lists together, and of one less another
net_append : (es gs : List Entry) (f : ℕ) → net_count (es ++ gs) f ≡ net_count es f +ℤ net_count gs f
net_append es gs f = simp net_weighted (weighted_append _ es gs)

pub net_less : (es gs : List Entry) (f : ℕ) → net_count (es ++ negated gs) f ≡ net_count es f -ℤ net_count gs f
net_less es gs f = net_append es (negated gs) f ∙ ap (◌+ℤ◌ (net_count es f)) (simp net_weighted (weighted_negated _ gs))

-- the order of entries does not matter: each flow's net count is the same in every rearrangement
net_rearranged : {es gs : List Entry} → Rearranged es gs → (f : ℕ) → net_count es f ≡ net_count gs f
unfolding net_count
net_rearranged none f = refl
net_rearranged (keeping e r) f = ap (◌+ℤ◌ (cond (eqb e.flow f) e.number (pos 0))) (net_rearranged r f)
net_rearranged (swapping {es} e g) f =
    let x = cond (eqb e.flow f) e.number (pos 0) in
    let y = cond (eqb g.flow f) g.number (pos 0) in
    sym (+ℤ_assoc x y (net_count es f)) ∙ ap (λ (z : ℤ). z +ℤ net_count es f) (+ℤ_comm x y) ∙ +ℤ_assoc y x (net_count es f)
net_rearranged (twice r s) f = net_rearranged r f ∙ net_rearranged s f

pub order_free : (P : Params) {es gs : List Entry} → Rearranged es gs → sketch_of P es ≡ sketch_of P gs
order_free P r = net_decides P _ _ (net_rearranged r)
