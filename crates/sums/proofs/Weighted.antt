-- Sums over entries of the number times what its flow weighs. What a bucket counts and weighs, and the net count of a flow, are such sums.
use mathlib.Core.Path.{◌≡◌, refl, sym, ap, ap₂, ◌∙◌, fun_ext}
use mathlib.Core.Bool.{Bool, true, false, cond}
use mathlib.Core.List.{List, [], ◌∷◌, ◌++◌}
use Prim.Native.Nat.{ℕ, ◌+◌, ◌*◌}
use lib.Dec.{eqb}
use lib.IntN.{ℤ, pos, neg_ℤ, ◌+ℤ◌, ◌*ℤ◌, +ℤ_idl, +ℤ_assoc, neg_ℤ-+ℤ, *ℤ-zero}
use Rattle.field.specs.Residue.{residue}
use Rattle.field.specs.Parts.{up, down}
use Rattle.field.proofs.Parts.{int, up_neg, down_neg, up_mul, down_mul}
use Rattle.params.specs.declared.params.Params.{Params}
use Rattle.params.specs.Lists.{from}
use Rattle.params.specs.Params.{prime, size}
use Rattle.params.specs.Sketched.{sketched}
use Rattle.params.specs.Positions.{stands}
use Rattle.sketch.specs.Sketch.{Entry, sketch, count_at, weight_at, sketch_of}
use Rattle.sums.specs.History.{negated, net_count}

unfoldable pub weighted : (ℕ → ℤ) → List Entry → ℤ
weighted h [] = pos 0
weighted h (e ∷ es) = e.number *ℤ h e.flow +ℤ weighted h es

-- a weight of v where a test holds and 0 elsewhere
pub times_one : (z : ℤ) → z *ℤ pos 1 ≡ z
times_one z = omega (int, up_mul z (pos 1), down_mul z (pos 1))

times_picked : (z : ℤ) (b : Bool) (v : ℤ) → cond b (z *ℤ v) (pos 0) ≡ z *ℤ cond b v (pos 0)
times_picked z true v = refl
times_picked z false v = sym (*ℤ-zero z)

picked : (z : ℤ) (b : Bool) → cond b z (pos 0) ≡ z *ℤ cond b (pos 1) (pos 0)
picked z b = ap (λ (y : ℤ). cond b y (pos 0)) (sym (times_one z)) ∙ times_picked z b (pos 1)

pub count_weighted : (P : Params) (es : List Entry) (k : ℕ) → count_at P es k ≡ weighted (λ f. cond (stands P f k) (pos 1) (pos 0)) es
unfolding count_at weighted
count_weighted P [] k = refl
count_weighted P (e ∷ es) k = ap₂ ◌+ℤ◌ (picked e.number (stands P e.flow k)) (count_weighted P es k)

pub weight_weighted : (P : Params) (es : List Entry) (k : ℕ) → weight_at P es k ≡ weighted (λ f. cond (stands P f k) (pos (sketched P f)) (pos 0)) es
unfolding weight_at weighted
weight_weighted P [] k = refl
weight_weighted P (e ∷ es) k = ap₂ ◌+ℤ◌ (times_picked e.number (stands P e.flow k) (pos (sketched P e.flow))) (weight_weighted P es k)

pub net_weighted : (es : List Entry) (f : ℕ) → net_count es f ≡ weighted (λ g. cond (eqb g f) (pos 1) (pos 0)) es
unfolding net_count weighted
net_weighted [] f = refl
net_weighted (e ∷ es) f = ap₂ ◌+ℤ◌ (picked e.number (eqb e.flow f)) (net_weighted es f)

-- of two lists together, and of the opposite entries
pub times_neg : (z v : ℤ) → neg_ℤ z *ℤ v ≡ neg_ℤ (z *ℤ v)
times_neg z v =
    let u : up (neg_ℤ z *ℤ v) ≡ down z * up v + up z * down v = up_mul (neg_ℤ z) v ∙ ap₂ (λ (a b : ℕ). a * up v + b * down v) (up_neg z) (down_neg z) in
    let d : down (neg_ℤ z *ℤ v) ≡ down z * down v + up z * up v = down_mul (neg_ℤ z) v ∙ ap₂ (λ (a b : ℕ). a * down v + b * up v) (up_neg z) (down_neg z) in
    omega (int, up_mul z v, down_mul z v, up_neg (z *ℤ v), down_neg (z *ℤ v))

pub weighted_append : (h : ℕ → ℤ) (es gs : List Entry) → weighted h (es ++ gs) ≡ weighted h es +ℤ weighted h gs
unfolding weighted
weighted_append h [] gs = sym (+ℤ_idl (weighted h gs))
weighted_append h (e ∷ es) gs =
    ap (λ (z : ℤ). e.number *ℤ h e.flow +ℤ z) (weighted_append h es gs)
    ∙ sym (+ℤ_assoc (e.number *ℤ h e.flow) (weighted h es) (weighted h gs))

pub weighted_negated : (h : ℕ → ℤ) (es : List Entry) → weighted h (negated es) ≡ neg_ℤ (weighted h es)
unfolding weighted negated
weighted_negated h [] = refl
weighted_negated h (e ∷ es) =
    ap₂ ◌+ℤ◌ (times_neg e.number (h e.flow)) (weighted_negated h es)
    ∙ sym (neg_ℤ-+ℤ (e.number *ℤ h e.flow) (weighted h es))

-- a sketch goes by its size, and by what its buckets count and weigh
pub sketch_same : (P Q : Params) (es gs : List Entry) → size P ≡ size Q
    → ((k : ℕ) → count_at P es k ≡ count_at Q gs k) → ((k : ℕ) → weight_at P es k ≡ weight_at Q gs k)
    → sketch_of P es ≡ sketch_of Q gs
unfolding sketch_of
sketch_same P Q es gs s c w =
    ap₂ sketch
    (ap₂ (from 0) s (fun_ext c))
    (ap₂ (λ (n : ℕ) (h : ℕ → ℤ). from 0 n (λ k. residue prime (h k))) s (fun_ext w))
