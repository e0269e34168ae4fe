-- With a sketch's parameters, the balance says that the sketch of the table that is shown, added to the remainder, is the input; where nothing remains, it is the input itself.
use mathlib.Core.Path.{◌≡◌, refl, sym, ap, ap₂, ◌∙◌}
use mathlib.Core.Bool.{true, false}
use mathlib.Core.List.{List, [], ◌∷◌, map}
use Prim.Native.Nat.{ℕ, ◌<◌}
use native.Mathlib.Omega.{arith}
use lib.IntN.{ℤ, pos, ◌+ℤ◌, ◌*ℤ◌, +ℤ_comm, +ℤ_idl}
use lib.ListN.{length, get_or}
use lib.Seq.{ext_get_or}
use Rattle.field.specs.Residue.{residue}
use Rattle.field.proofs.Residues.{residue_below, residue_own, residue_twice, residue_add_same}
use Rattle.params.specs.declared.params.Params.{Params}
use Rattle.params.specs.Lists.{map_from, touched}
use Rattle.params.specs.Params.{prime, size}
use Rattle.params.specs.Sketched.{sketched, is_sketched}
use Rattle.params.proofs.Searches.{and_true}
use Rattle.params.proofs.Extended.{sketched_told}
use Rattle.sketch.specs.Sketch.{Sketch, sketch, count_in, idsum_in, Entry, count_at, weight_at, sketch_of}
use Rattle.sums.specs.Sums.{combined}
use Rattle.params.proofs.Changes.{length_touched, get_d_touched, touched_all}
use Rattle.sketch.proofs.Tables.{length_from, from_at}
use Rattle.buckets.proofs.Idsums.{prime_pos}
use Rattle.sums.proofs.Weighted.{weighted, count_weighted, weight_weighted}
use Rattle.walk.specs.Walk.{all, nothing_remains}
use Rattle.walk.specs.Purity.{rule_of}
use Rattle.walk.specs.Shown.{tell}
use Rattle.walk.proofs.Alls.{nothing_count, nothing_idsum}
use Rattle.walk.proofs.Balance.{Balanced, once, own}

-- a change at every place
module _ {A : Type 0} (g : ℕ → A → A) (xs : List A) (d : A) where
  everywhere : map_from 0 g xs ≡ touched (λ k. true) g xs
  everywhere = sym (touched_all (λ k. true) g xs d (λ j l. refl))

  map_long : length (map_from 0 g xs) ≡ length xs
  map_long = ap length everywhere ∙ length_touched (λ k. true) g xs

  map_at : (j : ℕ) → j < length xs → get_or (map_from 0 g xs) j d ≡ g j (get_or xs j d)
  map_at j l = ap (λ (ys : List A). get_or ys j d) everywhere ∙ get_d_touched (λ k. true) g xs j d l

-- a weight by what is sketched, over a table that holds that and over the one that is shown
weighted_told : (P : Params) (w : ℕ → ℤ) (t : List Entry) → all (λ e. is_sketched P e.flow) t ≡ true → weighted (λ f. w (sketched P f)) (map (tell P) t) ≡ weighted w t
unfolding weighted all
weighted_told P w [] e = refl
weighted_told P w (x ∷ xs) e =
    let h = and_true (is_sketched P x.flow) _ e in
    ap₂ ◌+ℤ◌ (ap (λ (n : ℕ). x.number *ℤ w n) (sketched_told P x.flow h.0)) (weighted_told P w xs h.1)

-- a summand's residue does for it
residue_inner : (a w : ℤ) → residue prime (a +ℤ pos (residue prime w)) ≡ residue prime (a +ℤ w)
residue_inner a w =
    ap (residue prime) (+ℤ_comm a (pos (residue prime w)))
    ∙ residue_add_same prime prime_pos (pos (residue prime w)) w a (residue_twice prime prime_pos w)
    ∙ ap (residue prime) (+ℤ_comm w a)

module _ (P : Params) (S remainder : Sketch) (t : List Entry) (flows : all (λ e. is_sketched P e.flow) t ≡ true) (counts_long : length S.counts ≡ size P) (idsums_long : length S.idsums ≡ size P) (h : Balanced (rule_of P) S remainder t) where
  -- the table as it is shown
  abbrev shown : List Entry
  shown = map (tell P) t

  pub count_back : (k : ℕ) → k < size P → count_in remainder k +ℤ count_in (sketch_of P shown) k ≡ count_in S k
  unfolding sketch_of
  count_back k l =
      ap (◌+ℤ◌ (count_in remainder k)) (from_at (size P) (count_at P shown) k (pos 0) l ∙ count_weighted P shown k ∙ weighted_told P (once (rule_of P) k) t flows)
      ∙ h.counts k (omega arith)

  idsum_back : (k : ℕ) → k < size P → residue prime (pos (idsum_in remainder k) +ℤ pos (idsum_in (sketch_of P shown) k)) ≡ idsum_in S k
  unfolding sketch_of
  idsum_back k l =
      ap (λ (r : ℕ). residue prime (pos (idsum_in remainder k) +ℤ pos r)) (from_at (size P) (λ k. residue prime (weight_at P shown k)) k 0 l)
      ∙ residue_inner (pos (idsum_in remainder k)) (weight_at P shown k)
      ∙ ap (λ (w : ℤ). residue prime (pos (idsum_in remainder k) +ℤ w)) (weight_weighted P shown k ∙ weighted_told P (own (rule_of P) k) t flows)
      ∙ h.idsums k (omega arith)

  pub rebuilt : combined false remainder (sketch_of P shown) ≡ S
  unfolding combined
  rebuilt =
      sym (ap₂ sketch
      (ext_get_or (pos 0) S.counts _ (sym (map_long _ remainder.counts (pos 0) ∙ h.counts_long))
      (λ k l. sym (map_at _ remainder.counts (pos 0) k (omega (arith, h.counts_long)) ∙ count_back k (omega arith))))
      (ext_get_or 0 S.idsums _ (sym (map_long _ remainder.idsums 0 ∙ h.idsums_long))
      (λ k l. sym (map_at _ remainder.idsums 0 k (omega (arith, h.idsums_long)) ∙ idsum_back k (omega arith)))))

  -- where nothing remains
  module _ (e : nothing_remains remainder ≡ true) where
    count_alone : (k : ℕ) → k < size P → count_in (sketch_of P shown) k ≡ count_in S k
    count_alone k l =
        sym (ap (λ (z : ℤ). z +ℤ count_in (sketch_of P shown) k) (nothing_count remainder e k) ∙ +ℤ_idl (count_in (sketch_of P shown) k))
        ∙ count_back k l

    idsum_alone : (k : ℕ) → k < size P → idsum_in (sketch_of P shown) k ≡ idsum_in S k
    unfolding sketch_of
    idsum_alone k l =
        let r : idsum_in (sketch_of P shown) k ≡ residue prime (weight_at P shown k) = from_at (size P) (λ k. residue prime (weight_at P shown k)) k 0 l in
        let low : residue prime (weight_at P shown k) < prime = residue_below prime prime_pos (weight_at P shown k) in
        sym (ap (λ (x : ℕ). residue prime (pos x +ℤ pos (idsum_in (sketch_of P shown) k))) (nothing_idsum remainder e k)
        ∙ ap (residue prime) (+ℤ_idl (pos (idsum_in (sketch_of P shown) k)))
        ∙ residue_own prime prime_pos (idsum_in (sketch_of P shown) k) (omega arith))
        ∙ idsum_back k l

    pub rebuilt_alone : sketch_of P shown ≡ S
    unfolding sketch_of
    rebuilt_alone =
        sym (ap₂ sketch
        (ext_get_or (pos 0) S.counts _ (counts_long ∙ sym (length_from 0 (size P) (count_at P shown))) (λ k l. sym (count_alone k (omega arith))))
        (ext_get_or 0 S.idsums _ (idsums_long ∙ sym (length_from 0 (size P) (λ k. residue prime (weight_at P shown k)))) (λ k l. sym (idsum_alone k (omega arith)))))
