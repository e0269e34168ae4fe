-- The fold of a list's sketch is the list's sketch with m2 buckets an array, from the start.
use mathlib.Core.Path.{◌≡◌, refl, sym, ap, ap₂, ◌∙◌}
use mathlib.Core.Bool.{Bool, true, false, cond}
use mathlib.Core.List.{List, [], ◌∷◌}
use Prim.Native.Nat.{ℕ, ◌+◌, ◌*◌, ◌/◌, ◌%◌, ◌<◌}
use native.Mathlib.Nat.{mod-lt, mod-add-div', mod-mod_of_dvd, dvd_of_mod-eq-zero}
use native.Mathlib.Decide.{ℕ_discrete}
use native.Mathlib.Omega.{arith}
use borrow.Author.Tests.{eq-eqb, ne_eqb, eqb-true}
use lib.Dec.{eqb, ltb}
use lib.IntN.{ℤ, pos, ◌+ℤ◌, ◌*ℤ◌}
use Rattle.field.specs.Residue.{residue}
use Rattle.params.specs.declared.params.Params.{Params}
use Rattle.params.specs.Params.{prime_of, size, resized}
use Rattle.params.specs.Sketched.{sketched}
use Rattle.params.specs.Positions.{stand, stands_in, sketched_stands, stands}
use Rattle.params.proofs.Searches.{and_true}
use Rattle.params.proofs.BucketNumbers.{stretch_within}
use Rattle.params.proofs.Standing.{standing_in}
use Rattle.buckets.proofs.Idsums.{prime_pos}
use Rattle.sketch.specs.Sketch.{Entry, sketch, count_at, weight_at, sketch_of}
use Rattle.sketch.proofs.Tables.{from_at, from_same}
use Rattle.fold.specs.Fold.{target, gathered, whole_count, whole_idsum, folded, Foldable}
use Rattle.fold.proofs.Sources.{apart, goes_to, array_below}
use Rattle.fold.proofs.Gathering.{gathered_same, gathered_none, gathered_plus_minus, gathered_one, gathered_residues}

-- the sum of what the entries whose flow stands in bucket k bring to it: what a bucket counts and what it weighs are such sums
unfoldable brought : (Entry → ℤ) → Params → List Entry → ℕ → ℤ
brought v P [] k = pos 0
brought v P (e ∷ es) k = cond (stands P e.flow k) (v e) (pos 0) +ℤ brought v P es k

count_brought : (P : Params) (es : List Entry) (k : ℕ) → count_at P es k ≡ brought (λ e. e.number) P es k
unfolding count_at brought
count_brought P [] k = refl
count_brought P (e ∷ es) k = ap (λ (z : ℤ). cond (stands P e.flow k) e.number (pos 0) +ℤ z) (count_brought P es k)

weight_brought : (P : Params) (es : List Entry) (k : ℕ) → weight_at P es k ≡ brought (λ e. e.number *ℤ pos (sketched P e.flow)) P es k
unfolding weight_at brought
weight_brought P [] k = refl
weight_brought P (e ∷ es) k = ap (λ (z : ℤ). cond (stands P e.flow k) (e.number *ℤ pos (sketched P e.flow)) (pos 0) +ℤ z) (weight_brought P es k)

module _ (P : Params) (m2 : ℕ) {c s : ℕ} (h : Foldable P.d P.m m2 c s) where
  -- a position with m2 buckets is the position with m, modulo m2, since m2 divides m
  pub stand_folded : (i x : ℕ) → stand P i x % m2 ≡ stand (resized P m2) i x
  unfolding stand
  stand_folded i x = mod-mod_of_dvd m2 _ (dvd_of_mod-eq-zero m2 h.no_rest)

  module _ (k : ℕ) (l : k < P.d * m2) where
    -- the array of bucket k, and the bucket of the larger sketch where what is sketched stands in it
    array : k / m2 < P.d
    array = array_below P.m m2 h.m2_low h.m_low h.no_rest P.d k l

    abbrev bucket_there : ℕ → ℕ
    bucket_there x = k / m2 * P.m + stand P (k / m2) x

    stand_below : (x : ℕ) → stand P (k / m2) x < P.m
    unfolding stand
    stand_below x = mod-lt _ h.m_low

    bucket_inside : (x : ℕ) → bucket_there x < P.d * P.m
    bucket_inside x = omega (arith, stand_below x, stretch_within P.d P.m (k / m2) array)

    stands_there : (x : ℕ) → sketched_stands P x (bucket_there x) ≡ true
    stands_there x =
        standing_in P.d P.m (λ i. stand P i x) (k / m2) (bucket_there x) array (omega arith) (omega (arith, stand_below x))
        ∙ eq-eqb (bucket_there x) (bucket_there x) refl

    -- it goes into bucket k exactly where it stands in k with m2 buckets
    goes_where_stands : (x : ℕ) → eqb (target P.m m2 (bucket_there x)) k ≡ sketched_stands (resized P m2) x k
    goes_where_stands x =
        ap (λ (j : ℕ). eqb j k) (goes_to P.m m2 h.m2_low h.m_low h.no_rest (k / m2) (stand P (k / m2) x) (stand_below x) ∙ ap (λ (j : ℕ). k / m2 * m2 + j) (stand_folded (k / m2) x))
        ∙ either_way (k / m2 * m2 + stand (resized P m2) (k / m2) x) k (ℕ_discrete _ k)
        ∙ sym (standing_in P.d m2 (λ i. stand (resized P m2) i x) (k / m2) k array (omega (arith, mod-add-div' k m2)) (omega (arith, mod-add-div' k m2, mod-lt k h.m2_low)))
      where
        either_way : (x y : ℕ) → Dec (x ≡ y) → eqb x y ≡ eqb y x
        either_way x y (yes p) = eq-eqb x y p ∙ sym (eq-eqb y x (sym p))
        either_way x y (no q) = ne_eqb x y q ∙ sym (ne_eqb y x (λ e. q (sym e)))

    -- of the buckets that go into k it stands in no other
    nowhere_else : (x i : ℕ) → target P.m m2 i ≡ k → sketched_stands P x i ≡ true → i ≡ bucket_there x
    unfolding target stands_in
    nowhere_else x i e st =
        let same : i / P.m ≡ k / m2 = (apart m2 (i / P.m) (i % P.m % m2) k (mod-lt (i % P.m) h.m2_low) e).0 in
        let stood : stand P (i / P.m) x ≡ i % P.m = eqb-true _ _ (and_true (ltb (i / P.m) P.d) _ st).1 in
        let moved : stand P (i / P.m) x ≡ stand P (k / m2) x = ap (λ (j : ℕ). stand P j x) same in
        let multiples : i / P.m * P.m ≡ k / m2 * P.m = ap (λ (j : ℕ). j * P.m) same in
        omega (arith, mod-add-div' i P.m)

    one_flow : (f : ℕ) (z : ℤ) → gathered (P.d * P.m) (target P.m m2) (λ i. cond (stands P f i) z (pos 0)) k ≡ cond (stands (resized P m2) f k) z (pos 0)
    unfolding sketched
    one_flow f z =
        gathered_one (P.d * P.m) (target P.m m2) _ k (bucket_there (sketched P f)) (bucket_inside (sketched P f)) (λ i m e d. at i e d (stands P f i) refl)
        ∙ ap₂ (λ (a b : Bool). cond a (cond b z (pos 0)) (pos 0)) (goes_where_stands (sketched P f)) (stands_there (sketched P f))
      where
        at : (i : ℕ) → target P.m m2 i ≡ k → (i ≡ bucket_there (sketched P f) → ⊥) → (b : Bool) → stands P f i ≡ b → cond b z (pos 0) ≡ pos 0
        at i e d true q = absurd (d (nowhere_else (sketched P f) i e q))
        at i e d false q = refl

    brought_folded : (v : Entry → ℤ) (es : List Entry) → gathered (P.d * P.m) (target P.m m2) (brought v P es) k ≡ brought v (resized P m2) es k
    unfolding brought
    brought_folded v [] = gathered_none (P.d * P.m) (target P.m m2) _ k (λ i m e. refl)
    brought_folded v (e ∷ es) =
        gathered_plus_minus (P.d * P.m) (target P.m m2) false (λ i. cond (stands P e.flow i) (v e) (pos 0)) (brought v P es) k
        ∙ ap₂ ◌+ℤ◌ (one_flow e.flow (v e)) (brought_folded v es)

  pub folded_list : (es : List Entry) → folded P m2 (sketch_of P es) ≡ sketch_of (resized P m2) es
  unfolding folded whole_count whole_idsum sketch_of sketched
  folded_list es = ap₂ sketch (from_same 0 (P.d * m2) _ _ (λ k a b. counts k (omega arith))) (from_same 0 (P.d * m2) _ _ (λ k a b. idsums k (omega arith)))
    where
      counts : (k : ℕ) → k < P.d * m2 → whole_count P.d P.m m2 (sketch_of P es).counts k ≡ count_at (resized P m2) es k
      counts k l =
          gathered_same (P.d * P.m) (target P.m m2) _ _ k (λ i m. from_at (size P) (count_at P es) i (pos 0) m ∙ count_brought P es i)
          ∙ brought_folded k l (λ e. e.number) es
          ∙ sym (count_brought (resized P m2) es k)

      idsums : (k : ℕ) → k < P.d * m2 → residue (prime_of P) (whole_idsum P.d P.m m2 (sketch_of P es).idsums k) ≡ residue (prime_of P) (weight_at (resized P m2) es k)
      idsums k l =
          ap (residue (prime_of P))
          (gathered_same (P.d * P.m) (target P.m m2) _ _ k
          (λ i m. ap pos (from_at (size P) (λ j. residue (prime_of P) (weight_at P es j)) i 0 m ∙ ap (residue (prime_of P)) (weight_brought P es i))))
          ∙ gathered_residues (P.d * P.m) (target P.m m2) (prime_of P) (brought (λ e. e.number *ℤ pos (sketched P e.flow)) P es) k prime_pos
          ∙ ap (residue (prime_of P)) (brought_folded k l (λ e. e.number *ℤ pos (sketched P e.flow)) es ∙ sym (weight_brought (resized P m2) es k))
