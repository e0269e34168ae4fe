-- Folds of folds: to m2 and then to m3 is to m3 at once, and to m itself changes nothing.
use mathlib.Core.Path.{◌≡◌, sym, ap, ap₂, ◌∙◌, fun_ext}
use mathlib.Core.Bool.{Bool, cond}
use mathlib.Core.List.{List}
use Prim.Native.Nat.{ℕ, ◌+◌, ◌*◌, ◌/◌, ◌%◌, ◌≤◌, ◌<◌}
use native.Mathlib.Nat.{mod-lt, mod-mod, mod-add-div', mod-mod_of_dvd, dvd_of_mod-eq-zero, mod-eq-zero_of_dvd, dvd_trans}
use native.Mathlib.Omega.{arith}
use borrow.Author.Tests.{eq-eqb}
use lib.IntN.{ℤ, pos}
use lib.ListN.{length, get_or}
use lib.Seq.{ext_get_or}
use Rattle.field.specs.Residue.{residue}
use Rattle.field.proofs.Residues.{residue_own}
use Rattle.params.specs.declared.params.Params.{Params}
use Rattle.params.specs.Lists.{from}
use Rattle.params.specs.Params.{prime, prime_of, size, resized}
use Rattle.buckets.proofs.Idsums.{prime_pos}
use Rattle.sketch.specs.Sketch.{Sketch, sketch, idsum_in}
use Rattle.sketch.proofs.Tables.{length_from, from_at, from_same}
use Rattle.fold.specs.Fold.{target, gathered, whole_count, whole_idsum, folded, Foldable}
use Rattle.fold.proofs.Sources.{quotient_of, rest_of, target_inside}
use Rattle.fold.proofs.Gathering.{gathered_same, gathered_one, gathered_twice, gathered_residues}

-- where a bucket goes from where it goes is where it goes at once
target_twice : (m m2 m3 : ℕ) → 1 ≤ m2 → m2 % m3 ≡ 0 → (i : ℕ) → target m2 m3 (target m m2 i) ≡ target m m3 i
unfolding target
target_twice m m2 m3 low whole i =
    let v = mod-lt (i % m) low in
    ap₂ (λ (a b : ℕ). a * m3 + b % m3) (quotient_of m2 (i / m) (i % m % m2) v) (rest_of m2 (i / m) (i % m % m2) v)
    ∙ ap (λ (j : ℕ). i / m * m3 + j) (mod-mod_of_dvd m3 (i % m) (dvd_of_mod-eq-zero m3 whole))

module _ (P : Params) (m2 m3 : ℕ) {c s e t : ℕ} (h : Foldable P.d P.m m2 c s) (g : Foldable P.d m2 m3 e t) where
  -- m3 divides m too
  pub foldable_on : Foldable P.d P.m m3 c s
  foldable_on =
      record {
        d_high = h.d_high;
        m_low = h.m_low;
        m_high = h.m_high;
        m2_low = g.m2_low;
        no_rest = mod-eq-zero_of_dvd m3 (dvd_trans m3 (dvd_of_mod-eq-zero m3 g.no_rest) (dvd_of_mod-eq-zero m2 h.no_rest));
        counts_long = h.counts_long;
        idsums_long = h.idsums_long;
      }

  gathered_on : (x : ℕ → ℤ) (k : ℕ) → gathered (P.d * m2) (target m2 m3) (gathered (P.d * P.m) (target P.m m2) x) k ≡ gathered (P.d * P.m) (target P.m m3) x k
  gathered_on x k =
      gathered_twice (P.d * P.m) (P.d * m2) (target P.m m2) (target m2 m3) x k (λ i l. target_inside P.d P.m m2 i h.m_low h.m2_low l)
      ∙ ap (λ (to : ℕ → ℕ). gathered (P.d * P.m) to x k) (fun_ext (target_twice P.m m2 m3 h.m2_low g.no_rest))

  pub count_on : (cs : List ℤ) (k : ℕ) → whole_count P.d m2 m3 (from 0 (P.d * m2) (whole_count P.d P.m m2 cs)) k ≡ whole_count P.d P.m m3 cs k
  unfolding whole_count
  count_on cs k =
      gathered_same (P.d * m2) (target m2 m3) _ _ k (λ i l. from_at (P.d * m2) _ i (pos 0) l)
      ∙ gathered_on (λ s. get_or cs s (pos 0)) k

  pub folded_twice : (S : Sketch) → folded (resized P m2) m3 (folded P m2 S) ≡ folded P m3 S
  unfolding folded whole_idsum
  folded_twice S =
      ap₂ sketch
      (from_same 0 (P.d * m3) _ _ (λ k a b. count_on S.counts k))
      (from_same 0 (P.d * m3) _ _ (λ k a b.
      ap (residue (prime_of P)) (gathered_same (P.d * m2) (target m2 m3) _ _ k (λ i l. ap pos (from_at (P.d * m2) (λ j. residue (prime_of P) (whole_idsum P.d P.m m2 S.idsums j)) i 0 l)))
      ∙ gathered_residues (P.d * m2) (target m2 m3) (prime_of P) (whole_idsum P.d P.m m2 S.idsums) k prime_pos
      ∙ ap (residue (prime_of P)) (gathered_on (λ s. pos (get_or S.idsums s 0)) k)))

-- folded to m itself: each bucket goes to its own place
module _ (P : Params) (S : Sketch) (counts_long : length S.counts ≡ size P) (idsums_long : length S.idsums ≡ size P) (below : (k : ℕ) → k < size P → idsum_in S k < prime) where
  own_place : (i : ℕ) → target P.m P.m i ≡ i
  unfolding target
  own_place i = omega (arith, mod-mod i P.m, mod-add-div' i P.m)

  gathered_own : (x : ℕ → ℤ) (k : ℕ) → k < size P → gathered (P.d * P.m) (target P.m P.m) x k ≡ x k
  gathered_own x k l =
      gathered_one (P.d * P.m) (target P.m P.m) x k k l (λ i m e d. absurd (d (sym (own_place i) ∙ e)))
      ∙ ap (λ (b : Bool). cond b (x k) (pos 0)) (eq-eqb (target P.m P.m k) k (own_place k))

  pub folded_same : folded P P.m S ≡ S
  unfolding folded whole_count whole_idsum
  folded_same =
      ap₂ sketch
      (ext_get_or (pos 0) _ _ (length_from 0 (size P) _ ∙ sym counts_long)
      (λ k l. let i : k < size P = omega (arith, length_from 0 (size P) (whole_count P.d P.m P.m S.counts)) in from_at (size P) _ k (pos 0) i ∙ gathered_own (λ s. get_or S.counts s (pos 0)) k i))
      (ext_get_or 0 _ _ (length_from 0 (size P) _ ∙ sym idsums_long)
      (λ k l. let i : k < size P = omega (arith, length_from 0 (size P) (λ j. residue (prime_of P) (whole_idsum P.d P.m P.m S.idsums j))) in
      from_at (size P) _ k 0 i ∙ ap (residue (prime_of P)) (gathered_own (λ s. pos (get_or S.idsums s 0)) k i) ∙ residue_own prime prime_pos (idsum_in S k) (below k i)))
