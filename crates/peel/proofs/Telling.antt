-- The table that slots hold once their flows are told.
use mathlib.Core.Path.{◌≡◌, refl, sym, ap, ◌∙◌}
use mathlib.Core.Bool.{true, false}
use mathlib.Core.List.{List, map, ◌∷◌}
use Prim.Native.Nat.{ℕ, zero, suc, ◌/◌, ◌≤◌, ◌<◌}
use native.Mathlib.Omega.{arith}
use native.Mathlib.Decide.{dec_lt}
use borrow.Author.Tests.{lt-ltb, le-ltb}
use lib.Dec.{ltb}
use lib.IntN.{ℤ, pos}
use lib.ListN.{length, get_or, get_or-eq_default}
use lib.Seq.{ext_get_or}
use Rattle.params.specs.declared.params.Params.{Params}
use Rattle.params.specs.Lists.{touched, from}
use Rattle.params.specs.Params.{fingerprinted}
use Rattle.params.specs.Sketched.{told}
use Rattle.params.proofs.Changes.{length_touched, get_d_touched, untouched}
use Rattle.params.proofs.Searches.{same_either}
use Rattle.sketch.specs.Sketch.{by}
use Rattle.sketch.proofs.Tables.{from_same}
use Rattle.walk.specs.Shown.{tell}
use Rattle.peel.specs.Table.{row, table_of, told_slots}

map_of_from : {A : Type 0} (f : A → A) (k n : ℕ) (h : ℕ → A) → map f (from k n h) ≡ from k n (λ i. f (h i))
unfolding from
map_of_from f k zero h = refl
map_of_from {A} f k (suc n) h = ap (λ (l : List A). f (h k) ∷ l) (map_of_from f (suc k) n h)

module _ (P : Params) (n : ℕ) (fs : List ℕ) where
  pub told_long : length (told_slots P n fs) ≡ length fs
  told_long = length_touched _ _ fs

  -- a table in the first n slots
  pub told_table : (ns : List ℤ) → n ≤ length fs → table_of (told_slots P n fs) ns n ≡ map (tell P) (table_of fs ns n)
  unfolding table_of
  told_table ns l =
      from_same 0 n _ _ (λ k a b. ap (λ (f : ℕ). by f (get_or ns k (pos 0))) (get_d_touched (λ i. ltb i n) (λ i x. told P x) fs k 0 (omega arith) ∙ rw (lt-ltb k n (omega arith))))
      ∙ sym (map_of_from (tell P) 0 n (row fs ns))

  -- a slot past them stays 0
  pub told_past : (k : ℕ) → n ≤ k → get_or fs k 0 ≡ 0 → get_or (told_slots P n fs) k 0 ≡ 0
  told_past k u e = go (dec_lt k (length fs))
    where
      go : Dec (k < length fs) → get_or (told_slots P n fs) k 0 ≡ 0
      go (yes l) = untouched _ _ fs k 0 l (le-ltb k n u) ∙ e
      go (no l) = get_or-eq_default (told_slots P n fs) 0 {n = k} (omega (arith, told_long))

  -- without fingerprints nothing changes
  pub told_plain : fingerprinted P ≡ false → fs ≡ told_slots P n fs
  unfolding told
  told_plain e =
      rw e (sym (ext_get_or 0 _ _ (length_touched _ _ fs) (λ j l. get_d_touched (λ i. ltb i n) (λ i x. x) fs j 0 (rw length_touched at l) ∙ same_either (ltb j n) (get_or fs j 0))))
