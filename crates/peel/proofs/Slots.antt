-- Laws of a table's slots: what one of them comes to hold, and that the others hold what they held.
use mathlib.Core.Path.{◌≡◌, refl, ap, ap₂, ◌∙◌}
use mathlib.Core.List.{List, [], ◌∷◌, ◌++◌}
use Prim.Native.Nat.{ℕ, ◌+◌, ◌<◌}
use native.Mathlib.Nat.{zero-add}
use native.Mathlib.Numerals.{add-one}
use native.Mathlib.Omega.{arith}
use lib.IntN.{ℤ, pos}
use lib.ListN.{length, get_or, set, length-set}
use lib.Seq.{get_or-set_same, get_or-set_other}
use Rattle.sketch.specs.Sketch.{Entry, by}
use Rattle.sketch.proofs.Tables.{from_same}
use Rattle.peel.specs.Table.{row, table_of}
use Rattle.peel.proofs.Froms.{from_last}

-- slot w holds e now, and the others what they held
pub record Holds (w : ℕ) (e : Entry) (fs : List ℕ) (ns : List ℤ) (fs' : List ℕ) (ns' : List ℤ) : Type 0 where
  pub there : row fs' ns' w ≡ e
  pub others : (j : ℕ) → (j ≡ w → ⊥) → row fs' ns' j ≡ row fs ns j
  pub long : length fs' ≡ length fs
  pub long_numbers : length ns' ≡ length ns

module _ {w : ℕ} {fs : List ℕ} {ns : List ℤ} where
  -- with nothing written, with an entry written, and with a number alone
  pub holds_in_place : {i : ℕ} → w ≡ i → Holds w (row fs ns i) fs ns fs ns
  holds_in_place e = record { there = ap (row fs ns) e; others = λ j d. refl; long = refl; long_numbers = refl }

  pub holds_written : {f : ℕ} {c : ℤ} → w < length fs → w < length ns → Holds w (by f c) fs ns (set fs w f) (set ns w c)
  holds_written {f} {c} a b =
      record {
        there = ap₂ by (get_or-set_same fs w f 0 a) (get_or-set_same ns w c (pos 0) b);
        others = λ j d. ap₂ by (get_or-set_other fs w j f 0 d) (get_or-set_other ns w j c (pos 0) d);
        long = length-set fs w f;
        long_numbers = length-set ns w c;
      }

  pub holds_number : {c : ℤ} → w < length ns → Holds w (by (get_or fs w 0) c) fs ns fs (set ns w c)
  holds_number {c} b =
      record {
        there = ap (by (get_or fs w 0)) (get_or-set_same ns w c (pos 0) b);
        others = λ j d. ap (by (get_or fs j 0)) (get_or-set_other ns w j c (pos 0) d);
        long = refl;
        long_numbers = length-set ns w c;
      }

-- the table with one entry more, in its next slot
pub table_more : {w : ℕ} {e : Entry} {fs : List ℕ} {ns : List ℤ} {fs' : List ℕ} {ns' : List ℤ} → Holds w e fs ns fs' ns' → table_of fs' ns' (w + 1) ≡ table_of fs ns w ++ (e ∷ [])
unfolding table_of
table_more {w} {e} {fs} {ns} {fs'} {ns'} h =
    rw (add-one w)
    (from_last 0 w (row fs' ns')
    ∙ ap₂ (λ (t : List Entry) (x : Entry). t ++ (x ∷ [])) (from_same 0 w (row fs' ns') (row fs ns) (λ j p q. h.others j (λ z. omega arith))) (rw (zero-add w) h.there))

-- the table below n, with what is past it changed
pub table_kept : (fs fs' : List ℕ) (ns ns' : List ℤ) (n : ℕ) → ((k : ℕ) → k < n → get_or fs' k 0 ≡ get_or fs k 0) → ((k : ℕ) → k < n → get_or ns' k (pos 0) ≡ get_or ns k (pos 0)) → table_of fs' ns' n ≡ table_of fs ns n
unfolding table_of
table_kept fs fs' ns ns' n f g =
    from_same 0 n (row fs' ns') (row fs ns) (λ i a b. ap₂ by (f i (omega arith)) (g i (omega arith)))
