-- A loop that closes a table, an entry at a time.
use mathlib.Core.Path.{◌≡◌, refl, sym, ap, ap₂, ◌∙◌}
use mathlib.Core.Bool.{true, false, cond}
use mathlib.Core.List.{List, [], ◌∷◌, ◌++◌, append_assoc, append-nil}
use Prim.Native.Nat.{ℕ, suc, ◌+◌, ◌-◌, ◌<◌, ◌≤◌}
use native.Mathlib.Nat.{sub-zero}
use native.Mathlib.Numerals.{add-one}
use native.Mathlib.Omega.{arith}
use lib.IntN.{ℤ, pos}
use lib.ListN.{get_or}
use Rattle.field.specs.Parts.{up, down}
use Rattle.params.specs.Lists.{from}
use Rattle.buckets.specs.Buckets.{is_zero}
use Rattle.sketch.specs.Sketch.{Entry}
use Rattle.sketch.proofs.Tables.{from_same}
use Rattle.walk.specs.Walk.{close, summed, lost_by, extra_by}
use Rattle.peel.specs.Table.{row, table_of}
use Rattle.peel.proofs.Slots.{Holds, table_more}

-- of n entries the first i are gone over: the first w slots hold those of them that are kept, whose figures are lost and extra
pub record Closing (fs₀ : List ℕ) (ns₀ : List ℤ) (n i w lost extra : ℕ) (fs : List ℕ) (ns : List ℤ) : Type 0 where
  pub table : table_of fs ns w ++ close (from i (n - i) (row fs ns)) ≡ close (table_of fs₀ ns₀ n)
  pub lost_by_lem : lost ≡ lost_by (table_of fs ns w)
  pub extra_by_lem : extra ≡ extra_by (table_of fs ns w)

pub closing_none : {fs : List ℕ} {ns : List ℤ} {n : ℕ} → Closing fs ns n 0 0 0 0 fs ns
unfolding table_of from summed
closing_none {fs} {ns} {n} = record { table = ap (λ (k : ℕ). close (from 0 k (row fs ns))) (sub-zero n); lost_by_lem = refl; extra_by_lem = refl }

summed_last : (part : ℤ → ℕ) (t : List Entry) (e : Entry) → summed part (t ++ (e ∷ [])) ≡ summed part t + part e.number
unfolding summed
summed_last part [] e = omega arith
summed_last part (x ∷ t) e = omega (arith, summed_last part t e)

module _ {fs₀ : List ℕ} {ns₀ : List ℤ} {n i w lost extra : ℕ} {fs : List ℕ} {ns : List ℤ} (c : Closing fs₀ ns₀ n i w lost extra fs ns) where
  pub closing_all : n ≤ i → table_of fs ns w ≡ close (table_of fs₀ ns₀ n)
  unfolding from close
  closing_all l =
      let e : n - i ≡ 0 = omega arith in
      sym (append-nil (table_of fs ns w)) ∙ rw e at c.table

  module _ (l : i < n) where
    abbrev rest : List ℕ → List ℤ → List Entry
    rest fs' ns' = from (i + 1) (n - (i + 1)) (row fs' ns')

    step : close (from i (n - i) (row fs ns)) ≡ cond (is_zero (get_or ns i (pos 0))) (close (rest fs ns)) (row fs ns i ∷ close (rest fs ns))
    unfolding from close
    step =
        let e : n - i ≡ suc (n - (i + 1)) = omega arith in
        ap (λ (k : ℕ). close (from i k (row fs ns))) e ∙ rw add-one

    pub closing_past : is_zero (get_or ns i (pos 0)) ≡ true → Closing fs₀ ns₀ n (i + 1) w lost extra fs ns
    closing_past e =
        record {
          table = sym (ap (λ (t : List Entry). table_of fs ns w ++ t) (step ∙ rw e)) ∙ c.table;
          lost_by_lem = c.lost_by_lem;
          extra_by_lem = c.extra_by_lem;
        }

    -- entry i is held by slot w
    module _ {fs' : List ℕ} {ns' : List ℤ} (h : Holds w (row fs ns i) fs ns fs' ns') (u : w ≤ i) where
      same_rest : rest fs' ns' ≡ rest fs ns
      same_rest = from_same (i + 1) (n - (i + 1)) (row fs' ns') (row fs ns) (λ j p q. h.others j (λ z. omega arith))

      figure : (part : ℤ → ℕ) (sum : ℕ) → sum ≡ summed part (table_of fs ns w) → sum + part (get_or ns i (pos 0)) ≡ summed part (table_of fs' ns' (w + 1))
      figure part sum e = omega (arith, e, ap (summed part) (table_more h), summed_last part (table_of fs ns w) (row fs ns i))

      pub closing_keep : is_zero (get_or ns i (pos 0)) ≡ false → Closing fs₀ ns₀ n (i + 1) (w + 1) (lost + up (get_or ns i (pos 0))) (extra + down (get_or ns i (pos 0))) fs' ns'
      closing_keep e =
          record {
            table =
                ap₂ (λ (s t : List Entry). s ++ close t) (table_more h) same_rest
                ∙ append_assoc (table_of fs ns w) (row fs ns i ∷ []) _
                ∙ sym (ap (λ (t : List Entry). table_of fs ns w ++ t) (step ∙ rw e))
                ∙ c.table;
            lost_by_lem = figure up lost c.lost_by_lem;
            extra_by_lem = figure down extra c.extra_by_lem;
          }
