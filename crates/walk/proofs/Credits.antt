-- What a credit and the close make of weighted sums over the table.
use Rattle.std.proofs.Common.{rules}
use mathlib.Core.Path.{◌≡◌, refl, sym, ◌∙◌}
use mathlib.Core.List.{List, [], ◌∷◌}
use Prim.Native.Nat.{ℕ}
use borrow.Author.Tests.{eqb-true}
use lib.IntN.{ℤ, ◌+ℤ◌, ◌*ℤ◌, +ℤ_idl, +ℤ_idr}
use Rattle.field.proofs.Parts.{int, up_down_add}
use Rattle.sketch.specs.Sketch.{Entry}
use Rattle.sums.proofs.NetCounts.{times_sum}
use Rattle.sums.proofs.Weighted.{weighted}
use Rattle.walk.specs.Walk.{credited, close}

-- a sum of three, in another order
last_second : (x y z : ℤ) → (x +ℤ y) +ℤ z ≡ (x +ℤ z) +ℤ y
last_second x y z = omega (int, up_down_add (x +ℤ y) z, up_down_add x y, up_down_add (x +ℤ z) y, up_down_add x z)

module _ (h : ℕ → ℤ) where
  pub weighted_credited : (f : ℕ) (c : ℤ) (t : List Entry) → weighted h (credited f c t) ≡ weighted h t +ℤ c *ℤ h f
  unfolding weighted credited
  weighted_credited f c [] = +ℤ_idr (c *ℤ h f) ∙ sym (+ℤ_idl (c *ℤ h f))
  weighted_credited f c (e ∷ es) = search (rules, weighted_credited f c es, eqb-true, last_second, times_sum, weighted)

  -- an entry with count 0 weighs nothing
  pub weighted_close : (t : List Entry) → weighted h (close t) ≡ weighted h t
  unfolding weighted close
  weighted_close [] = refl
  weighted_close (e ∷ es) = search (rules, weighted_close es)
