-- Laws of one array's turn of a take.
use mathlib.Core.Path.{◌≡◌, sym, ap, ◌∙◌}
use mathlib.Core.Bool.{Bool, false}
use mathlib.Core.List.{List}
use Prim.Native.Nat.{ℕ, ◌+◌, ◌*◌, ◌≤◌, ◌<◌}
use native.Mathlib.Omega.{arith}
use lib.ListN.{length, get_or, set}
use Rattle.params.specs.Lists.{touched}
use Rattle.params.specs.Positions.{stands_in}
use Rattle.params.proofs.Changes.{untouched, touch_next}
use Rattle.params.proofs.Standing.{standing_past}
use Rattle.sketch.proofs.Standing.{standing_next}

-- ys is xs as it was changed in the first i arrays; g i is the position in the next one
module _ {A : Type 0} (d : A) (m : ℕ) (g : ℕ → ℕ) (i : ℕ) (h : ℕ → A → A) (xs ys : List A) (low : 1 ≤ m) (small : g i < m) (inside : i * m + g i < length xs) (before : ys ≡ touched (stands_in i m g) h xs) where
  new : stands_in i m g (i * m + g i) ≡ false
  new = standing_past i m g (i * m + g i) low (omega arith)

  pub bucket_old : get_or ys (i * m + g i) d ≡ get_or xs (i * m + g i) d
  bucket_old = rw before (untouched (stands_in i m g) h xs (i * m + g i) d inside new)

  pub bucket_next : (zs : List A) → zs ≡ set ys (i * m + g i) (h (i * m + g i) (get_or ys (i * m + g i) d)) → zs ≡ touched (stands_in (i + 1) m g) h xs
  bucket_next zs e =
      e
      ∙ rw before (touch_next d (stands_in i m g) h xs (i * m + g i) inside new)
      ∙ ap (λ (t : ℕ → Bool). touched t h xs) (sym (standing_next m g i low small))
