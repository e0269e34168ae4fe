-- One array's turn of an update: its stretch is lent, comes back with one place changed, and the whole is changed in one array more.
use mathlib.Core.Path.{◌≡◌, sym, ap, ◌∙◌}
use mathlib.Core.Bool.{Bool, false}
use mathlib.Core.List.{List}
use Prim.Native.Nat.{ℕ, ◌+◌, ◌*◌, ◌-◌, ◌≤◌, ◌<◌}
use native.Mathlib.Omega.{arith}
use lib.ListN.{length, get_or, set, take, drop}
use borrow.Rule.Slice.PartMut.{put_mid}
use Rattle.params.specs.Lists.{touched}
use Rattle.params.specs.Positions.{stands_in}
use Rattle.params.proofs.Changes.{touched_none}
use Rattle.params.proofs.Standing.{standing_past}
use Rattle.sketch.proofs.LentParts.{part_old, part_next}
use Rattle.sketch.proofs.Standing.{standing_none, standing_next}

pub turns_start : {A : Type 0} (d : A) (m : ℕ) (g : ℕ → ℕ) (h : ℕ → A → A) (xs : List A) → xs ≡ touched (stands_in 0 m g) h xs
turns_start d m g h xs = sym (ap (λ (t : ℕ → Bool). touched t h xs) (standing_none m g) ∙ touched_none h xs d)

-- ys is xs as it was changed in the first i arrays; g i is the position in the stretch that is lent now
module _ {A : Type 0} (d : A) (m : ℕ) (g : ℕ → ℕ) (i : ℕ) (h : ℕ → A → A) (xs ys : List A) (low : 1 ≤ m) (long : i * m + m ≤ length xs) (small : g i < m) (before : ys ≡ touched (stands_in i m g) h xs) where
  -- what is lent
  abbrev lent : List A
  lent = take (i * m + m - i * m) (drop (i * m) ys)

  new : stands_in i m g (i * m + g i) ≡ false
  new = standing_past i m g (i * m + g i) low (omega arith)

  pub turn_old : get_or lent (g i) d ≡ get_or xs (i * m + g i) d
  turn_old =
      rw before
      (part_old d (stands_in i m g) h xs (i * m) (i * m + m - i * m) (g i) (omega arith) (omega arith) new)

  pub turn_next : (zs : List A) → zs ≡ set lent (g i) (h (i * m + g i) (get_or lent (g i) d)) → put_mid (i * m) (i * m + m - i * m) ys zs ≡ touched (stands_in (i + 1) m g) h xs
  turn_next zs e =
      rw (e, before)
      (part_next d (stands_in i m g) h xs (i * m) (i * m + m - i * m) (g i) (omega arith) (omega arith) new
      ∙ ap (λ (t : ℕ → Bool). touched t h xs) (sym (standing_next m g i low small)))
