-- Laws of a part of a list that is lent, and comes back with one place changed.
use mathlib.Core.Path.{◌≡◌, ap, ◌∙◌}
use mathlib.Core.Bool.{Bool, true, false, cond}
use mathlib.Core.List.{List}
use Prim.Native.Nat.{ℕ, ◌+◌, ◌≤◌, ◌<◌}
use native.Mathlib.Omega.{arith}
use borrow.Rule.Slice.PartMut.{put_mid, set_mid_at}
use lib.Dec.{eqb}
use lib.ListN.{length, get_or, set, take, drop, length-take, length-drop}
use lib.Seq.{get_or-take, get_or-drop}
use Rattle.params.specs.Lists.{touched}
use Rattle.params.proofs.Changes.{length_touched, untouched, touch_next}

module _ {A : Type 0} where
  -- a part from a, of m places
  pub get_d_part : (xs : List A) (a m j : ℕ) (d : A) → j < m → get_or (take m (drop a xs)) j d ≡ get_or xs (a + j) d
  get_d_part xs a m j d h = get_or-take m (drop a xs) j d h ∙ get_or-drop a xs j d

  part_long : (xs : List A) (a k j : ℕ) → a + k ≤ length xs → j < k → j < length (take k (drop a xs))
  part_long xs a k j h l = simp (length-take, length-drop) (omega arith)

  -- what stands in a part of a list that was touched elsewhere
  pub part_old : (d : A) (t : ℕ → Bool) (g : ℕ → A → A) (xs : List A) (a k j : ℕ) → a + k ≤ length xs → j < k → t (a + j) ≡ false
      → get_or (take k (drop a (touched t g xs))) j d ≡ get_or xs (a + j) d
  part_old d t g xs a k j h l e = get_d_part (touched t g xs) a k j d l ∙ untouched t g xs (a + j) d (omega arith) e

  -- a part that was lent comes back with its place j changed: the whole is touched at one place more
  pub part_next : (d : A) (t : ℕ → Bool) (g : ℕ → A → A) (xs : List A) (a k j : ℕ) → a + k ≤ length xs → j < k → t (a + j) ≡ false
      → put_mid a k (touched t g xs) (set (take k (drop a (touched t g xs))) j (g (a + j) (get_or (take k (drop a (touched t g xs))) j d)))
      ≡ touched (λ i. cond (eqb i (a + j)) true (t i)) g xs
  part_next d t g xs a k j h l e =
      set_mid_at a k j (touched t g xs) _ (part_long (touched t g xs) a k j (rw length_touched h) l)
      ∙ ap (λ (x : A). set (touched t g xs) (a + j) (g (a + j) x)) (get_d_part (touched t g xs) a k j d l)
      ∙ touch_next d t g xs (a + j) (omega arith) e
