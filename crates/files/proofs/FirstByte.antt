-- The first byte of a file: the first of its bytes, if there are any.
use mathlib.Core.Path.{◌≡◌, refl}
use mathlib.Core.Bool.{true, false}
use mathlib.Core.List.{List, [], ◌∷◌}
use Prim.Native.Nat.{ℕ}
use native.Mathlib.Omega.{arith}
use borrow.Author.Tests.{lt-leb}
use lib.Dec.{leb}
use lib.ListN.{length, get_or}
use Rattle.std.specs.Prelude.{Option, Some, None, slice_get}

pub first_some : (bs : List ℕ) {x : ℕ} → Some x ≡ slice_get bs 0 → (leb (length bs) 0 ≡ false) × (get_or bs 0 0 ≡ x)
first_some [] e = cc
first_some (y ∷ bs) e = (lt-leb (length (y ∷ bs)) 0 (omega arith), cc)

pub first_none : (bs : List ℕ) → ◌≡◌ {A = Option ℕ} None (slice_get bs 0) → (leb (length bs) 0 ≡ true) × (get_or bs 0 0 ≡ 0)
first_none [] e = (refl, refl)
first_none (y ∷ bs) e = cc
