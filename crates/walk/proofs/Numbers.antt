-- Each ending has its own number, and what the test found goes by its two numbers.
use Rattle.std.proofs.Common.{rules}
use mathlib.Core.Path.{◌≡◌, refl, sym, ap, ◌∙◌}
use mathlib.Core.List.{[], ◌∷◌}
use Prim.Native.Nat.{ℕ}
use lib.ListN.{get_or}
use Rattle.walk.specs.declared.Ending.{Ending}
use Rattle.walk.specs.declared.Ending.TheVariants.{Clean, Stuck, Spent, Range, Full}
use Rattle.walk.specs.Endings.{ending_number}
use Rattle.walk.specs.Purity.{found_number, found_sketched}
use Rattle.std.specs.Prelude.{Option, Some}

-- the ending with that number; any one for 0, for 4 and for those above 6
abbrev numbered : ℕ → Ending
numbered n = get_or (Clean ∷ Clean ∷ Stuck ∷ Spent ∷ Clean ∷ Range ∷ Full ∷ []) n Clean

number_back : (e : Ending) → numbered (ending_number e) ≡ e
number_back e = search rules

pub ending_by_number : (e x : Ending) → ending_number e ≡ ending_number x → e ≡ x
ending_by_number e x h = sym (number_back e) ∙ ap numbered h ∙ number_back x

-- no ending has the number 4
pub never_four : (e : Ending) → ending_number e ≡ 4 → ⊥
never_four e h = search rules

pub found_by_number : (x y : Option ℕ) → found_number x ≡ found_number y → found_sketched x ≡ found_sketched y → x ≡ y
found_by_number x y e h = search rules

-- with the number 1 it is pure
pub pure_by_number : (x : Option ℕ) → found_number x ≡ 1 → x ≡ Some (found_sketched x)
pure_by_number x e = found_by_number x (Some (found_sketched x)) e refl
