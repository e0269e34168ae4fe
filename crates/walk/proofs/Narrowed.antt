-- A rule whose test asks more of a flow is sound where the wider one is; so what holds of every walk by a sound rule holds of walks by it.
use Rattle.std.proofs.Common.{rules}
use mathlib.Core.Path.{◌≡◌}
use mathlib.Core.Bool.{Bool, true}
use Prim.Native.Nat.{ℕ}
use Rattle.walk.specs.Walk.{Rule}
use Rattle.walk.specs.Purity.{only_if}
use Rattle.walk.proofs.Balance.{Sound}
use Rattle.std.specs.Prelude.{Option, Some}

-- the rule R whose test passes only where what was found passes `ok`
abbrev pub narrowed : (ℕ → Bool) → Rule → Rule
narrowed ok R =
    record {
      prime = R.prime;
      arrays = R.arrays;
      index = R.index;
      stands = R.stands;
      test = λ k c s. only_if ok (R.test k c s);
    }

-- what is pure is what was found, and passes `ok`
pub only_if_pure : (ok : ℕ → Bool) (w : Option ℕ) (f : ℕ) → only_if ok w ≡ Some f → w ≡ Some f
only_if_pure ok w f e = search rules

pub only_if_passes : (ok : ℕ → Bool) (w : Option ℕ) (f : ℕ) → only_if ok w ≡ Some f → ok f ≡ true
only_if_passes ok w f e = search rules

pub sound_narrowed : (ok : ℕ → Bool) (R : Rule) → Sound R → Sound (narrowed ok R)
sound_narrowed ok R h = search rules
