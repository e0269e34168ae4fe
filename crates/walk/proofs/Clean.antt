-- A walk by any rule ends clean exactly where nothing remains.
use mathlib.Core.Path.{◌≡◌}
use mathlib.Core.Bool.{true}
use Prim.Native.Nat.{ℕ}
use Rattle.sketch.specs.Sketch.{Sketch}
use Rattle.walk.specs.declared.Ending.TheVariants.{Clean}
use Rattle.walk.specs.Walk.{Rule, Outcome, nothing_remains, walk}
use Rattle.walk.proofs.Carried.{carried}

-- clean means that nothing remains, and where nothing remains the end is clean
pub record Cleanly (o : Outcome) : Type 0 where
  pub clean : o.ending ≡ Clean → nothing_remains o.remainder ≡ true
  pub nothing : nothing_remains o.remainder ≡ true → o.ending ≡ Clean

pub cleanly : (R : Rule) (slots allowance : ℕ) (S : Sketch) → Cleanly (walk R slots allowance S)
unfolding walk
cleanly R slots allowance S =
    carried R slots (λ st. Unit {0}) Cleanly (λ e n st h x. record { clean = x.clean; nothing = x.nothing }) (λ k q st h e i. tt) (λ k f q st h e t. tt) allowance 0 _ tt
