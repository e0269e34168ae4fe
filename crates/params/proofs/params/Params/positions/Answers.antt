-- `params::params::Params::positions` meets its contract: the first two arrays are always there, and each of the others is passed over where it is not.
use mathlib.Core.Path.{◌≡◌, sym}
use mathlib.Core.Logic.{◌⊎◌, inl, inr, ⊎_elim}
use Prim.Native.Nat.{◌≤◌, ◌<◌}
use native.Mathlib.Omega.{arith}
use Rattle.params.specs.Lists.{touched}
use Rattle.params.specs.Positions.{stand}
use Rattle.params.proofs.Changes.{up_to, each_none, store_next}
use Rattle.params.proofs.Rules.{dimensions, no_positions, all_positions}
use Rattle.params.proofs.params.Params.positions.Goals as goal
use Rattle.params.proofs.params.Params.positions.Goals.{Joined-d-gt2, else-d-gt2, then-d-gt2}

-- the third array, where there is one
three-placed : (c : Joined-d-gt2) → let a = c.args in
    ((2 < a.self.d) × (c.if-d-gt2.ks ≡ touched (up_to 3) (λ j k. stand a.self j a.x) a.ks.now)) ⊎ ((a.self.d ≤ 2) × (c.if-d-gt2.ks ≡ touched (up_to 2) (λ j k. stand a.self j a.x) a.ks.now))
unfolding stand
three-placed c =
    let a = c.args in
    let two = store_next 0 (λ j. stand a.self j a.x) a.ks.now _ 1 (store_next 0 (λ j. stand a.self j a.x) a.ks.now _ 0 (each_none 0 _ _) c.position_by.ensures.0) c.position_by-2.ensures.0 in
    elim c.if-d-gt2.branch [ then-d-gt2 w ↦ inl (w.if-d-gt2.true, rw w.ks-is (store_next 0 (λ j. stand a.self j a.x) a.ks.now _ 2 two w.position_by-then-d-gt2.ensures.0)) | else-d-gt2 w ↦ inr (w.if-d-gt2.false, rw w.ks-is two) ]

pub returns-then-not-good_dimensions : goal.returns-then-not-good_dimensions
returns-then-not-good_dimensions c = no_positions _ _ _ (sym c.if-not-good_dimensions.ensures)

pub position_by-requires : goal.position_by-requires
position_by-requires c = (dimensions _ (sym c.if-not-good_dimensions.ensures)).m_low

pub returns-then-d-gt3 : goal.returns-then-d-gt3
unfolding stand
returns-then-d-gt3 c =
    let a = c.args in
    ⊎_elim
    (λ w. all_positions _ _ _ 4 (sym c.if-not-good_dimensions.ensures) (grind (arith, dimensions)) (store_next 0 (λ j. stand a.self j a.x) a.ks.now _ 3 w.1 c.position_by-then-d-gt3.ensures.0))
    (λ w. absurd (omega (arith, w.0)))
    (three-placed (goal.at.returns-then-d-gt3 c).Joined-d-gt2)

pub returns-else-d-gt3 : goal.returns-else-d-gt3
returns-else-d-gt3 c = ⊎_elim
    (λ w. all_positions _ _ _ 3 (sym c.if-not-good_dimensions.ensures) (omega (arith, w.0)) w.1)
    (λ w. all_positions _ _ _ 2 (sym c.if-not-good_dimensions.ensures) (grind (arith, dimensions, w.0)) w.1)
    (three-placed (goal.at.returns-else-d-gt3 c).Joined-d-gt2)
