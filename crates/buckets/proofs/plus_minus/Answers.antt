-- `buckets::plus_minus` meets its contract: the sum and the difference of two counts fit the wide width.
use mathlib.Core.Path.{◌≡◌, ap₂, subst⁻¹, ◌∙◌}
use mathlib.Core.Bool.{true, false}
use lib.IntN.{◌+ℤ◌, ◌-ℤ◌}
use mir.Facts.{to_z-of_z}
use mir.Syntax.{w32, w64}
use mir.Val.{SFits, to_z, of_z}
use Rattle.field.proofs.Casts.{widened, widens}
use Rattle.buckets.specs.Buckets.{plus_minus}
use Rattle.buckets.proofs.Limits.{wide}
use Rattle.buckets.proofs.plus_minus.Goals as goal
use Rattle.buckets.proofs.plus_minus.Goals.{Else-minus, Then-minus}

pub overflow_cast-result : goal.overflow_cast-result
overflow_cast-result c = widens c.ranges.c

pub overflow_cast-result-then-minus : goal.overflow_cast-result-then-minus
overflow_cast-result-then-minus c = widens c.ranges.e

-- what the machine computes is the difference, or the sum
less : (c : Then-minus) → to_z w64 (of_z w64 (to_z w32 (of_z w32 c.args.c))) -ℤ to_z w64 (of_z w64 (to_z w32 (of_z w32 c.args.e))) ≡ plus_minus true c.args.c c.args.e
less c = ap₂ ◌-ℤ◌ (widened c.ranges.c) (widened c.ranges.e)

pub overflow_sub-result : goal.overflow_sub-result
overflow_sub-result c = subst⁻¹ (SFits w64) (less (goal.at.overflow_sub-result c).Then-minus) (wide true _ _ c.ranges.c c.ranges.e)

pub overflow_cast-result-else-minus : goal.overflow_cast-result-else-minus
overflow_cast-result-else-minus c = widens c.ranges.c

pub overflow_cast-result-else-minus-2 : goal.overflow_cast-result-else-minus-2
overflow_cast-result-else-minus-2 c = widens c.ranges.e

more : (c : Else-minus) → to_z w64 (of_z w64 (to_z w32 (of_z w32 c.args.c))) +ℤ to_z w64 (of_z w64 (to_z w32 (of_z w32 c.args.e))) ≡ plus_minus false c.args.c c.args.e
more c = ap₂ ◌+ℤ◌ (widened c.ranges.c) (widened c.ranges.e)

pub overflow_add-result : goal.overflow_add-result
overflow_add-result c = subst⁻¹ (SFits w64) (more (goal.at.overflow_add-result c).Else-minus) (wide false _ _ c.ranges.c c.ranges.e)

pub returns-then-minus : goal.returns-then-minus
returns-then-minus c = rw c.if-minus.true (to_z-of_z (overflow_sub-result c) ∙ less (goal.at.returns-then-minus c).Then-minus)

pub returns-else-minus : goal.returns-else-minus
returns-else-minus c = rw c.if-minus.false (to_z-of_z (overflow_add-result c) ∙ more (goal.at.returns-else-minus c).Else-minus)
