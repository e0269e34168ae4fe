-- `params::params::position_by` meets its contract: the product and the sum fit the wide width.
use Prim.Native.Nat.{◌*◌, ◌≤◌}
use native.Mathlib.Omega.{arith}
use native.Mathlib.Nat.{mod-lt, mul-le-mul}
use borrow.Author.Rules.{rules}
use Rattle.params.proofs.params.position_by.Goals as goal
use Rattle.params.proofs.params.position_by.Goals.{Start}

product_fits : (c : Start) → c.args.a * c.args.x ≤ 4294967295 * 4294967295
product_fits c = mul-le-mul {n₁ = c.args.a} {m₁ = c.args.x} {n₂ = 4294967295} {m₂ = 4294967295} (omega arith) (omega arith)

pub overflow_mul-result : goal.overflow_mul-result
overflow_mul-result c = omega (arith, product_fits (goal.at.overflow_mul-result c).Start)

pub overflow_add-result : goal.overflow_add-result
overflow_add-result c = omega (arith, product_fits (goal.at.overflow_add-result c).Start)

pub returns : goal.returns
returns c = (search rules, mod-lt _ (search rules))
