-- `params::params::Params::sketched_stands` meets its contract: array by array, the bucket of what is sketched is the one that stands.
use mathlib.Core.Path.{sym}
use native.Mathlib.Omega.{arith}
use Rattle.params.specs.Positions.{stand}
use Rattle.params.proofs.Rules.{dimensions}
use Rattle.params.proofs.Standing.{stands_in_lem, stands_nowhere}
use Rattle.params.proofs.params.Params.sketched_stands.Goals as goal

pub returns-then-not-good_dimensions : goal.returns-then-not-good_dimensions
returns-then-not-good_dimensions c = rw (← c.if-not-good_dimensions.ensures)

pub returns-then-k-m : goal.returns-then-k-m
unfolding stand
returns-then-k-m c = stands_in_lem c.args.self _ _ 0 (sym c.if-not-good_dimensions.ensures) (grind (arith, dimensions)) (omega arith) (omega arith) (omega (arith, c.position_by.ensures.0))

pub overflow_mul-m : goal.overflow_mul-m
overflow_mul-m c = grind (arith, dimensions)

pub overflow_add-result : goal.overflow_add-result
overflow_add-result c = grind (arith, dimensions)

pub returns-then-k-m-2 : goal.returns-then-k-m-2
unfolding stand
returns-then-k-m-2 c = stands_in_lem c.args.self _ _ 1 (sym c.if-not-good_dimensions.ensures) (grind (arith, dimensions)) (omega arith) (omega arith) (omega (arith, c.position_by-then-k-m-2.ensures.0))

pub returns-then-d-le2 : goal.returns-then-d-le2
returns-then-d-le2 c = stands_nowhere c.args.self _ _ 2 (sym c.if-not-good_dimensions.ensures) (omega arith) (omega arith)

pub overflow_mul-m-2 : goal.overflow_mul-m-2
overflow_mul-m-2 c = grind (arith, dimensions)

pub overflow_add-result-then-k-m-3 : goal.overflow_add-result-then-k-m-3
overflow_add-result-then-k-m-3 c = grind (arith, dimensions)

pub returns-then-k-m-3 : goal.returns-then-k-m-3
unfolding stand
returns-then-k-m-3 c = stands_in_lem c.args.self _ _ 2 (sym c.if-not-good_dimensions.ensures) (grind (arith, dimensions)) (omega arith) (omega arith) (omega (arith, c.position_by-then-k-m-3.ensures.0))

pub returns-then-d-le3 : goal.returns-then-d-le3
returns-then-d-le3 c = stands_nowhere c.args.self _ _ 3 (sym c.if-not-good_dimensions.ensures) (omega arith) (omega arith)

pub overflow_mul-m-3 : goal.overflow_mul-m-3
overflow_mul-m-3 c = grind (arith, dimensions)

pub overflow_add-result-then-k-m-4 : goal.overflow_add-result-then-k-m-4
overflow_add-result-then-k-m-4 c = grind (arith, dimensions)

pub returns-then-k-m-4 : goal.returns-then-k-m-4
unfolding stand
returns-then-k-m-4 c = stands_in_lem c.args.self _ _ 3 (sym c.if-not-good_dimensions.ensures) (grind (arith, dimensions)) (omega arith) (omega arith) (omega (arith, c.position_by-then-k-m-4.ensures.0))

pub returns : goal.returns
returns c = stands_nowhere c.args.self _ _ 4 (sym c.if-not-good_dimensions.ensures) (dimensions _ (sym c.if-not-good_dimensions.ensures)).d_high (omega arith)
