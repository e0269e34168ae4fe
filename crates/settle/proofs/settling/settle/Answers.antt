-- `settle::settling::settle` meets its contract: a refusal keeps everything, and where nothing is refused the difference is peeled.
use borrow.Author.Rules.{rules}
use mathlib.Core.Path.{sym}
use native.Mathlib.Omega.{arith}
use Rattle.params.specs.Answers.{kept}
use Rattle.settle.proofs.Settled.{settled_small}
use Rattle.settle.proofs.settling.settle.Goals as goal

pub overflow_mul-p : goal.overflow_mul-p
overflow_mul-p c = omega (arith, settled_small _ _ _ _ _ _ _ (sym c.in_ok-difference.ensures.0))

pub overflow_mul-p-2 : goal.overflow_mul-p-2
overflow_mul-p-2 c = omega (arith, settled_small _ _ _ _ _ _ _ (sym c.in_ok-difference.ensures.0))

pub overflow_cast-p : goal.overflow_cast-p
overflow_cast-p c = omega (arith, settled_small _ _ _ _ _ _ _ (sym c.in_ok-difference.ensures.0))

pub returns-in_err-difference : goal.returns-in_err-difference
unfolding kept
returns-in_err-difference c = search rules

pub returns : goal.returns
unfolding kept
returns c = search rules
