-- `params::params::Params::same` meets its contract: `==` compares the numbers and the arrays.
use native.Mathlib.Omega.{arith}
use mathlib.Core.Path.{◌∙◌}
use Rattle.params.proofs.SameParams.{equal_same}
use Rattle.params.proofs.params.Params.same.Goals as goal

pub returns : goal.returns
returns c = c.eq.ensures ∙ equal_same _ _ (omega arith) (omega arith) (omega arith) (omega arith)
