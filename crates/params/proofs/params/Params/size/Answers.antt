-- `params::params::Params::size` meets its contract: parameters that keep the rules have a size that fits.
use native.Mathlib.Omega.{arith}
use Rattle.params.proofs.Rules.{dimensions_small, good_dimensions_lem}
use Rattle.params.proofs.params.Params.size.Goals as goal

pub overflow_mul-result : goal.overflow_mul-result
overflow_mul-result c = grind (arith, dimensions_small, good_dimensions_lem)
