-- `params::params::Params::check` meets its contract: the dimensions, then each pair, then the pairs together, then the fifth.
use borrow.Author.Rules.{rules}
use Rattle.params.specs.Params.{good_params}
use Rattle.params.proofs.params.Params.check.Goals as goal

pub returns-then-pairs_apart : goal.returns-then-pairs_apart
unfolding good_params
returns-then-pairs_apart c = search rules

pub returns-else-pairs_apart : goal.returns-else-pairs_apart
unfolding good_params
returns-else-pairs_apart c = search rules
