-- `params::params::Params::good_dimensions` meets its contract, test by test.
use borrow.Author.Rules.{rules}
use Rattle.params.specs.Params.{good_dimensions}
use Rattle.params.proofs.params.Params.good_dimensions.Goals as goal

pub returns-then-self-ge1 : goal.returns-then-self-ge1
unfolding good_dimensions
returns-then-self-ge1 c = search rules

pub returns-else-self-ge1 : goal.returns-else-self-ge1
unfolding good_dimensions
returns-else-self-ge1 c = search rules
