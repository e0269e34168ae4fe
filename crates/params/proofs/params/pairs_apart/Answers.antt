-- `params::params::pairs_apart` meets its contract: the pairs are told apart two by two.
use borrow.Author.Rules.{rules}
use Rattle.params.specs.Lists.{below}
use Rattle.params.specs.Params.{twins}
use Rattle.params.proofs.params.pairs_apart.Goals as goal

pub returns-then-not-twin-5 : goal.returns-then-not-twin-5
unfolding below twins
returns-then-not-twin-5 c = search rules

pub returns-else-not-twin-5 : goal.returns-else-not-twin-5
unfolding below twins
returns-else-not-twin-5 c = search rules
