-- `params::params::pairs_ok` meets its contract, pair by pair.
use borrow.Author.Rules.{rules}
use Rattle.params.specs.Lists.{below}
use Rattle.params.specs.Params.{pair_at}
use Rattle.params.proofs.params.pairs_ok.Goals as goal

pub returns-then-pair_ok-3 : goal.returns-then-pair_ok-3
unfolding below pair_at
returns-then-pair_ok-3 c = search rules

pub returns-else-pair_ok-3 : goal.returns-else-pair_ok-3
unfolding below pair_at
returns-else-pair_ok-3 c = search rules
