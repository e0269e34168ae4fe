-- `params::params::Params::lengths` meets its contract: each length is the size, which fits, or not.
use borrow.Author.Rules.{rules}
use Rattle.params.specs.Params.{lengths_answer}
use Rattle.params.proofs.params.Params.lengths.Goals as goal

pub returns-then-counts-size : goal.returns-then-counts-size
unfolding lengths_answer
returns-then-counts-size c = search rules

pub returns : goal.returns
unfolding lengths_answer
returns c = search rules
