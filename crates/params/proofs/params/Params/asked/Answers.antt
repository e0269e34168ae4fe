-- `params::params::Params::asked` meets its contract: the parameters, then the array, then the flow.
use borrow.Author.Rules.{rules}
use Rattle.params.specs.Positions.{position_answer}
use Rattle.params.proofs.params.Params.asked.Goals as goal

pub returns-then-not-check : goal.returns-then-not-check
unfolding position_answer
returns-then-not-check c = search rules

pub returns-then-not-is_flow : goal.returns-then-not-is_flow
unfolding position_answer
returns-then-not-is_flow c = search rules

pub returns : goal.returns
unfolding position_answer
returns c = search rules
