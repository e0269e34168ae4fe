-- `desk::stages::nothing_stage` meets its contract.
use borrow.Author.Rules.{rules}
use Rattle.desk.specs.Desk.{nothing_stage}
use Rattle.desk.proofs.stages.nothing_stage.Goals as goal

pub returns-in_default : goal.returns-in_default
unfolding nothing_stage
returns-in_default c = search rules

pub returns-then-not-is_empty : goal.returns-then-not-is_empty
unfolding nothing_stage
returns-then-not-is_empty c = search rules

pub returns : goal.returns
unfolding nothing_stage
returns c = search rules
