-- `desk::stages::stage_after` meets its contract.
use borrow.Author.Rules.{rules}
use Rattle.desk.specs.Desk.{stage_after}
use Rattle.desk.proofs.stages.stage_after.Goals as goal

pub returns-in-Ok : goal.returns-in-Ok
unfolding stage_after
returns-in-Ok c = search rules

pub returns-in-Err : goal.returns-in-Err
unfolding stage_after
returns-in-Err c = search rules
