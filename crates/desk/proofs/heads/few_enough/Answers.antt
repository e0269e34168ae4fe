-- `desk::heads::few_enough` meets its contract.
use borrow.Author.Rules.{rules}
use Rattle.desk.specs.Desk.{few_enough}
use Rattle.desk.proofs.heads.few_enough.Goals as goal

pub returns : goal.returns
unfolding few_enough
returns c = search rules
