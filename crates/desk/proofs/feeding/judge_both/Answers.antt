-- `desk::feeding::judge_both` meets its contract.
use borrow.Author.Rules.{rules}
use Rattle.params.specs.Answers.{first}
use Rattle.desk.proofs.feeding.judge_both.Goals as goal

pub returns-in_err-judge_lent : goal.returns-in_err-judge_lent
unfolding first
returns-in_err-judge_lent c = search rules

pub returns : goal.returns
unfolding first
returns c = search rules
