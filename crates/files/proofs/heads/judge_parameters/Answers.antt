-- `files::heads::judge_parameters` meets its contract.
use Rattle.std.proofs.Common.{rules}
use Rattle.files.specs.Heads.{head_answer, parameters_answer}
use Rattle.files.proofs.heads.judge_parameters.Goals as goal

pub returns-in_err-q : goal.returns-in_err-q
unfolding parameters_answer head_answer
returns-in_err-q c = search rules

pub returns-then-not-check : goal.returns-then-not-check
unfolding parameters_answer head_answer
returns-then-not-check c = search rules

pub returns-then-not-same : goal.returns-then-not-same
unfolding parameters_answer head_answer
returns-then-not-same c = search rules

pub returns : goal.returns
unfolding parameters_answer head_answer
returns c = search rules
