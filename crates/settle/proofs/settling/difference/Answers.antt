-- `settle::settling::difference` meets its contract: the lengths, then what the subtraction answers and leaves.
use borrow.Author.Rules.{rules}
use Rattle.params.specs.Answers.{first, kept}
use Rattle.settle.specs.Settling.{settle_answer}
use Rattle.settle.proofs.settling.difference.Goals as goal

pub returns-in_err-judge_walk_lent : goal.returns-in_err-judge_walk_lent
unfolding settle_answer first kept
returns-in_err-judge_walk_lent c = search rules

pub returns : goal.returns
unfolding settle_answer first
returns c = search rules
