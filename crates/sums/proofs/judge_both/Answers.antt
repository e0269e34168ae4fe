-- `sums::judge_both` meets its contract: each test that fails is the first that the answer has.
use borrow.Author.Rules.{rules}
use Rattle.params.specs.Answers.{first}
use Rattle.sums.specs.Sums.{both_lent_answer}
use Rattle.sums.proofs.TwoSketches.{lengths_left}
use Rattle.sums.proofs.judge_both.Goals as goal

pub returns-then-not-check : goal.returns-then-not-check
unfolding both_lent_answer
returns-then-not-check c = search rules

pub returns-then-not-same : goal.returns-then-not-same
unfolding both_lent_answer
returns-then-not-same c = search rules

pub returns-in_err-judge_dimensions : goal.returns-in_err-judge_dimensions
unfolding both_lent_answer first
returns-in_err-judge_dimensions c = search (rules, lengths_left)

pub returns : goal.returns
unfolding both_lent_answer first
returns c = search (rules, lengths_left)
