-- `fold::judge` meets its contract: the parameters and the lengths, then m2, then the buckets.
use borrow.Author.Rules.{rules}
use Rattle.params.specs.Answers.{first}
use Rattle.fold.specs.Fold.{fold_answer}
use Rattle.fold.proofs.Accepting.{foldable}
use Rattle.fold.proofs.judge.Goals as goal

pub returns-in_err-judge_lent : goal.returns-in_err-judge_lent
unfolding fold_answer first
returns-in_err-judge_lent c = search rules

pub returns-then-not-divides : goal.returns-then-not-divides
unfolding fold_answer first
returns-then-not-divides c = search rules

pub judge_buckets-requires : goal.judge_buckets-requires
judge_buckets-requires c = search (rules, foldable)

pub returns : goal.returns
unfolding fold_answer first
returns c = search rules
