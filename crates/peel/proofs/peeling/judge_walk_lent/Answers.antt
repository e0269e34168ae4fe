-- `peel::peeling::judge_walk_lent` meets its contract: the parameters and the sketch's lengths, which make the counts as many as the buckets, then the others.
use mathlib.Core.Path.{sym, ◌∙◌}
use borrow.Author.Rules.{rules}
use Rattle.params.specs.Answers.{first}
use Rattle.params.proofs.Judging.{first_refused, handed_on}
use Rattle.params.proofs.Rules.{lent_done}
use Rattle.peel.specs.Peel.{walk_lent_answer}
use Rattle.peel.proofs.peeling.judge_walk_lent.Goals as goal

pub returns-in_err-judge_lent : goal.returns-in_err-judge_lent
unfolding walk_lent_answer
returns-in_err-judge_lent c = first_refused _ _ _ (handed_on c.from_residual.ensures.1 ∙ c.in_err-judge_lent.ensures) c.from_residual.ensures.0

pub returns-then-queue-counts : goal.returns-then-queue-counts
unfolding walk_lent_answer first
returns-then-queue-counts c = let long = (lent_done _ _ _ (sym c.in_ok-judge_lent.ensures)).1 in search rules

pub returns : goal.returns
unfolding walk_lent_answer first
returns c = let long = (lent_done _ _ _ (sym c.in_ok-judge_lent.ensures)).1 in search rules
