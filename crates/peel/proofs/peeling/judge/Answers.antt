-- `peel::peeling::judge` meets its contract: the lengths, then the first damaged bucket.
use mathlib.Core.Path.{sym, ◌∙◌}
use borrow.Author.Rules.{rules}
use Rattle.params.specs.Answers.{first, refuse_at}
use Rattle.params.proofs.Judging.{first_refused, handed_on}
use Rattle.peel.specs.Peel.{peel_answer}
use Rattle.peel.proofs.Judged.{lent_passed}
use Rattle.peel.proofs.peeling.judge.Goals as goal

pub returns-in_err-judge_walk_lent : goal.returns-in_err-judge_walk_lent
unfolding peel_answer
returns-in_err-judge_walk_lent c = first_refused _ _ _ (handed_on c.from_residual.ensures.1 ∙ c.in_err-judge_walk_lent.ensures) c.from_residual.ensures.0

pub returns-then-x-counts : goal.returns-then-x-counts
unfolding peel_answer first refuse_at
returns-then-x-counts c = let l = (lent_passed _ _ _ _ _ _ _ (sym c.in_ok-judge_walk_lent.ensures)).1 in search rules

pub returns : goal.returns
unfolding peel_answer first refuse_at
returns c = let l = (lent_passed _ _ _ _ _ _ _ (sym c.in_ok-judge_walk_lent.ensures)).1 in search rules
