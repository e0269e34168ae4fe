-- `desk::heads::judge_downstream_head` meets its contract.
use borrow.Author.Rules.{rules}
use mathlib.Core.Path.{◌∙◌}
use Rattle.desk.specs.Desk.{downstream_head_answer}
use Rattle.desk.proofs.HeadAnswers.{begin_says, second_refused}
use Rattle.desk.proofs.heads.judge_downstream_head.Goals as goal

pub returns-in_default : goal.returns-in_default
returns-in_default c = second_refused _ _ c.requires (λ p e. c.in_default.not-Ok p (c.begin.ensures ∙ e))

pub returns-then-not-same : goal.returns-then-not-same
unfolding downstream_head_answer
returns-then-not-same c = let h = begin_says _ c.in-Ok.ensures in search rules

pub returns : goal.returns
unfolding downstream_head_answer
returns c = let h = begin_says _ c.in-Ok.ensures in search rules
