-- `desk::heads::begin` meets its contract.
use borrow.Author.Rules.{rules}
use mathlib.Core.Path.{sym}
use Rattle.params.specs.Answers.{first}
use Rattle.desk.specs.Desk.{begin_answer}
use Rattle.desk.proofs.HeadAnswers.{refused_given, head_good, head_says}
use Rattle.desk.proofs.heads.begin.Goals as goal

pub returns-in_err-p : goal.returns-in_err-p
unfolding begin_answer first
returns-in_err-p c = let refused = refused_given _ _ (sym c.in_err-p.ensures) in search rules

pub few_enough-requires : goal.few_enough-requires
few_enough-requires c = let h = head_says _ c.in_ok-p.ensures in rw h.1 (head_good _ h.0)

pub returns-then-not-few_enough : goal.returns-then-not-few_enough
unfolding begin_answer first
returns-then-not-few_enough c = let h = head_says _ c.in_ok-p.ensures in search rules

pub returns : goal.returns
unfolding begin_answer first
returns c = let h = head_says _ c.in_ok-p.ensures in search rules
