-- `params::params::Params::judge_lent` meets its contract: the parameters, then the lengths.
use borrow.Author.Rules.{rules}
use mathlib.Core.Path.{sym}
use Rattle.params.specs.Params.{lent_answer}
use Rattle.params.proofs.Rules.{good_dimensions_lem}
use Rattle.params.proofs.params.Params.judge_lent.Goals as goal

pub returns-then-not-check : goal.returns-then-not-check
unfolding lent_answer
returns-then-not-check c = search rules

pub lengths-requires : goal.lengths-requires
lengths-requires c = good_dimensions_lem _ (sym c.if-not-check.ensures)

pub returns : goal.returns
unfolding lent_answer
returns c = search rules
