-- `params::params::Params::judge_dimensions` meets its contract: the dimensions, then the lengths.
use borrow.Author.Rules.{rules}
use mathlib.Core.Path.{sym}
use Rattle.params.specs.Params.{dimensions_answer}
use Rattle.params.proofs.Rules.{dimensions}
use Rattle.params.proofs.params.Params.judge_dimensions.Goals as goal

pub returns-then-not-good_dimensions : goal.returns-then-not-good_dimensions
unfolding dimensions_answer
returns-then-not-good_dimensions c = search rules

pub lengths-requires : goal.lengths-requires
lengths-requires c = dimensions _ (sym c.if-not-good_dimensions.ensures)

pub returns : goal.returns
unfolding dimensions_answer
returns c = search rules
