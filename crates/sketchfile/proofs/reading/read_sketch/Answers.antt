-- `sketchfile::reading::read_sketch` meets its contract: a refusal keeps the sketch, and where nothing is refused each bucket has its place.
use mathlib.Core.Path.{sym}
use native.Mathlib.Omega.{arith}
use borrow.Author.Rules.{rules}
use lib.ListN.{length}
use Rattle.params.specs.Answers.{first, kept}
use Rattle.params.specs.Params.{lengths_answer}
use Rattle.params.proofs.Judging.{handed_on}
use Rattle.params.proofs.Rules.{lent_done}
use Rattle.files.proofs.HeadTrips.{opening_lent}
use Rattle.sketchfile.specs.Reading.{sketch_answer, sketch_in}
use Rattle.sketchfile.proofs.reading.read_sketch.Goals as goal

pub returns-in_err-judge_parameters : goal.returns-in_err-judge_parameters
unfolding sketch_answer first kept
returns-in_err-judge_parameters c = search (rules, handed_on c.from_residual.ensures.1)

pub returns-in_err-judge_lent : goal.returns-in_err-judge_lent
unfolding sketch_answer first kept
returns-in_err-judge_lent c =
    let a = c.args in
    search (rules, handed_on c.from_residual-in_err-judge_lent.ensures.1, opening_lent _ _ (length a.counts.now) (length a.idsums.now) (sym c.in_ok-judge_parameters.ensures))

pub returns-in_err-judge_records : goal.returns-in_err-judge_records
unfolding sketch_answer lengths_answer first kept
returns-in_err-judge_records c = search (rules, handed_on c.from_residual-in_err-judge_records.ensures.1, lent_done _ _ _ (sym c.in_ok-judge_lent.ensures))

pub store-requires : goal.store-requires
store-requires c = omega (arith, lent_done _ _ _ (sym c.in_ok-judge_lent.ensures))

pub returns : goal.returns
unfolding sketch_answer sketch_in lengths_answer first kept
returns c = search (rules, lent_done _ _ _ (sym c.in_ok-judge_lent.ensures))
