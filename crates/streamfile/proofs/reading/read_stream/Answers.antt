-- `streamfile::reading::read_stream` meets its contract.
use mathlib.Core.Path.{sym}
use borrow.Author.Rules.{rules}
use lib.ListN.{length}
use Rattle.params.specs.Answers.{first, refuse_at, kept}
use Rattle.params.specs.Params.{lengths_answer}
use Rattle.params.proofs.Judging.{handed_on}
use Rattle.params.proofs.Rules.{lent_done}
use Rattle.files.proofs.HeadTrips.{opening_lent}
use Rattle.streamfile.specs.Streams.{stream_answer}
use Rattle.streamfile.proofs.reading.read_stream.Goals as goal

pub returns-in_err-judge_parameters : goal.returns-in_err-judge_parameters
unfolding stream_answer first kept
returns-in_err-judge_parameters c = search (rules, handed_on c.from_residual.ensures.1)

pub returns-in_err-judge_lent : goal.returns-in_err-judge_lent
unfolding stream_answer first kept
returns-in_err-judge_lent c =
    let a = c.args in
    search (rules, handed_on c.from_residual-in_err-judge_lent.ensures.1, opening_lent _ _ (length a.counts.now) (length a.idsums.now) (sym c.in_ok-judge_parameters.ensures))

pub returns-then-x-counts : goal.returns-then-x-counts
unfolding stream_answer lengths_answer first refuse_at kept
returns-then-x-counts c = search (rules, lent_done _ _ _ (sym c.in_ok-judge_lent.ensures))

pub returns : goal.returns
unfolding stream_answer lengths_answer first refuse_at
returns c = search (rules, lent_done _ _ _ (sym c.in_ok-judge_lent.ensures))
