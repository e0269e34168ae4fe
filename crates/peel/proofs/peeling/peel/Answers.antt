-- `peel::peeling::peel` meets its contract.
use mathlib.Core.Path.{sym}
use borrow.Author.Rules.{rules}
use Rattle.params.proofs.Judging.{handed_on}
use Rattle.peel.proofs.Judged.{judged_peelable}
use Rattle.peel.proofs.Peelings.{not_peeled, peeled}
use Rattle.peel.proofs.peeling.peel.Goals as goal

pub unravel-requires : goal.unravel-requires
unravel-requires c = judged_peelable _ _ (sym c.in_ok-judge.ensures)

pub returns-in_err-judge : goal.returns-in_err-judge
returns-in_err-judge c = rw (handed_on c.from_residual.ensures.1) (not_peeled _ _ _ _ _ c.in_err-judge.ensures)

pub returns : goal.returns
returns c = peeled _ _ _ c.in_ok-judge.ensures _ _ c.unravel.ensures (search rules) (search rules) (search rules) (search rules)
