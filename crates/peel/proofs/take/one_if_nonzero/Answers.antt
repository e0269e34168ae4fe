-- `peel::take::one_if_nonzero` meets its contract.
use borrow.Author.Rules.{rules}
use Rattle.peel.specs.Nonzero.{one_if_nonzero}
use Rattle.peel.proofs.take.one_if_nonzero.Goals as goal

pub returns : goal.returns
unfolding one_if_nonzero
returns c = search rules
