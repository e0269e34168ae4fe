-- `peel::table::tell` meets its contract: with fingerprints each slot is told, and without them each holds its flow already.
use borrow.Author.Rules.{rules}
use Rattle.params.specs.Sketched.{told}
use Rattle.peel.proofs.Telling.{told_plain}
use Rattle.peel.proofs.table.tell.Goals as goal

pub returns-then-fingerprinted : goal.returns-then-fingerprinted
unfolding told
returns-then-fingerprinted c = search rules

pub returns-else-fingerprinted : goal.returns-else-fingerprinted
returns-else-fingerprinted c = told_plain _ _ _ (search rules)
