-- `params::params::Params::told` meets its contract: the number itself, or all but its last eight bits.
use borrow.Author.Rules.{rules}
use Rattle.params.specs.Sketched.{told}
use Rattle.params.proofs.params.Params.told.Goals as goal

pub returns-then-fingerprinted : goal.returns-then-fingerprinted
unfolding told
returns-then-fingerprinted c = search rules

pub returns-else-fingerprinted : goal.returns-else-fingerprinted
unfolding told
returns-else-fingerprinted c = search rules
