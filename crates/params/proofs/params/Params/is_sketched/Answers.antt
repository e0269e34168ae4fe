-- `params::params::Params::is_sketched` meets its contract: without fingerprints the number is a flow; with them the flow that it tells is none, or the last eight bits decide.
use borrow.Author.Rules.{rules}
use mathlib.Core.Path.{sym, ◌∙◌}
use Rattle.params.specs.Sketched.{is_sketched}
use Rattle.params.proofs.Extended.{plain_is}
use Rattle.params.proofs.params.Params.is_sketched.Goals as goal

pub returns-then-not-fingerprinted : goal.returns-then-not-fingerprinted
returns-then-not-fingerprinted c = c.is_flow.ensures ∙ sym (plain_is _ _ (sym c.if-not-fingerprinted.ensures))

pub returns-then-is_flow : goal.returns-then-is_flow
unfolding is_sketched
returns-then-is_flow c = search rules

pub returns-else-is_flow : goal.returns-else-is_flow
unfolding is_sketched
returns-else-is_flow c = search rules
