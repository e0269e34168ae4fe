-- `params::params::Params::position` meets its contract: what was asked is right, and the flow stands there.
use mathlib.Core.Path.{sym, ap, ◌∙◌}
use native.Mathlib.Omega.{arith}
use Rattle.params.specs.Positions.{stand}
use Rattle.params.proofs.Extended.{sketched_of}
use Rattle.params.proofs.Judging.{given_done}
use Rattle.params.proofs.Rules.{asked_done, flow_done}
use Rattle.params.proofs.params.Params.position.Goals as goal

pub overflow_sub-i : goal.overflow_sub-i
overflow_sub-i c = grind (arith, asked_done)

pub stand-requires : goal.stand-requires
stand-requires c = let h = asked_done _ _ _ (sym c.in_ok-asked.ensures) in (h.dimensions, omega arith)

pub returns : goal.returns
returns c = given_done c.asked.ensures c.in_ok-asked.was (c.stand.ensures.0 ∙ ap (stand _ _) (sketched_of _ _ _ (flow_done _ _ _ (sym c.in_ok-asked.ensures)) c.sketched.ensures))
