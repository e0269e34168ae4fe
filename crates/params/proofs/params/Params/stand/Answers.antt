-- `params::params::Params::stand` meets its contract: the position is the flow's with pair i.
use Rattle.params.specs.Positions.{stand}
use Rattle.params.proofs.params.Params.stand.Goals as goal

pub returns : goal.returns
unfolding stand
returns c = c.position_by.ensures
