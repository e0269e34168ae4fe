-- `field::flow` meets its contract.
use Rattle.std.proofs.Common.{rules}
use Rattle.field.specs.Flow.{flow}
use Rattle.field.proofs.flow.Goals as goal

pub returns : goal.returns
unfolding flow
returns c = search rules
