-- `buckets::weight` meets its contract.
use Rattle.buckets.proofs.weight.Goals as goal

pub returns : goal.returns
returns c = c.multiply.ensures
