-- `peel::table::chain_by` meets its contract.
use mathlib.Core.Path.{refl}
use Rattle.peel.specs.Chains.{chain_by}
use Rattle.peel.proofs.table.chain_by.Goals as goal

pub returns : goal.returns
unfolding chain_by
returns c = refl
