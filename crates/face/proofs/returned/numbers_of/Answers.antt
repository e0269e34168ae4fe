-- `face::returned::numbers_of` meets its contract.
use mathlib.Core.Path.{refl}
use Rattle.face.specs.Returned.{param_numbers}
use Rattle.face.proofs.returned.numbers_of.Goals as goal

pub returns : goal.returns
unfolding param_numbers
returns c = refl
