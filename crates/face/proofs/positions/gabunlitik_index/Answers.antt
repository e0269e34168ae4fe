-- `face::positions::gabunlitik_index` meets its contract: what the library answers, in numbers.
use Rattle.face.proofs.Returning.{located_returned}
use Rattle.face.proofs.positions.gabunlitik_index.Goals as goal

pub returns : goal.returns
returns c =
    let held = rw (c.params_of-p.ensures, c.wide.ensures) at c.index-located.ensures in
    located_returned _ held c.return_number.ensures
