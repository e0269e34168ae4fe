-- `face::filing::gabunlitik_write_sketch` meets its contract: what the library promises of the call, returned in numbers.
use Rattle.face.proofs.Returning.{written_returned}
use Rattle.face.proofs.filing.gabunlitik_write_sketch.Goals as goal

pub returns : goal.returns
returns c =
    let held = rw c.params_of.ensures at c.write_sketch-stored.ensures in
    written_returned _ held.answer held c.return_number.ensures
