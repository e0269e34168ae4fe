-- `face::filing::gabunlitik_read_sketch` meets its contract: what the library promises of the call, returned in numbers.
use Rattle.face.proofs.Returning.{returned}
use Rattle.face.proofs.filing.gabunlitik_read_sketch.Goals as goal

pub returns : goal.returns
returns c =
    let held = rw c.params_of.ensures at c.read_sketch-replaced.ensures in
    returned _ held.answer held c.return_answer.ensures
