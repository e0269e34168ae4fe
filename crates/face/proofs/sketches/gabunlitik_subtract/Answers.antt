-- `face::sketches::gabunlitik_subtract` meets its contract: what the library promises of the call, returned in numbers.
use Rattle.face.proofs.Returning.{returned}
use Rattle.face.proofs.sketches.gabunlitik_subtract.Goals as goal

pub returns : goal.returns
returns c =
    let held = rw (c.params_of-p.ensures, c.params_of-q.ensures) at c.subtract-subtracted.ensures in
    returned _ held.answer held c.return_answer.ensures
