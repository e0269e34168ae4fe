-- `face::sketches::gabunlitik_withdraw` meets its contract: what the library promises of the call, returned in numbers.
use Rattle.face.proofs.Returning.{returned}
use Rattle.face.proofs.sketches.gabunlitik_withdraw.Goals as goal

pub returns : goal.returns
returns c =
    let held = rw c.params_of.ensures at c.withdraw-withdrawn.ensures in
    returned _ held.answer held c.return_answer.ensures
