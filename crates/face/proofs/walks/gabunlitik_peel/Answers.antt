-- `face::walks::gabunlitik_peel` meets its contract: what the library promises of the call, returned in numbers.
use Rattle.face.proofs.Returning.{peeled_returned}
use Rattle.face.proofs.walks.gabunlitik_peel.Goals as goal

pub returns : goal.returns
returns c =
    let held = rw c.params_of.ensures at c.peel-peeled.ensures in
    peeled_returned _ held.answer held c.return_peeled.ensures
