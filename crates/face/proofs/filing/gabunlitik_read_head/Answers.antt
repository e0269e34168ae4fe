-- `face::filing::gabunlitik_read_head` meets its contract: what the library reads of a head, in numbers.
use Rattle.face.proofs.Returning.{params_returned, head_small}
use Rattle.face.proofs.filing.gabunlitik_read_head.Goals as goal

pub return_params-requires : goal.return_params-requires
return_params-requires c = rw c.head.ensures (head_small _)

pub returns : goal.returns
returns c = params_returned _ c.head.ensures c.return_params.ensures
