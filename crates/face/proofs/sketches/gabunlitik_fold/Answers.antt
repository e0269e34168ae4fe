-- `face::sketches::gabunlitik_fold` meets its contract: what the library promises of the call, returned in numbers.
use Rattle.face.proofs.Returning.{fold_returned, fold_small}
use Rattle.face.proofs.sketches.gabunlitik_fold.Goals as goal

pub return_params-requires : goal.return_params-requires
return_params-requires c = rw c.fold-folded.ensures.answer (fold_small _ _ _)

pub returns : goal.returns
returns c =
    let held = rw (c.params_of.ensures, c.wide.ensures) at c.fold-folded.ensures in
    fold_returned held c.return_params.ensures
