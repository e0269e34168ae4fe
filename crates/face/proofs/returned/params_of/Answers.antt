-- `face::returned::params_of` meets its contract: the prime's number and the last one are right, or there are no such parameters.
use borrow.Author.Tests.{eq-eqb, ne_eqb}
use Rattle.face.specs.Returned.{params_of}
use Rattle.face.proofs.returned.params_of.Goals as goal
use Rattle.face.proofs.returned.params_of.Goals.{then-params-ne-FIRST_PRIME-via-then-params-ne-FIRST_PRIME, then-params-ne-FIRST_PRIME-via-else-params-ne-FIRST_PRIME+then-params-ne0}

pub returns-then-params-ne-FIRST_PRIME : goal.returns-then-params-ne-FIRST_PRIME
unfolding params_of
returns-then-params-ne-FIRST_PRIME c = elim c.then-params-ne-FIRST_PRIME.branch [
  | then-params-ne-FIRST_PRIME-via-then-params-ne-FIRST_PRIME w ↦ rw (ne_eqb _ _ w.if-params-ne-FIRST_PRIME.true) c.none.ensures
  | then-params-ne-FIRST_PRIME-via-else-params-ne-FIRST_PRIME+then-params-ne0 w ↦ rw (eq-eqb _ _ w.if-params-ne-FIRST_PRIME.false, ne_eqb _ _ w.if-params-ne0.true) c.none.ensures
]

pub returns : goal.returns
unfolding params_of
returns c = rw (eq-eqb _ _ c.if-params-ne-FIRST_PRIME.false, eq-eqb _ _ c.if-params-ne0.false, c.wide.ensures, c.wide-2.ensures)
