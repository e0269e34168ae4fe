-- `desk::stages::due_of` meets its contract.
use native.Mathlib.Omega.{arith}
use borrow.Author.Tests.{eq-eqb, ne_eqb}
use lib.ListN.{get_or}
use Rattle.files.proofs.FirstByte.{first_some, first_none}
use Rattle.desk.specs.Desk.{due_of}
use Rattle.desk.proofs.stages.due_of.Goals as goal

pub returns-in-None : goal.returns-in-None
unfolding due_of
returns-in-None c = rw (first_none _ c.in-None.ensures.value).0

pub returns-in-Some : goal.returns-in-Some
unfolding due_of
returns-in-Some c = rw ((first_some _ c.in-Some.ensures.value).0, ← c.if-is_kind.ensures)

pub returns-in-Some-2 : goal.returns-in-Some-2
unfolding due_of
returns-in-Some-2 c =
    let f = first_some _ c.in-Some.ensures.value in
    rw (f.0, ← c.if-is_kind.ensures, eq-eqb (get_or c.args.bytes.now 0 0) c.args.kind (omega arith))

pub returns-in-Some-3 : goal.returns-in-Some-3
unfolding due_of
returns-in-Some-3 c =
    let f = first_some _ c.in-Some.ensures.value in
    rw (f.0, ← c.if-is_kind.ensures, ne_eqb (get_or c.args.bytes.now 0 0) c.args.kind (λ e. omega arith))
