-- `desk::stages::due_head` meets its contract.
use native.Mathlib.Omega.{arith}
use borrow.Author.Tests.{eq-eqb, ne_eqb}
use lib.ListN.{get_or}
use Rattle.files.specs.Records.{extended_head_kind}
use Rattle.files.proofs.FirstByte.{first_some, first_none}
use Rattle.desk.specs.Desk.{due_head}
use Rattle.desk.proofs.stages.due_head.Goals as goal
use Rattle.desk.proofs.stages.due_head.Goals.{in_default-via-in-Some+in_default, in_default-via-in_default}

pub returns-in-Some-eq10 : goal.returns-in-Some-eq10
unfolding due_head
returns-in-Some-eq10 c =
    let f = first_some _ c.in-Some-eq10.ensures.value in
    rw (eq-eqb (get_or c.args.bytes.now 0 0) extended_head_kind (omega arith)) c.due_of.ensures

pub returns-in_default : goal.returns-in_default
unfolding due_head
returns-in_default c =
    let bs = c.args.bytes.now in
    elim c.in_default.branch [
      | in_default-via-in-Some+in_default w ↦
          (let f = first_some bs (rw w.in_default.is at c.first.ensures.value) in rw (ne_eqb (get_or bs 0 0) extended_head_kind (λ e. w.in_default.field-0-test.1 (cc (f.1, e)))) c.due_of-in_default.ensures)
      | in_default-via-in_default w ↦
          (let f = first_none bs (rw w.in_default.is at c.first.ensures.value) in rw f.1 c.due_of-in_default.ensures)
    ]
