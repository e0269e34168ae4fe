-- `desk::stages::due_end` meets its contract.
use native.Mathlib.Omega.{arith}
use borrow.Author.Tests.{eq-eqb, ne_eqb}
use lib.ListN.{get_or}
use Rattle.files.specs.Records.{packets_kind}
use Rattle.files.proofs.FirstByte.{first_some, first_none}
use Rattle.desk.specs.Desk.{due_end}
use Rattle.desk.proofs.stages.due_end.Goals as goal
use Rattle.desk.proofs.stages.due_end.Goals.{in_default-via-in-Some+in_default, in_default-via-in_default}

pub returns-in-Some-eq2 : goal.returns-in-Some-eq2
unfolding due_end
returns-in-Some-eq2 c =
    let f = first_some _ c.in-Some-eq2.ensures.value in
    rw (f.0, eq-eqb (get_or c.args.bytes.now 0 0) packets_kind (omega arith))

pub returns-in_default : goal.returns-in_default
unfolding due_end
returns-in_default c =
    let bs = c.args.bytes.now in
    elim c.in_default.branch [
      | in_default-via-in-Some+in_default w ↦
          (let f = first_some bs (rw w.in_default.is at c.first.ensures.value) in rw (ne_eqb (get_or bs 0 0) packets_kind (λ e. w.in_default.field-0-test.1 (cc (f.1, e))), f.0) c.due_of.ensures)
      | in_default-via-in_default w ↦
          (let f = first_none bs (rw w.in_default.is at c.first.ensures.value) in rw f.0 c.due_of.ensures)
    ]
