-- `intake::opening::head_settled` meets its contract.
use borrow.Author.Rules.{rules}
use borrow.Author.Tests.{lt-leb, ne_eqb}
use lib.ListN.{length}
use native.Mathlib.Omega.{arith}
use Rattle.files.specs.Records.{head_length_in, head_kind}
use Rattle.files.proofs.FirstByte.{first_some, first_none}
use Rattle.intake.specs.Intake.{head_settled}
use Rattle.intake.proofs.opening.head_settled.Goals as goal
use Rattle.intake.proofs.opening.head_settled.Goals.{then-first-eq-HEAD, else-first-eq-HEAD}

pub returns-in-None : goal.returns-in-None
unfolding head_settled
returns-in-None c = rw (first_none _ c.in-None.ensures.value).0

pub returns-then-head_length_in-bytes : goal.returns-then-head_length_in-bytes
unfolding head_settled
returns-then-head_length_in-bytes c = let f = first_some _ c.in-Some.ensures.value in search rules

pub returns-after-first-eq-HEAD : goal.returns-after-first-eq-HEAD
unfolding head_settled
returns-after-first-eq-HEAD c =
    let bs = c.args.bytes.now in
    let f = first_some bs c.in-Some.ensures.value in
    let short = lt-leb (head_length_in bs) (length bs) (omega (arith, c.head_length_in.ensures)) in
    elim c.if-first-eq-HEAD.branch [
      | then-first-eq-HEAD w ↦ rw (w.result-is, f.0, short, f.1, w.if-first-eq-HEAD.true)
      | else-first-eq-HEAD w ↦ rw (w.result-is, f.0, short, f.1, ne_eqb c.in-Some.field-0.now head_kind w.if-first-eq-HEAD.false)
    ]
