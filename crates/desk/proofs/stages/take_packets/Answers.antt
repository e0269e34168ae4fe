-- `desk::stages::take_packets` meets its contract. The invariant: so many packets went in, and what they made stands in the sketch.
use mathlib.Core.Path.{refl, sym, ◌∙◌}
use Prim.Native.Nat.{◌+◌, ◌≤◌}
use native.Mathlib.Omega.{arith}
use lib.ListN.{length}
use Rattle.params.proofs.Judging.{kept_old, kept_new}
use Rattle.files.specs.Records.{packets_length}
use Rattle.files.specs.Turns.{packet_from}
use Rattle.streamfile.proofs.Found.{There, packets_there, packets_not_there}
use Rattle.streamfile.proofs.InTurn.{gone_none, next_ends, gone_more}
use Rattle.desk.proofs.Taking.{not_err, run_refused, run_ended}
use Rattle.desk.proofs.stages.take_packets.Goals as goal
use Rattle.desk.proofs.stages.take_packets.Goals.{In-Some}

pub loop-flow-init : goal.loop-flow-init
loop-flow-init c = (refl, gone_none _ 0 _ _)

-- packets stand next
there : (c : In-Some) → There c.args.bytes.now (packet_from 0 c.loop-flow.taken) c.in-Some.flow c.in-Some.number
there c = rw c.loop-flow.invariant.0 at (packets_there _ _ _ _ (sym c.packets_at.ensures ∙ c.in-Some.is))

ends : (c : In-Some) → c.loop-flow.at + packets_length ≤ length c.args.bytes.now
ends c = rw c.loop-flow.invariant.0 (next_ends _ 0 _ _ _ _ c.loop-flow.invariant.1 _ _ (there c))

pub returns-then-is_err : goal.returns-then-is_err
returns-then-is_err c =
    let z = c.step-answer.ensures in
    let refused = sym c.if-is_err.ensures.value in
    let r = run_refused _ _ _ _ _ c.loop-flow.invariant.1 _ _ (there (goal.at.returns-then-is_err c).In-Some) _ z.answer refused in
    record { value = r.0; sketch_after = z.after ∙ sym (kept_old _ _ _ refused) ∙ r.1 }

pub overflow_add-at : goal.overflow_add-at
overflow_add-at c = omega (arith, ends (goal.at.overflow_add-at c).In-Some)

pub loop-flow-smaller : goal.loop-flow-smaller
loop-flow-smaller c = omega (arith, ends (goal.at.loop-flow-smaller c).In-Some)

pub loop-flow-preserved : goal.loop-flow-preserved
loop-flow-preserved c =
    let l = c.loop-flow in
    let z = c.step-answer.ensures in
    let done = not_err _ (sym c.if-is_err.ensures.value) in
    (omega (arith, l.invariant.0), gone_more _ 0 _ _ _ _ l.invariant.1 _ _ (there (goal.at.loop-flow-preserved c).In-Some) _ (sym z.answer ∙ done) (z.after ∙ sym (kept_new _ _ _ done)))

pub returns : goal.returns
returns c =
    let l = c.loop-flow in
    let r = run_ended _ _ _ _ _ l.invariant.1 (rw l.invariant.0 at (packets_not_there _ _ _ c.packets_at.ensures c.in_default.is)) in
    record { value = r.0; sketch_after = r.1 }
