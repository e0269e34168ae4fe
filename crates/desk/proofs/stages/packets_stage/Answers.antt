-- `desk::stages::packets_stage` meets its contract.
use borrow.Author.Rules.{rules}
use mathlib.Core.Path.{ap}
use Prim.Native.Nat.{◌*◌, ◌≤◌}
use native.Mathlib.Omega.{arith}
use lib.ListN.{length}
use Rattle.desk.specs.Desk.{packets_stage, packets_sketch, packets_state}
use Rattle.desk.proofs.Taking.{taken_bytes}
use Rattle.desk.proofs.OffsetsFit.{bounded}
use Rattle.files.specs.Records.{packets_length}
use Rattle.desk.proofs.stages.packets_stage.Goals as goal
use Rattle.desk.proofs.stages.packets_stage.Goals.{After-take_packets-run}

pub returns-then-not-is_due : goal.returns-then-not-is_due
unfolding packets_stage packets_sketch
returns-then-not-is_due c = search rules

-- the packets that were taken lie within the bytes
within : (c : After-take_packets-run) → packets_length * c.take_packets-run.result.taken ≤ length c.args.bytes.now
within c = rw (ap (λ r. r.taken) c.take_packets-run.ensures.value) (taken_bytes _ _ _)

pub overflow_mul-result : goal.overflow_mul-result
overflow_mul-result c = omega (arith, bounded _ _ c.requires, within (goal.at.overflow_mul-result c).After-take_packets-run)

pub overflow_add-result : goal.overflow_add-result
overflow_add-result c = omega (arith, bounded _ _ c.requires, within (goal.at.overflow_add-result c).After-take_packets-run)

pub overflow_add-result-2 : goal.overflow_add-result-2
overflow_add-result-2 c = omega (arith, bounded _ _ c.requires, within (goal.at.overflow_add-result-2 c).After-take_packets-run)

pub returns : goal.returns
unfolding packets_stage packets_sketch packets_state
returns c = search rules
