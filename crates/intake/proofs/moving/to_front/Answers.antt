-- `intake::moving::to_front` meets its contract.
use Rattle.std.proofs.Common.{arith}
use Rattle.intake.proofs.Moved.{nothing_moved, all_moved}
use Rattle.intake.proofs.moving.to_front.Goals as goal

pub returns-then-end-from : goal.returns-then-end-from
returns-then-end-from c = nothing_moved _ _ _ (omega (arith, c.min-end.ensures))

pub returns : goal.returns
returns c = all_moved c.args.from c.args.to c.min-end.result c.args.buf.now _ c.min-end.ensures (omega arith) c.copy_within.ensures.after
