-- `desk::stages::take_head` meets its contract.
use mathlib.Core.Path.{sym}
use native.Mathlib.Omega.{arith}
use Rattle.desk.proofs.HeadAnswers.{second_within}
use Rattle.desk.proofs.OffsetsFit.{bounded}
use Rattle.desk.proofs.stages.take_head.Goals as goal

pub overflow_add-result : goal.overflow_add-result
overflow_add-result c = let pre = c.requires in omega (arith, bounded _ _ pre.1, second_within _ _ (sym c.in-Ok.ensures) pre.0)
