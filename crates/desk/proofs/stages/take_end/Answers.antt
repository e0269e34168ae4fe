-- `desk::stages::take_end` meets its contract.
use borrow.Author.Rules.{rules}
use mathlib.Core.Path.{sym}
use native.Mathlib.Omega.{arith}
use Rattle.files.proofs.Standing.{kind_ends}
use Rattle.desk.proofs.OffsetsFit.{bounded}
use Rattle.desk.proofs.WhatIsDue.{end_said, end_not_said}
use Rattle.desk.proofs.stages.take_end.Goals as goal

pub returns-in_default : goal.returns-in_default
returns-in_default c = absurd (end_not_said _ c.requires.0 c.end_at.ensures c.in_default.not-Some)

pub returns-then-number-s : goal.returns-then-number-s
returns-then-number-s c = let said = end_said _ _ c.requires.0 (sym c.in-Some.ensures) in search rules

pub overflow_add-result : goal.overflow_add-result
overflow_add-result c = grind (arith, bounded, kind_ends)

pub returns : goal.returns
returns c = let said = end_said _ _ c.requires.0 (sym c.in-Some.ensures) in search rules
