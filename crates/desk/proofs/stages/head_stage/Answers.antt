-- `desk::stages::head_stage` meets its contract.
use borrow.Author.Rules.{rules}
use mathlib.Core.Path.{sym}
use Rattle.desk.specs.Desk.{head_stage}
use Rattle.desk.proofs.WhatIsDue.{head_whole}
use Rattle.desk.proofs.stages.head_stage.Goals as goal

pub returns-in_default : goal.returns-in_default
unfolding head_stage
returns-in_default c = search rules

pub take_head-requires : goal.take_head-requires
take_head-requires c = (head_whole _ (sym c.in-Here.ensures), c.requires)

pub returns-in-NotYet : goal.returns-in-NotYet
unfolding head_stage
returns-in-NotYet c = search rules

pub returns-in-Other : goal.returns-in-Other
unfolding head_stage
returns-in-Other c = search rules

pub returns-in-Here : goal.returns-in-Here
unfolding head_stage
returns-in-Here c = search rules
