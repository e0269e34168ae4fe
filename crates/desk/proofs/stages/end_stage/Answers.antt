-- `desk::stages::end_stage` meets its contract.
use borrow.Author.Rules.{rules}
use mathlib.Core.Path.{sym}
use Rattle.desk.specs.Desk.{end_stage}
use Rattle.desk.proofs.WhatIsDue.{end_whole}
use Rattle.desk.proofs.stages.end_stage.Goals as goal

pub returns-then-not-packets_due : goal.returns-then-not-packets_due
unfolding end_stage
returns-then-not-packets_due c = search rules

pub take_end-requires : goal.take_end-requires
take_end-requires c = (end_whole _ (sym c.in-Here.ensures), c.requires)

pub returns-in-NotYet : goal.returns-in-NotYet
unfolding end_stage
returns-in-NotYet c = search rules

pub returns-in-Other : goal.returns-in-Other
unfolding end_stage
returns-in-Other c = search rules

pub returns-in-Here : goal.returns-in-Here
unfolding end_stage
returns-in-Here c = search rules
