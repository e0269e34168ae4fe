-- `files::heads::head` meets its contract.
use mathlib.Core.Path.{sym}
use Rattle.std.proofs.Common.{rules}
use Rattle.files.specs.Heads.{head_answer, good_head}
use Rattle.files.proofs.Standing.{head_inside}
use Rattle.files.proofs.HeadStages.{head_body_long, body_params}
use Rattle.files.proofs.heads.head.Goals as goal

pub returns-then-not-is_head : goal.returns-then-not-is_head
unfolding head_answer
returns-then-not-is_head c = search rules

pub params_in-p-requires : goal.params_in-p-requires
params_in-p-requires c = head_body_long _ c.body.ensures (sym c.if-not-is_head.ensures)

pub bounds-bytes-0 : goal.bounds-bytes-0
bounds-bytes-0 c = search (rules, head_inside)

pub returns-then-not-good_head : goal.returns-then-not-good_head
unfolding head_answer good_head
returns-then-not-good_head c = search (rules, body_params _ c.body.ensures (sym c.if-not-is_head.ensures))

pub returns : goal.returns
unfolding head_answer good_head
returns c = search (rules, body_params _ c.body.ensures (sym c.if-not-is_head.ensures))
