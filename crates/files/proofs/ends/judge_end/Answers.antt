-- `files::ends::judge_end` meets its contract.
use Rattle.std.proofs.Common.{rules}
use Rattle.files.specs.Turns.{end_answer}
use Rattle.files.specs.Records.{record_at}
use Rattle.files.proofs.Bodies.{end_fields}
use Rattle.files.proofs.ends.judge_end.Goals as goal

pub returns-then-bytes-at : goal.returns-then-bytes-at
unfolding end_answer record_at
returns-then-bytes-at c = search rules

pub returns-in_default : goal.returns-in_default
unfolding end_answer
returns-in_default c = search (rules, end_fields)

pub returns-then-records-n : goal.returns-then-records-n
unfolding end_answer
returns-then-records-n c = search (rules, end_fields)

pub returns-then-at-bytes : goal.returns-then-at-bytes
unfolding end_answer
returns-then-at-bytes c = search (rules, end_fields)

pub returns : goal.returns
unfolding end_answer
returns c = search (rules, end_fields)
