-- `files::records::body_of` meets its contract.
use Rattle.std.proofs.Common.{rules}
use Rattle.files.proofs.Bodies.{body_there, body_starts}
use Rattle.files.specs.Records.{body_of_kind}
use Rattle.files.proofs.records.body_of.Goals as goal

pub returns-then-not-is_kind : goal.returns-then-not-is_kind
unfolding body_of_kind
returns-then-not-is_kind c = search rules

pub returns : goal.returns
unfolding body_of_kind
returns c = search (rules, body_there, body_starts)
