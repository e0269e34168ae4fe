-- `files::heads::word_within` meets its contract.
use Rattle.std.proofs.Common.{rules}
use Rattle.files.proofs.Bodies.{word_past}
use Rattle.files.proofs.heads.word_within.Goals as goal

pub returns-then-body-at : goal.returns-then-body-at
returns-then-body-at c = search (rules, word_past)
