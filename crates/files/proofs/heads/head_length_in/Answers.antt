-- `files::heads::head_length_in` meets its contract.
use Rattle.std.proofs.Common.{rules}
use lib.ListN.{get_or-eq_default}
use Rattle.files.specs.Records.{head_length_in}
use Rattle.files.proofs.heads.head_length_in.Goals as goal

pub returns-then-eq : goal.returns-then-eq
unfolding head_length_in
returns-then-eq c = search rules

pub returns-else-eq : goal.returns-else-eq
unfolding head_length_in
returns-else-eq c = search (rules, get_or-eq_default)
