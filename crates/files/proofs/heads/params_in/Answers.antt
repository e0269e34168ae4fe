-- `files::heads::params_in` meets its contract.
use Rattle.std.proofs.Common.{rules}
use Rattle.files.specs.Heads.{params_in_body}
use Rattle.files.proofs.heads.params_in.Goals as goal

pub returns : goal.returns
unfolding params_in_body
returns c = search rules
