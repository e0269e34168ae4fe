-- `files::fields::end_at` meets its contract.
use Rattle.std.proofs.Common.{rules}
use Rattle.files.specs.Layout.{end_at}
use Rattle.files.proofs.fields.end_at.Goals as goal

pub returns : goal.returns
unfolding end_at
returns c = search rules
