-- `files::fields::packets_at` meets its contract.
use Rattle.std.proofs.Common.{rules}
use Rattle.files.specs.Layout.{packets_at}
use Rattle.files.proofs.fields.packets_at.Goals as goal

pub returns : goal.returns
unfolding packets_at
returns c = search rules
