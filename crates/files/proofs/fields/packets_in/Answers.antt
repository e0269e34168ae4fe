-- `files::fields::packets_in` meets its contract.
use Rattle.std.proofs.Common.{rules}
use Rattle.files.specs.Layout.{packets_in_body}
use Rattle.files.proofs.fields.packets_in.Goals as goal

pub returns-then-body-ne-PACKETS_BODY : goal.returns-then-body-ne-PACKETS_BODY
unfolding packets_in_body
returns-then-body-ne-PACKETS_BODY c = search rules

pub returns : goal.returns
unfolding packets_in_body
returns c = search rules
