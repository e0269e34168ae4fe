-- `files::fields::end_in` meets its contract.
use Rattle.std.proofs.Common.{rules}
use Rattle.files.specs.Layout.{end_in_body}
use Rattle.files.proofs.fields.end_in.Goals as goal

pub returns-then-body-ne-END_BODY : goal.returns-then-body-ne-END_BODY
unfolding end_in_body
returns-then-body-ne-END_BODY c = search rules

pub returns : goal.returns
unfolding end_in_body
returns c = search rules
