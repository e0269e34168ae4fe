-- `files::fields::bucket_in` meets its contract.
use Rattle.std.proofs.Common.{rules}
use Rattle.files.specs.Layout.{bucket_in_body}
use Rattle.files.proofs.fields.bucket_in.Goals as goal

pub returns-then-body-ne-BUCKET_BODY : goal.returns-then-body-ne-BUCKET_BODY
unfolding bucket_in_body
returns-then-body-ne-BUCKET_BODY c = search rules

pub returns : goal.returns
unfolding bucket_in_body
returns c = search rules
