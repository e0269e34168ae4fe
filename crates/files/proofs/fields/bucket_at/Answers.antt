-- `files::fields::bucket_at` meets its contract.
use Rattle.std.proofs.Common.{rules}
use Rattle.files.specs.Layout.{bucket_at}
use Rattle.files.proofs.fields.bucket_at.Goals as goal

pub returns : goal.returns
unfolding bucket_at
returns c = search rules
