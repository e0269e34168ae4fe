-- `files::records::record_at` meets its contract.
use Rattle.std.proofs.Common.{rules}
use Rattle.files.specs.Records.{record_at}
use Rattle.files.proofs.records.record_at.Goals as goal

pub returns-then-bytes-at : goal.returns-then-bytes-at
unfolding record_at
returns-then-bytes-at c = search rules

pub returns-then-long-eq0 : goal.returns-then-long-eq0
unfolding record_at
returns-then-long-eq0 c = search rules

pub returns-then-bytes-at-2 : goal.returns-then-bytes-at-2
unfolding record_at
returns-then-bytes-at-2 c = search rules

pub returns : goal.returns
unfolding record_at
returns c = search rules
