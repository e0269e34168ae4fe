-- `files::records::word` meets its contract.
use Rattle.files.specs.Bytes.{word}
use Rattle.files.proofs.records.word.Goals as goal

pub returns : goal.returns
unfolding word
returns c = c.from_be_bytes.ensures
