-- `sketchfile::reading::judge_bucket` meets its contract.
use borrow.Author.Rules.{rules}
use Rattle.sketchfile.specs.Reading.{bucket_answer}
use Rattle.sketchfile.proofs.reading.judge_bucket.Goals as goal

pub returns-then-not-undamaged : goal.returns-then-not-undamaged
unfolding bucket_answer
returns-then-not-undamaged c = search rules

pub returns-then-size-index : goal.returns-then-size-index
unfolding bucket_answer
returns-then-size-index c = search rules

pub returns : goal.returns
unfolding bucket_answer
returns c = search rules
