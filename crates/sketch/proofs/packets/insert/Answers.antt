-- `sketch::packets::insert` meets its contract.
use borrow.Author.Rules.{rules}
use Rattle.params.specs.Answers.{kept}
use Rattle.sketch.specs.Packets.{move_answer}
use Rattle.sketch.proofs.packets.insert.Goals as goal

pub returns-then-not-check : goal.returns-then-not-check
unfolding move_answer kept
returns-then-not-check c = search rules

pub returns : goal.returns
unfolding move_answer
returns c = search rules
