-- `sketch::packets::entry` meets its contract.
use borrow.Author.Rules.{rules}
use Rattle.sketch.specs.Packets.{entry_answer}
use Rattle.params.specs.Answers.{first}
use Rattle.sketch.proofs.packets.entry.Goals as goal

pub returns-in_err-judge_dimensions : goal.returns-in_err-judge_dimensions
unfolding entry_answer first
returns-in_err-judge_dimensions c = search rules

pub returns : goal.returns
unfolding entry_answer first
returns c = search rules
