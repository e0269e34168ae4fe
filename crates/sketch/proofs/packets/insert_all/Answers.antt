-- `sketch::packets::insert_all` meets its contract.
use borrow.Author.Rules.{rules}
use Rattle.params.specs.Answers.{first, kept}
use Rattle.sketch.specs.Packets.{all_answer}
use Rattle.sketch.proofs.packets.insert_all.Goals as goal

pub returns-in_err-judge_lent : goal.returns-in_err-judge_lent
unfolding all_answer first kept
returns-in_err-judge_lent c = search rules

pub returns-then-flows-numbers : goal.returns-then-flows-numbers
unfolding all_answer first kept
returns-then-flows-numbers c = search rules

pub returns : goal.returns
unfolding all_answer first
returns c = search rules
