-- `sketch::packets::fresh` meets its contract.
use borrow.Author.Rules.{rules}
use Rattle.params.specs.Answers.{kept}
use Rattle.params.proofs.Rules.{lent_done}
use Rattle.sketch.specs.Sketch.{zeros}
use Rattle.sketch.proofs.packets.fresh.Goals as goal

pub returns-in_err-judge_lent : goal.returns-in_err-judge_lent
unfolding kept
returns-in_err-judge_lent c = search rules

pub clear-requires : goal.clear-requires
clear-requires c = search (rules, lent_done)

pub returns : goal.returns
unfolding kept zeros
returns c = search (rules, lent_done)
