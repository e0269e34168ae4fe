-- `sums::combine` meets its contract: a refusal keeps the first sketch, and where nothing is refused each count stays within its limits and each idsum is below the prime.
use borrow.Author.Rules.{rules}
use Rattle.params.specs.Answers.{kept}
use Rattle.sums.proofs.TwoSketches.{combine_done}
use Rattle.sums.proofs.combine.Goals as goal

pub returns-in_err-judge : goal.returns-in_err-judge
unfolding kept
returns-in_err-judge c = search rules

pub put_all-requires : goal.put_all-requires
put_all-requires c = search (rules, combine_done)

pub returns : goal.returns
unfolding kept
returns c = search rules
