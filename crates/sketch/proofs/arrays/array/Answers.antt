-- `sketch::arrays::array` meets its contract: each test that fails is the first that the answer has.
use borrow.Author.Rules.{rules}
use Rattle.sketch.specs.Arrays.{array_answer}
use Rattle.sketch.proofs.arrays.array.Goals as goal
use Rattle.sketch.proofs.arrays.array.Goals.{then-not-check-via-then-not-check, then-not-check-via-else-not-check+then-i-lt1, then-not-check-via-else-not-check+else-i-lt1+then-p-i}

pub returns-then-not-check : goal.returns-then-not-check
unfolding array_answer
returns-then-not-check c = elim c.then-not-check.branch [
  | then-not-check-via-then-not-check w ↦ search rules
  | then-not-check-via-else-not-check+then-i-lt1 w ↦ search rules
  | then-not-check-via-else-not-check+else-i-lt1+then-p-i w ↦ search rules
]

pub returns-then-len-size : goal.returns-then-len-size
unfolding array_answer
returns-then-len-size c = search rules

pub returns : goal.returns
unfolding array_answer
returns c = search rules
