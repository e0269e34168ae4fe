-- `walk::test` meets its contract.
use Rattle.std.proofs.Common.{rules}
use Rattle.walk.specs.Purity.{test_in}
use Rattle.walk.proofs.test.Goals as goal
use Rattle.walk.proofs.test.Goals.{then-is_sketched, else-is_sketched}

pub returns-then-raise-eq0 : goal.returns-then-raise-eq0
unfolding test_in
returns-then-raise-eq0 c = search rules

pub returns : goal.returns
unfolding test_in
returns c = elim c.if-is_sketched.branch [ then-is_sketched w ↦ search rules | else-is_sketched w ↦ search rules ]
