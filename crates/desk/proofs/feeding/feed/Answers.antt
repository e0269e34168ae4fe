-- `desk::feeding::feed` meets its contract: what is lent is judged, and then the records are taken.
use borrow.Author.Rules.{rules}
use Rattle.params.specs.Answers.{kept}
use Rattle.desk.specs.Desk.{lent_both}
use Rattle.desk.proofs.feeding.feed.Goals as goal

pub returns-in-Err : goal.returns-in-Err
unfolding lent_both kept
returns-in-Err c = search rules

pub returns : goal.returns
unfolding lent_both kept
returns c = search rules
