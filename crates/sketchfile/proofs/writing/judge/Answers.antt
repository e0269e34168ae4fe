-- `sketchfile::writing::judge` meets its contract: the parameters and the lengths, then the first damaged bucket.
use mathlib.Core.Path.{sym, ◌∙◌}
use Prim.Native.Nat.{◌≤◌}
use native.Mathlib.Omega.{arith}
use borrow.Author.Rules.{rules}
use lib.ListN.{length}
use Rattle.params.specs.Answers.{first, refuse_at}
use Rattle.sketch.specs.Sketch.{sketch}
use Rattle.params.proofs.Judging.{first_refused, handed_on}
use Rattle.params.proofs.Rules.{lent_done, dimensions_small}
use Rattle.files.proofs.Profiles.{length_most}
use Rattle.sketchfile.specs.Writing.{sketch_write_answer}
use Rattle.sketchfile.proofs.Written.{sketch_long}
use Rattle.sketchfile.proofs.writing.judge.Goals as goal
use Rattle.sketchfile.proofs.writing.judge.Goals.{In_ok-judge_lent}

pub returns-in_err-judge_lent : goal.returns-in_err-judge_lent
unfolding sketch_write_answer
returns-in_err-judge_lent c = first_refused _ _ _ (handed_on c.from_residual.ensures.1 ∙ c.in_err-judge_lent.ensures) c.from_residual.ensures.0

few : (c : In_ok-judge_lent) → length c.args.counts.now ≤ 65536
few c = let h = lent_done _ _ _ (sym c.in_ok-judge_lent.ensures) in omega (arith, dimensions_small h.0)

pub nonzero_buckets-requires : goal.nonzero_buckets-requires
nonzero_buckets-requires c = let h = lent_done _ _ _ (sym c.in_ok-judge_lent.ensures) in h.1 ∙ sym h.2

pub overflow_mul-nonzero_buckets : goal.overflow_mul-nonzero_buckets
overflow_mul-nonzero_buckets c = omega (arith, few (goal.at.overflow_mul-nonzero_buckets c).In_ok-judge_lent)

pub overflow_add-head_length : goal.overflow_add-head_length
overflow_add-head_length c = omega (arith, few (goal.at.overflow_add-head_length c).In_ok-judge_lent, c.head_length.ensures, length_most c.args.p)

pub overflow_add-head_length-2 : goal.overflow_add-head_length-2
overflow_add-head_length-2 c = omega (arith, few (goal.at.overflow_add-head_length-2 c).In_ok-judge_lent, c.head_length.ensures, length_most c.args.p)

pub returns-then-room-head_length : goal.returns-then-room-head_length
unfolding sketch_write_answer first
returns-then-room-head_length c = let a = c.args in search (rules, lent_done _ _ _ (sym c.in_ok-judge_lent.ensures), sketch_long a.p (sketch a.counts.now a.idsums.now))

pub returns-then-x-counts : goal.returns-then-x-counts
unfolding sketch_write_answer first refuse_at
returns-then-x-counts c = let a = c.args in search (rules, lent_done _ _ _ (sym c.in_ok-judge_lent.ensures), sketch_long a.p (sketch a.counts.now a.idsums.now))

pub returns : goal.returns
unfolding sketch_write_answer first refuse_at
returns c = let a = c.args in search (rules, lent_done _ _ _ (sym c.in_ok-judge_lent.ensures), sketch_long a.p (sketch a.counts.now a.idsums.now))
