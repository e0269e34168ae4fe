-- `sums::judge` meets its contract: the parameters and the lengths; then nothing at fault where all is small, else the first damaged bucket, then the first that would leave its limits.
use mathlib.Core.Path.{sym}
use borrow.Author.Rules.{rules}
use Rattle.params.specs.Answers.{first}
use Rattle.params.proofs.Judging.{refuse_some, refuse_nothing}
use Rattle.sums.specs.Sums.{buckets_answer, combine_answer}
use Rattle.sums.proofs.TwoSketches.{both_lent_done, same_lengths, small_lengths, small_done}
use Rattle.sums.proofs.judge.Goals as goal

pub returns-in_err-judge_both : goal.returns-in_err-judge_both
unfolding combine_answer first
returns-in_err-judge_both c = search rules

pub all_small-requires : goal.all_small-requires
all_small-requires c = let h = both_lent_done _ _ _ _ _ _ (sym c.in_ok-judge_both.ensures) in record { idsums_len = same_lengths h; counts_len_bound = small_lengths h }

pub returns-then-all_small : goal.returns-then-all_small
unfolding combine_answer first
returns-then-all_small c = search (rules, small_done)

pub first_damaged-requires : goal.first_damaged-requires
first_damaged-requires c = search (rules, both_lent_done, same_lengths)

pub returns-in-Some : goal.returns-in-Some
unfolding combine_answer buckets_answer first
returns-in-Some c = search (rules, refuse_some)

pub first_leaving-requires : goal.first_leaving-requires
first_leaving-requires c = search (rules, both_lent_done, same_lengths)

pub returns-in-Some-first_leaving : goal.returns-in-Some-first_leaving
unfolding combine_answer buckets_answer first
returns-in-Some-first_leaving c = search (rules, refuse_some, refuse_nothing)

pub returns : goal.returns
unfolding combine_answer buckets_answer first
returns c = search (rules, refuse_nothing)
