-- `sketchfile::reading::judge_records` meets its contract. The invariant: n buckets were found, and none of them is refused.
use mathlib.Core.Path.{refl, sym, ◌∙◌}
use native.Mathlib.Omega.{arith}
use borrow.Author.Count.{below_more}
use borrow.Author.Rules.{rules}
use Rattle.params.proofs.Judging.{handed_on}
use Rattle.sketchfile.specs.Reading.{lowest}
use Rattle.sketchfile.proofs.BucketRecords.{Found, reader_start, found_bucket, none_left, as_judged, bucket_refused, all_passed, next_lowest}
use Rattle.sketchfile.proofs.reading.judge_records.Goals as goal
use Rattle.sketchfile.proofs.reading.judge_records.Goals.{In-Some}

pub loop-index-init : goal.loop-index-init
unfolding lowest
loop-index-init c = (reader_start _ c.head_length_in-at.ensures, refl, (λ j h. absurd (omega arith)))

-- what was found
bucket : (c : In-Some) → Found c.args.bytes.now c.loop-index.n c.loop-index.at c.in-Some.index c.in-Some.c c.in-Some.s
bucket c = found_bucket c.loop-index.invariant.0 c.bucket_at.ensures c.in-Some.is

pub returns-in_err-judge_bucket : goal.returns-in_err-judge_bucket
returns-in_err-judge_bucket c =
    let l = c.loop-index in
    let f = bucket (goal.at.returns-in_err-judge_bucket c).In-Some in
    bucket_refused _ f l.invariant.2 (handed_on c.from_residual.ensures.1 ∙ as_judged _ l.invariant.0 f l.invariant.1 (search rules) c.in_err-judge_bucket.ensures) c.from_residual.ensures.0

pub overflow_add-at : goal.overflow_add-at
overflow_add-at c = omega (arith, bucket (goal.at.overflow_add-at c).In-Some)

pub loop-index-smaller : goal.loop-index-smaller
loop-index-smaller c = omega (arith, bucket (goal.at.loop-index-smaller c).In-Some)

pub loop-index-preserved : goal.loop-index-preserved
loop-index-preserved c =
    let l = c.loop-index in
    let f = bucket (goal.at.loop-index-preserved c).In-Some in
    (f.next, next_lowest f, below_more _ _ l.invariant.2 (sym (as_judged _ l.invariant.0 f l.invariant.1 (search rules) c.in_ok-judge_bucket.ensures)))

pub returns : goal.returns
returns c =
    let l = c.loop-index in
    let r = l.invariant.0 in
    c.judge_end.ensures ∙ all_passed _ r (none_left r c.bucket_at.ensures c.in_default.is) l.invariant.2
