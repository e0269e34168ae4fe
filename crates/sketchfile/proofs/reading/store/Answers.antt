-- `sketchfile::reading::store` meets its contract. The invariant: the buckets before the offset are stored.
use mathlib.Core.Path.{refl, ap₂, ◌∙◌}
use native.Mathlib.Omega.{arith}
use borrow.Author.Rules.{rules}
use Rattle.sketch.specs.Sketch.{sketch}
use Rattle.sketchfile.specs.Reading.{stored}
use Rattle.sketchfile.proofs.BucketRecords.{Found, reader_start, found_bucket, none_left, next_stored}
use Rattle.sketchfile.proofs.reading.store.Goals as goal
use Rattle.sketchfile.proofs.reading.store.Goals.{In-Some}

pub loop-index-init : goal.loop-index-init
unfolding stored
loop-index-init c = record { passed = 0; reader = reader_start _ c.head_length_in-at.ensures; so_far = refl }

-- what was found
bucket : (c : In-Some) → Found c.args.bytes.now c.loop-index.invariant.passed c.loop-index.at c.in-Some.index c.in-Some.c c.in-Some.s
bucket c = found_bucket c.loop-index.invariant.reader c.bucket_at.ensures c.in-Some.is

pub overflow_add-at : goal.overflow_add-at
overflow_add-at c = omega (arith, bucket (goal.at.overflow_add-at c).In-Some)

pub loop-index-smaller : goal.loop-index-smaller
loop-index-smaller c = omega (arith, bucket (goal.at.loop-index-smaller c).In-Some)

pub loop-index-preserved : goal.loop-index-preserved
loop-index-preserved c =
    let f = bucket (goal.at.loop-index-preserved c).In-Some in
    let both = c.set_bucket.ensures in
    record { passed = _; reader = f.next; so_far = ap₂ sketch both.counts_after both.idsums_after ∙ next_stored f _ c.loop-index.invariant.so_far (search rules) }

pub returns : goal.returns
returns c =
    let t = c.loop-index.invariant in
    rw (← none_left t.reader c.bucket_at.ensures c.in_default.is) t.so_far
