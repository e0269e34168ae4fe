-- `peel::take::apply` meets its contract. The invariant: both slices are changed in the first i arrays, and `nonzero` counts what is not all zero in them.
use mathlib.Core.Path.{◌≡◌, ap₂}
use native.Mathlib.Omega.{arith}
use lib.IntN.{pos}
use lib.ListN.{get_or}
use mir.Facts.{to_z-of_z}
use Rattle.sketch.specs.Sketch.{sketch, changed_in}
use Rattle.sketch.proofs.Standing.{Within, reach}
use Rattle.sketch.proofs.ArrayTurns.{turns_start}
use Rattle.peel.proofs.OneArray.{bucket_old, bucket_next}
use Rattle.peel.proofs.take.apply.Goals as goal
use Rattle.peel.proofs.take.apply.Goals.{In-loop-i}

-- what a turn reaches
within : (c : In-loop-i) → Within c.args.d c.args.m c.loop-i.i (get_or c.args.ks.now c.loop-i.i 0)
within c = reach c.loop-i.i c.requires.within_arrays.0 c.loop-i-test.true

pub loop-i-init : goal.loop-i-init
loop-i-init c = (turns_start (pos 0) _ _ _ _, turns_start 0 _ _ _ _, c.requires.within_arrays.1)

pub take_one-nonzero-requires : goal.take_one-nonzero-requires
take_one-nonzero-requires c =
    let l = c.loop-i in
    let h = c.loop-i-test.true in
    let w = within (goal.at.take_one-nonzero-requires c).In-loop-i in
    let r = c.requires.within_arrays.0 in
    record {
      inside = omega (arith, w.bucket, r.counts_long, l.auto.counts);
      inside_ids = omega (arith, w.bucket, r.idsums_long, l.auto.idsums);
      limits = rw (bucket_old (pos 0) c.args.m (λ j. get_or c.args.ks.now j 0) l.i _ c.args.counts.now _ r.m_low (r.inside l.i h) (omega (arith, w.bucket, r.counts_long)) l.invariant.0, to_z-of_z c.ranges.c) (c.requires.by_index l.i h);
      idsum = rw (bucket_old 0 c.args.m (λ j. get_or c.args.ks.now j 0) l.i _ c.args.idsums.now _ r.m_low (r.inside l.i h) (omega (arith, w.bucket, r.idsums_long)) l.invariant.1) (c.requires.by_index_2.0 l.i h);
      small = c.requires.by_index_2.1;
      counted = l.invariant.2;
    }

pub loop-i-preserved : goal.loop-i-preserved
loop-i-preserved c =
    let l = c.loop-i in
    let h = c.loop-i-test.true in
    let w = within (goal.at.loop-i-preserved c).In-loop-i in
    let r = c.requires.within_arrays.0 in
    let t = c.take_one-nonzero.ensures in (
      bucket_next (pos 0) c.args.m (λ j. get_or c.args.ks.now j 0) l.i _ c.args.counts.now _ r.m_low (r.inside l.i h) (omega (arith, w.bucket, r.counts_long)) l.invariant.0 _ t.counts,
      bucket_next 0 c.args.m (λ j. get_or c.args.ks.now j 0) l.i _ c.args.idsums.now _ r.m_low (r.inside l.i h) (omega (arith, w.bucket, r.idsums_long)) l.invariant.1 _ t.idsums,
      t.counted,
    )

pub returns : goal.returns
unfolding changed_in
returns c =
    let l = c.loop-i in
    let end : l.i ≡ c.args.d = omega arith in
    record {
      after = ap₂ sketch (rw (end, to_z-of_z c.ranges.c) at l.invariant.0) (rw end at l.invariant.1);
      counted = l.invariant.2;
    }
