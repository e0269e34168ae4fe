-- `sketch::packets::put_all` meets its contract. The invariant: both slices are changed in the first i arrays.
use mathlib.Core.Path.{◌≡◌, ap₂}
use native.Mathlib.Omega.{arith}
use lib.IntN.{pos}
use lib.ListN.{get_or}
use mir.Facts.{to_z-of_z}
use Rattle.sketch.specs.Sketch.{sketch, changed_in}
use Rattle.sketch.proofs.Standing.{reach}
use Rattle.sketch.proofs.ArrayTurns.{turns_start, turn_old, turn_next}
use Rattle.sketch.proofs.packets.put_all.Goals as goal

pub loop-i-init : goal.loop-i-init
loop-i-init c = (turns_start (pos 0) _ _ _ _, turns_start 0 _ _ _ _)

pub put-requires-clause-n_value : goal.put-requires-clause-n_value
put-requires-clause-n_value c =
    let i = c.loop-i.i in
    let h = c.loop-i-test.true in
    let r = c.requires.within_arrays in
    let w = reach i r h in
    rw (turn_old (pos 0) c.args.m (λ j. get_or c.args.ks.now j 0) i _ c.args.counts.now _ r.m_low (omega arith) (r.inside i h) c.loop-i.invariant.0, to_z-of_z c.ranges.n) (c.requires.by_index i h)

pub put-requires-clause-j_bound : goal.put-requires-clause-j_bound
put-requires-clause-j_bound c =
    let i = c.loop-i.i in
    let h = c.loop-i-test.true in
    let r = c.requires.within_arrays in
    let w = reach i r h in (
      rw (turn_old 0 c.args.m (λ j. get_or c.args.ks.now j 0) i _ c.args.idsums.now _ r.m_low (omega arith) (r.inside i h) c.loop-i.invariant.1) (c.requires.by_index_2.0 i h),
      c.requires.by_index_2.1,
    )

pub loop-i-preserved : goal.loop-i-preserved
loop-i-preserved c =
    let i = c.loop-i.i in
    let h = c.loop-i-test.true in
    let r = c.requires.within_arrays in
    let w = reach i r h in (
      turn_next (pos 0) c.args.m (λ j. get_or c.args.ks.now j 0) i _ c.args.counts.now _ r.m_low (omega arith) (r.inside i h) c.loop-i.invariant.0 _ c.put.ensures.counts_after,
      turn_next 0 c.args.m (λ j. get_or c.args.ks.now j 0) i _ c.args.idsums.now _ r.m_low (omega arith) (r.inside i h) c.loop-i.invariant.1 _ c.put.ensures.idsums_after,
    )

pub returns : goal.returns
unfolding changed_in
returns c =
    let end : c.loop-i.i ≡ c.args.d = omega arith in
    ap₂ sketch (rw (end, to_z-of_z c.ranges.n) at c.loop-i.invariant.0) (rw end at c.loop-i.invariant.1)
