-- `sums::put_all` meets its contract. The loop's invariant: the buckets passed are changed, and no others.
use Rattle.std.proofs.Common.{◌≡◌, pos, get_or, ap₂, ◌∙◌, arith}
use Rattle.std.proofs.lemmas.Int.{ints, to_z-of_z}
use borrow.Author.Rules.{sfits_of}
use Rattle.buckets.specs.Buckets.{plus_minus}
use Rattle.sketch.specs.Sketch.{sketch}
use Rattle.sums.specs.Sums.{combined}
use Rattle.params.proofs.Changes.{each_none, each_old, each_next, each_all}
use Rattle.buckets.proofs.Limits.{narrows, narrowed}
use Rattle.buckets.proofs.Idsums.{idsum_plus_minus_is}
use Rattle.sums.proofs.put_all.Goals as goal
use Rattle.sums.proofs.put_all.Goals.{After-plus_minus}

-- the new count of this turn's bucket, at the wide width
new : (c : After-plus_minus) → let a = c.args in
    c.plus_minus.result ≡ plus_minus a.minus (get_or a.counts.now c.loop-i.i (pos 0)) (get_or a.other_counts.now c.loop-i.i (pos 0))
new c = let old = each_old (pos 0) _ _ _ _ (omega arith) c.loop-i.invariant.0 in grind (arith, ints, to_z-of_z)

pub loop-i-init : goal.loop-i-init
loop-i-init c = (each_none (pos 0) _ _, each_none 0 _ _)

pub overflow_cast-counts : goal.overflow_cast-counts
overflow_cast-counts c = narrows (sfits_of c.plus_minus.type_inv) (new (goal.at.overflow_cast-counts c).After-plus_minus) (c.requires.by_index _ (omega arith))

pub loop-i-preserved : goal.loop-i-preserved
loop-i-preserved c =
    let v = c.loop-i.invariant in
    let old = each_old 0 _ _ _ _ (omega arith) v.1 in
    let below = c.requires.by_index_2 c.loop-i.i (omega arith) in (
      each_next (pos 0) _ _ _ _ _ (omega arith) v.0
          (narrowed (sfits_of c.plus_minus.type_inv) (new (goal.at.loop-i-preserved c).After-plus_minus) (c.requires.by_index _ (omega arith))),
      each_next 0 _ _ _ _ _ (omega arith) v.1 (rw old at c.idsum_plus_minus.ensures ∙ idsum_plus_minus_is _ _ _ below.0 below.1),
    )

pub returns : goal.returns
unfolding combined
returns c = ap₂ sketch (each_all (pos 0) _ _ _ _ (omega arith) c.loop-i.invariant.0) (each_all 0 _ _ _ _ (omega arith) c.loop-i.invariant.1)
