-- `sketchfile::writing::nonzero_buckets` meets its contract. The invariant: those that are counted and those that are left make all.
use Rattle.std.proofs.Common.{length, arith}
use Rattle.std.proofs.lemmas.Int.{ints, to_z-of_z}
use Rattle.sketch.specs.Sketch.{sketch}
use Rattle.sketchfile.proofs.Written.{next_counted, none_counted}
use Rattle.sketchfile.proofs.writing.nonzero_buckets.Goals as goal

pub loop-k-init : goal.loop-k-init
loop-k-init c = (omega arith, grind arith)

pub loop-k-preserved : goal.loop-k-preserved
loop-k-preserved c =
    let a = c.args in
    let next = next_counted (sketch a.counts.now a.idsums.now) (length a.counts.now) c.loop-k.k (omega arith) in
    (grind arith, grind (arith, ints, to_z-of_z))

pub returns : goal.returns
returns c =
    let a = c.args in
    let S = sketch a.counts.now a.idsums.now in
    let none = none_counted S (length a.counts.now) c.loop-k.k (omega arith) in
    (omega arith, omega arith)
