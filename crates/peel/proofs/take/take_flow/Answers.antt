-- `peel::take::take_flow` meets its contract: the buckets, the table and the queue, each as the definition of a take says.
use mathlib.Core.Path.{◌∙◌}
use native.Mathlib.Omega.{arith}
use mir.Facts.{to_z-of_z}
use Rattle.params.proofs.Rules.{dimensions_small}
use Rattle.sketch.proofs.Steps.{reached}
use Rattle.peel.specs.Table.{Credited}
use Rattle.peel.specs.Chains.{Relinked}
use Rattle.peel.specs.Nonzero.{Applied}
use Rattle.peel.proofs.Chains.{key_below}
use Rattle.peel.proofs.Rings.{ring_kept}
use Rattle.peel.proofs.Taken.{took}
use Rattle.peel.proofs.take.take_flow.Goals as goal
use Rattle.peel.proofs.take.take_flow.Goals.{After-apply-still_nonzero, After-credit-listed}

-- what the calls left
applied : (c : After-apply-still_nonzero) → Applied c.args.p.d c.args.p.m c.args.ks.now c.args.c c.args.s c.args.counts.now c.args.idsums.now c.apply-still_nonzero.new.counts c.apply-still_nonzero.new.idsums c.apply-still_nonzero.result
applied c = rw (to_z-of_z c.ranges.c) at c.apply-still_nonzero.ensures

credited : (c : After-credit-listed) → Credited c.args.f c.args.c c.args.flows.now c.args.numbers.now c.args.entries c.credit-listed.new.flows c.credit-listed.new.numbers c.credit-listed.result
credited c = rw (to_z-of_z c.ranges.c) at c.credit-listed.ensures.0

relinked : (c : After-credit-listed) → Relinked c.args.f c.args.chain c.args.flows.now c.args.queue.now c.args.marks.now c.args.entries c.credit-listed.new.flows c.credit-listed.new.queue c.credit-listed.new.marks c.credit-listed.result
relinked c = c.credit-listed.ensures.1

pub apply-still_nonzero-requires-clause-within_arrays : goal.apply-still_nonzero-requires-clause-within_arrays
apply-still_nonzero-requires-clause-within_arrays c =
    let h = c.requires.holds in
    (reached h.dimensions h.sane.long h.sane.long_ids c.requires.positions, h.counted)

pub credit-listed-requires-clause-queue_len_bound : goal.credit-listed-requires-clause-queue_len_bound
credit-listed-requires-clause-queue_len_bound c =
    let h = c.requires.holds in (
      rw h.ringed.long (dimensions_small h.dimensions),
      omega (arith, c.requires.keyed, key_below c.args.f h.dimensions, h.ringed.long_marks),
      omega (arith, (h.chained.newest c.args.chain).within),
    )

pub requeue-queued-requires : goal.requeue-queued-requires
requeue-queued-requires c =
    let t = c.requires in
    let h = t.holds in
    let n = c.apply-still_nonzero.auto.counts ∙ h.sane.long in (
      reached h.dimensions n n t.positions,
      ring_kept h.ringed _ _ c.credit-listed.auto.queue c.credit-listed.auto.marks (relinked (goal.at.requeue-queued-requires c).After-credit-listed).below (relinked (goal.at.requeue-queued-requires c).After-credit-listed).below_marks,
    )

pub returns : goal.returns
returns c = took c.requires (applied (goal.at.returns c).After-apply-still_nonzero) c.credit-listed.auto.flows c.credit-listed.auto.numbers (credited (goal.at.returns c).After-credit-listed) c.credit-listed.auto.queue (relinked (goal.at.returns c).After-credit-listed) c.requeue-queued.ensures
