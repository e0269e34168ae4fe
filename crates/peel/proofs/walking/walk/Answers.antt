-- `peel::walking::walk` meets its contract: every way through a turn of the loop is one of the definition's.
use mathlib.Core.Path.{◌≡◌, ap, subst⁻¹, ◌∙◌}
use mathlib.Core.Bool.{true}
use Prim.Native.Nat.{ℕ, ◌*◌, ◌≤◌, ◌<◌}
use native.Mathlib.Omega.{arith}
use lib.IntN.{pos, ◌+ℤ◌}
use lib.ListN.{get_or, length}
use mir.Syntax.{w32}
use Rattle.std.proofs.lemmas.Int.{ints, to_z-of_z}
use borrow.Author.Rules.{rules}
use Rattle.buckets.specs.Buckets.{in_limits}
use Rattle.params.specs.Positions.{Positioned}
use Rattle.params.proofs.Rules.{positions_found, positions_long}
use Rattle.sketch.specs.Sketch.{sketch}
use Rattle.sketch.proofs.Steps.{reached}
use Rattle.sketch.proofs.Standing.{Within, reach}
use Rattle.walk.specs.Walk.{run}
use Rattle.walk.specs.Purity.{rule_of}
use Rattle.walk.proofs.Purity.{guarded_is_pure}
use Rattle.peel.specs.Slices.{slices}
use Rattle.peel.specs.Ring.{ring_place}
use Rattle.peel.specs.Rep.{state_of, fits_at}
use Rattle.peel.proofs.Chains.{key_below}
use Rattle.peel.proofs.Turns.{Pops, Pure, same_lengths}
use Rattle.peel.proofs.Turns as turn
use Rattle.peel.proofs.walking.walk.Goals as goal
use Rattle.peel.proofs.walking.walk.Goals.{After-loop-i, After-pop-k, After-ring_place-head, At-loop-i, In-loop-i, Joined-at-entries, then-at-entries+else-not-fits-2, else-at-entries+else-at-slots}

-- the pop, and where the queue begins then
pops : (c : After-pop-k) → let a = c.args in let w = c.walk in
    Pops a.p (length a.flows.now) a.allowance (run (rule_of a.p) (length a.flows.now) a.allowance 0 (state_of (slices a.counts.now a.idsums.now a.flows.now a.numbers.now a.queue.now a.marks.now) 0 a.first_waiting 0))
    (slices w.counts w.idsums w.flows w.numbers w.queue w.marks) w.head w.waiting w.nonzero w.entries w.pops c.pop-k.result c.pop-k.new.marks
pops c =
    record {
      invariant = c.walk.invariant.0;
      unclean = c.if-nonzero-eq0.false;
      popped = rw c.walk.invariant.0.holds.ringed.long at c.pop-k.ensures;
      more = c.if-pops-allowance.false;
    }

place : (c : After-ring_place-head) → c.ring_place-head.result ≡ ring_place (c.args.p.d * c.args.p.m) c.walk.head 1
place c = rw c.requires.ringed.long at c.ring_place-head.ensures

-- the flow that the test found, and its positions
pure : (c : At-loop-i) → Pure c.args.p (sketch c.walk.counts c.walk.idsums) c.pop-k.result c.in-Some.f c.positions.new.ks
pure c =
    record {
      test = grind (arith, ints, to_z-of_z, guarded_is_pure);
      positions = subst⁻¹ (Positioned c.args.p c.in-Some.f) c.positions.ensures (positions_found c.args.p c.in-Some.f _ c.requires.dimensions c.walk.invariant.2);
    }

-- f's bucket in the array that i others stand before
bucket : (c : In-loop-i) → Pure c.args.p (sketch c.walk.counts c.walk.idsums) c.pop-k.result c.in-Some.f c.positions.new.ks → Within c.args.p.d c.args.p.m c.loop-i.i (get_or c.positions.new.ks c.loop-i.i 0)
bucket c p = let h = c.walk.invariant.0.holds in reach c.loop-i.i (reached h.dimensions h.sane.long h.sane.long_ids p.positions) c.loop-i-test.true

-- every bucket of f stays within the limits, once all are tested
all_fit : (c : After-loop-i) → (i : ℕ) → i < c.args.p.d → fits_at c.args.p.m c.positions.new.ks c.walk.counts (get_or c.walk.counts c.pop-k.result (pos 0)) i ≡ true
all_fit c = grind (arith, ints, to_z-of_z)

-- the entry of f, where it has one, stays within the limits, and else there is a slot
entry : (c : Joined-at-entries) → c.find-at.result < c.walk.entries → in_limits (get_or c.walk.numbers c.find-at.result (pos 0) +ℤ get_or c.walk.counts c.pop-k.result (pos 0)) ≡ true
entry c h = grind (arith, ints, to_z-of_z)

free : (c : Joined-at-entries) → c.walk.entries ≤ c.find-at.result → (c.find-at.result ≡ length c.args.flows.now → ⊥)
free c h e = grind (arith, ints, to_z-of_z)

pub walk-preserved : goal.walk-preserved
walk-preserved c =
    let g = goal.at.walk-preserved c in
    let p = pops g.After-pop-k in (
      rw (place g.After-ring_place-head) (turn.impure p (grind (arith, ints, to_z-of_z, guarded_is_pure))),
      same_lengths c.requires (turn.popped_holds p) p.invariant.long,
      c.walk.invariant.2,
    )

pub overflow_add-j : goal.overflow_add-j
overflow_add-j c = let g = goal.at.overflow_add-j c in let w = bucket g.In-loop-i (pure g.At-loop-i) in omega arith

pub offset_bounds-counts-j : goal.offset_bounds-counts-j
offset_bounds-counts-j c = let g = goal.at.offset_bounds-counts-j c in let w = bucket g.In-loop-i (pure g.At-loop-i) in omega arith

pub slice_copy_out-fits : goal.slice_copy_out-fits
slice_copy_out-fits c = let g = goal.at.slice_copy_out-fits c in let w = bucket g.In-loop-i (pure g.At-loop-i) in omega (arith, c.walk.invariant.0.holds.sane.long)

pub loop-i-preserved : goal.loop-i-preserved
loop-i-preserved c = grind (arith, ints, to_z-of_z)

pub find-at-requires : goal.find-at-requires
find-at-requires c =
    let g = goal.at.find-at-requires c in
    let p = pops g.After-pop-k in
    let h = p.invariant.holds in
    rw (h.ringed.long, c.chain_of-chain.ensures) (turn.chained p (pure g.At-loop-i), h.room, omega (arith, key_below c.in-Some.f c.requires.dimensions, p.popped.ringed.long_marks))

pub take_flow-requires : goal.take_flow-requires
take_flow-requires c =
    let g = goal.at.take_flow-requires c in
    rw (place g.After-ring_place-head, to_z-of_z w32 (get_or c.walk.counts c.pop-k.result (pos 0)) (search rules))
    (turn.may_take (pops g.After-pop-k) (pure g.At-loop-i) (all_fit g.After-loop-i) c.find-at.ensures (entry g.Joined-at-entries) (free g.Joined-at-entries) c.chain_of-chain.ensures)

pub walk-preserved-in-Some : goal.walk-preserved-in-Some
walk-preserved-in-Some c =
    let g = goal.at.walk-preserved-in-Some c in
    let p = pops g.After-pop-k in
    let n = c.take_flow.auto.flows in
    let l = c.take_flow.new in
    let place = place g.After-ring_place-head in
    let t = rw (place, to_z-of_z w32 (get_or c.walk.counts c.pop-k.result (pos 0)) (search rules)) at c.take_flow.ensures in (
      rw place (turn.took p (pure g.At-loop-i) (all_fit g.After-loop-i) c.find-at.ensures (entry g.Joined-at-entries) (free g.Joined-at-entries) {L' = slices l.counts l.idsums l.flows l.numbers l.queue l.marks} n t),
      same_lengths {L' = slices l.counts l.idsums l.flows l.numbers l.queue l.marks} c.requires t.holds (n ∙ p.invariant.long),
      ap length c.positions.ensures ∙ positions_long _ _ _ ∙ c.walk.invariant.2,
    )

pub returns-then-nonzero-eq0 : goal.returns-then-nonzero-eq0
returns-then-nonzero-eq0 c = turn.clean c.walk.invariant.0 c.if-nonzero-eq0.true

pub returns-then-waiting-eq0 : goal.returns-then-waiting-eq0
returns-then-waiting-eq0 c = turn.stuck c.walk.invariant.0 c.if-nonzero-eq0.false c.if-waiting-eq0.true

pub returns-then-pops-allowance : goal.returns-then-pops-allowance
returns-then-pops-allowance c = turn.spent c.walk.invariant.0 c.if-nonzero-eq0.false (omega arith) c.if-pops-allowance.true

pub returns-then-not-fits : goal.returns-then-not-fits
returns-then-not-fits c =
    let g = goal.at.returns-then-not-fits c in
    turn.range_count (pops g.After-pop-k) (pure g.At-loop-i) c.loop-i.i c.loop-i-test.true (grind (arith, ints, to_z-of_z))

pub returns-then-not-fits-2 : goal.returns-then-not-fits-2
returns-then-not-fits-2 c =
    let g = goal.at.returns-then-not-fits-2 c in
    turn.range_entry (pops g.After-pop-k) (pure g.At-loop-i) (all_fit g.After-loop-i) c.find-at.ensures c.if-at-entries.true (grind (arith, ints, to_z-of_z))

pub returns-then-at-slots : goal.returns-then-at-slots
returns-then-at-slots c =
    let g = goal.at.returns-then-at-slots c in
    turn.full (pops g.After-pop-k) (pure g.At-loop-i) (all_fit g.After-loop-i) c.find-at.ensures c.if-at-entries.false c.if-at-slots.true
