-- `desk::feeding::take_records` meets its contract: stage after stage, each comes to its state within the bytes at hand.
use borrow.Author.Rules.{rules}
use mathlib.Core.Path.{◌≡◌, refl, sym}
use mathlib.Core.Bool.{true}
use Rattle.desk.specs.Desk.{offsets_fit}
use Rattle.desk.proofs.Onward.{Onward, part_fits, packets_first, then_end, then_head, then_packets, then_nothing, then_sketch}
use Rattle.desk.proofs.feeding.take_records.Goals as goal
use Rattle.desk.proofs.feeding.take_records.Goals.{After-end_stage-downstream_ended, After-end_stage-upstream_ended, After-head_stage-headed, After-packets_stage-downstream_taken, After-packets_stage-upstream_taken, Else-not-offsets_fit}

pub returns-then-not-offsets_fit : goal.returns-then-not-offsets_fit
unfolding offsets_fit
returns-then-not-offsets_fit c = search rules

-- else 64 bits hold all that the bytes lead to
near : (c : Else-not-offsets_fit) → offsets_fit c.args.bytes.now c.args.s ≡ true
unfolding offsets_fit
near c = sym c.if-not-offsets_fit.ensures

pub packets_stage-upstream_taken-requires : goal.packets_stage-upstream_taken-requires
packets_stage-upstream_taken-requires c = near (goal.at.packets_stage-upstream_taken-requires c).Else-not-offsets_fit

-- stage after stage: each comes onward
to_i : (c : After-packets_stage-upstream_taken) → Onward c.args.bytes.now c.args.s c.packets_stage-upstream_taken.result
to_i c = (packets_first _ _ _ _ _ c.packets_stage-upstream_taken.ensures.value).onward

pub overflow_sub-i : goal.overflow_sub-i
overflow_sub-i c = (to_i (goal.at.overflow_sub-i c).After-packets_stage-upstream_taken).low

pub slice_bounds-end_stage-count : goal.slice_bounds-end_stage-count
slice_bounds-end_stage-count c = (to_i (goal.at.slice_bounds-end_stage-count c).After-packets_stage-upstream_taken).within

pub slice_bounds-end_stage-start : goal.slice_bounds-end_stage-start
slice_bounds-end_stage-start c = (to_i (goal.at.slice_bounds-end_stage-start c).After-packets_stage-upstream_taken).within

pub end_stage-upstream_ended-requires : goal.end_stage-upstream_ended-requires
end_stage-upstream_ended-requires c = part_fits (to_i (goal.at.end_stage-upstream_ended-requires c).After-packets_stage-upstream_taken) (near (goal.at.end_stage-upstream_ended-requires c).Else-not-offsets_fit)

to_j : (c : After-end_stage-upstream_ended) → Onward c.args.bytes.now c.args.s c.end_stage-upstream_ended.result
to_j c =
    let a = packets_first _ _ _ _ _ c.packets_stage-upstream_taken.ensures.value in
    (then_end a _ c.end_stage-upstream_ended.ensures).onward

pub overflow_sub-j : goal.overflow_sub-j
overflow_sub-j c = (to_j (goal.at.overflow_sub-j c).After-end_stage-upstream_ended).low

pub slice_bounds-head_stage-count : goal.slice_bounds-head_stage-count
slice_bounds-head_stage-count c = (to_j (goal.at.slice_bounds-head_stage-count c).After-end_stage-upstream_ended).within

pub slice_bounds-head_stage-start : goal.slice_bounds-head_stage-start
slice_bounds-head_stage-start c = (to_j (goal.at.slice_bounds-head_stage-start c).After-end_stage-upstream_ended).within

pub head_stage-headed-requires : goal.head_stage-headed-requires
head_stage-headed-requires c = part_fits (to_j (goal.at.head_stage-headed-requires c).After-end_stage-upstream_ended) (near (goal.at.head_stage-headed-requires c).Else-not-offsets_fit)

to_k : (c : After-head_stage-headed) → Onward c.args.bytes.now c.args.s c.head_stage-headed.result
to_k c =
    let a = packets_first _ _ _ _ _ c.packets_stage-upstream_taken.ensures.value in
    let b = then_end a _ c.end_stage-upstream_ended.ensures in
    (then_head b _ _ c.head_stage-headed.ensures).onward

pub overflow_sub-k : goal.overflow_sub-k
overflow_sub-k c = (to_k (goal.at.overflow_sub-k c).After-head_stage-headed).low

pub slice_bounds-packets_stage-count : goal.slice_bounds-packets_stage-count
slice_bounds-packets_stage-count c = (to_k (goal.at.slice_bounds-packets_stage-count c).After-head_stage-headed).within

pub slice_bounds-packets_stage-start : goal.slice_bounds-packets_stage-start
slice_bounds-packets_stage-start c = (to_k (goal.at.slice_bounds-packets_stage-start c).After-head_stage-headed).within

pub packets_stage-downstream_taken-requires : goal.packets_stage-downstream_taken-requires
packets_stage-downstream_taken-requires c = part_fits (to_k (goal.at.packets_stage-downstream_taken-requires c).After-head_stage-headed) (near (goal.at.packets_stage-downstream_taken-requires c).Else-not-offsets_fit)

to_l : (c : After-packets_stage-downstream_taken) → Onward c.args.bytes.now c.args.s c.packets_stage-downstream_taken.result
to_l c =
    let a = packets_first _ _ _ _ _ c.packets_stage-upstream_taken.ensures.value in
    let b = then_end a _ c.end_stage-upstream_ended.ensures in
    let h = then_head b _ _ c.head_stage-headed.ensures in
    (then_packets h _ _ _ c.packets_stage-downstream_taken.ensures.value).onward

pub overflow_sub-l : goal.overflow_sub-l
overflow_sub-l c = (to_l (goal.at.overflow_sub-l c).After-packets_stage-downstream_taken).low

pub slice_bounds-end_stage-count-2 : goal.slice_bounds-end_stage-count-2
slice_bounds-end_stage-count-2 c = (to_l (goal.at.slice_bounds-end_stage-count-2 c).After-packets_stage-downstream_taken).within

pub slice_bounds-end_stage-start-2 : goal.slice_bounds-end_stage-start-2
slice_bounds-end_stage-start-2 c = (to_l (goal.at.slice_bounds-end_stage-start-2 c).After-packets_stage-downstream_taken).within

pub end_stage-downstream_ended-requires : goal.end_stage-downstream_ended-requires
end_stage-downstream_ended-requires c = part_fits (to_l (goal.at.end_stage-downstream_ended-requires c).After-packets_stage-downstream_taken) (near (goal.at.end_stage-downstream_ended-requires c).Else-not-offsets_fit)

to_m : (c : After-end_stage-downstream_ended) → Onward c.args.bytes.now c.args.s c.end_stage-downstream_ended.result
to_m c =
    let a = packets_first _ _ _ _ _ c.packets_stage-upstream_taken.ensures.value in
    let b = then_end a _ c.end_stage-upstream_ended.ensures in
    let h = then_head b _ _ c.head_stage-headed.ensures in
    let d = then_packets h _ _ _ c.packets_stage-downstream_taken.ensures.value in
    (then_end d _ c.end_stage-downstream_ended.ensures).onward

pub overflow_sub-m : goal.overflow_sub-m
overflow_sub-m c = (to_m (goal.at.overflow_sub-m c).After-end_stage-downstream_ended).low

pub slice_bounds-nothing_stage-count : goal.slice_bounds-nothing_stage-count
slice_bounds-nothing_stage-count c = (to_m (goal.at.slice_bounds-nothing_stage-count c).After-end_stage-downstream_ended).within

pub slice_bounds-nothing_stage-start : goal.slice_bounds-nothing_stage-start
slice_bounds-nothing_stage-start c = (to_m (goal.at.slice_bounds-nothing_stage-start c).After-end_stage-downstream_ended).within

pub overflow_sub-result : goal.overflow_sub-result
overflow_sub-result c =
    let a = packets_first _ _ _ _ _ c.packets_stage-upstream_taken.ensures.value in
    let b = then_end a _ c.end_stage-upstream_ended.ensures in
    let h = then_head b _ _ c.head_stage-headed.ensures in
    let d = then_packets h _ _ _ c.packets_stage-downstream_taken.ensures.value in
    let e = then_end d _ c.end_stage-downstream_ended.ensures in
    (then_nothing e _ c.nothing_stage-fed.ensures).onward.low

pub returns : goal.returns
returns c =
    let reach = near (goal.at.returns c).Else-not-offsets_fit in
    let a = packets_first _ _ _ _ _ c.packets_stage-upstream_taken.ensures.value in
    let b = then_end a _ c.end_stage-upstream_ended.ensures in
    let h = then_head b _ _ c.head_stage-headed.ensures in
    let d = then_packets h _ _ _ c.packets_stage-downstream_taken.ensures.value in
    let e = then_end d _ c.end_stage-downstream_ended.ensures in
    record {
      state = rw reach (then_nothing e _ c.nothing_stage-fed.ensures).same;
      used = refl;
      upstream = rw reach c.packets_stage-upstream_taken.ensures.sketch_after;
      downstream = rw reach (then_sketch h _ _ _ c.packets_stage-downstream_taken.ensures.sketch_after);
    }
