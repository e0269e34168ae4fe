-- `streamfile::reading::withdraw_packets` meets its contract. The invariant: the sketch is what the first i packets made of the one they went into.
use mathlib.Core.Path.{◌≡◌, sym, ◌∙◌}
use mathlib.Core.Bool.{true≢false}
use Prim.Native.Nat.{◌-◌, ◌≤◌, ◌<◌}
use native.Mathlib.Omega.{arith}
use Rattle.sketch.specs.Packets.{after}
use Rattle.sketch.proofs.ManyPackets.{unwind}
use Rattle.files.specs.Turns.{packet_offset}
use Rattle.files.specs.Records.{packets_kind, head_length_in}
use Rattle.files.proofs.Turning.{whole_within}
use Rattle.streamfile.specs.Streams.{packets_in}
use Rattle.streamfile.proofs.Found.{packets_there, packets_not_there, packet_within, length_flows, length_numbers, flow_is, number_is}
use Rattle.streamfile.proofs.reading.withdraw_packets.Goals as goal
use Rattle.streamfile.proofs.reading.withdraw_packets.Goals.{In-loop-i}

-- the packet before the i-th is one of the stream's
earlier : (c : In-loop-i) → c.loop-i.i - 1 < packets_in c.args.bytes.now
earlier c = omega arith

pub overflow_mul-i : goal.overflow_mul-i
overflow_mul-i c = omega (arith, packet_within _ _ _ (earlier (goal.at.overflow_mul-i c).In-loop-i))

pub overflow_add-first : goal.overflow_add-first
overflow_add-first c = omega (arith, packet_within _ _ _ (earlier (goal.at.overflow_add-first c).In-loop-i), c.head_length_in-first.ensures)

-- so packets are found there
pub returns-in_default : goal.returns-in_default
returns-in_default c =
    let none = rw c.head_length_in-first.ensures at (packets_not_there _ _ _ c.packets_at.ensures c.in_default.is) in
    absurd (true≢false (sym (whole_within packets_kind (packet_offset c.args.bytes.now) _ _ (earlier (goal.at.returns-in_default c).In-loop-i)) ∙ none))

pub loop-i-preserved : goal.loop-i-preserved
loop-i-preserved c =
    let bs = c.args.bytes.now in
    let o = head_length_in bs in
    let one = earlier (goal.at.loop-i-preserved c).In-loop-i in
    let there = rw c.head_length_in-first.ensures at (packets_there _ _ _ _ (sym c.packets_at.ensures ∙ c.in-Some.is)) in
    let step = rw (there.flow ∙ flow_is o bs _ one, there.number ∙ number_is o bs _ one) at c.step.ensures in
    let within : c.loop-i.i ≤ packets_in bs = omega (arith, one) in
    λ S a e. unwind _ _ _ S c.loop-i.i _ _ _ c.loop-i-test.true (rw (length_flows o bs) within) (rw (length_numbers o bs) within) (λ j m. a j (omega arith)) (c.loop-i.invariant S a e) step

pub returns : goal.returns
unfolding after
returns c =
    let none : c.loop-i.i ≡ 0 = omega arith in
    record { back = λ S a e. rw none at (c.loop-i.invariant S a e) }
