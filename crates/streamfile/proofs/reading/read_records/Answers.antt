-- `streamfile::reading::read_records` meets its contract. The invariant: n packets went in, and what they made stands in the sketch.
use mathlib.Core.Path.{◌≡◌, sym, ◌∙◌}
use mathlib.Core.Bool.{false}
use Prim.Native.Nat.{◌+◌, ◌≤◌}
use native.Mathlib.Omega.{arith}
use lib.ListN.{length}
use Rattle.params.specs.Answers.{kept}
use Rattle.sketch.specs.Sketch.{sketch}
use Rattle.files.specs.Records.{record_at, is_kind, packets_kind, packets_length}
use Rattle.files.specs.Turns.{packet_offset, end_answer}
use Rattle.streamfile.specs.Streams.{packets_judged}
use Rattle.streamfile.proofs.Found.{There, packets_there, packets_not_there}
use Rattle.streamfile.proofs.InTurn.{gone_none, gone_within, next_ends, gone_more, packet_refused, end_judged, gone_all}
use Rattle.streamfile.proofs.reading.read_records.Goals as goal
use Rattle.streamfile.proofs.reading.read_records.Goals.{In-Some, In_default}

pub loop-flow-init : goal.loop-flow-init
loop-flow-init c = (omega (arith, c.head_length_in-at.ensures), gone_none _ _ _ _)

-- packets stand next
there : (c : In-Some) → let bs = c.args.bytes.now in There bs (packet_offset bs c.loop-flow.n) c.in-Some.flow c.in-Some.number
there c = rw c.loop-flow.invariant.0 at (packets_there _ _ _ _ (sym c.packets_at.ensures ∙ c.in-Some.is))

ends : (c : In-Some) → c.loop-flow.at + packets_length ≤ length c.args.bytes.now
ends c = rw c.loop-flow.invariant.0 (next_ends _ _ _ _ _ _ c.loop-flow.invariant.1 _ _ (there c))

-- none do
none : (c : In_default) → let bs = c.args.bytes.now in is_kind packets_kind (record_at bs (packet_offset bs c.loop-flow.n)) ≡ false
none c = rw c.loop-flow.invariant.0 at (packets_not_there _ _ _ c.packets_at.ensures c.in_default.is)

pub withdraw_packets-requires : goal.withdraw_packets-requires
withdraw_packets-requires c = gone_within _ _ _ _ _ _ c.loop-flow.invariant.1

pub returns-in-Err : goal.returns-in-Err
unfolding kept
returns-in-Err c =
    let g = c.loop-flow.invariant.1 in
    let refused = rw c.in-Err.is at c.step.ensures in
    record {
      answer = rw c.loop-flow.invariant.0 (packet_refused _ _ _ _ _ g _ _ (there (goal.at.returns-in-Err c).In-Some) _ refused.answer);
      after_all = c.withdraw_packets.ensures.back _ g.accepted (refused.after ∙ g.made);
    }

pub overflow_add-at : goal.overflow_add-at
overflow_add-at c = omega (arith, ends (goal.at.overflow_add-at c).In-Some)

pub overflow_add-n : goal.overflow_add-n
overflow_add-n c = omega (arith, c.loop-flow.invariant.0, ends (goal.at.overflow_add-n c).In-Some)

pub loop-flow-smaller : goal.loop-flow-smaller
loop-flow-smaller c = omega (arith, ends (goal.at.loop-flow-smaller c).In-Some)

pub loop-flow-preserved : goal.loop-flow-preserved
unfolding kept
loop-flow-preserved c =
    let l = c.loop-flow in
    let done = rw c.in_default-step.is at c.step.ensures in
    (omega (arith, l.invariant.0), gone_more _ _ _ _ _ _ l.invariant.1 _ _ (there (goal.at.loop-flow-preserved c).In-Some) _ (sym done.answer) done.after)

pub withdraw_packets-requires-in-Err-judge_end : goal.withdraw_packets-requires-in-Err-judge_end
withdraw_packets-requires-in-Err-judge_end c = gone_within _ _ _ _ _ _ c.loop-flow.invariant.1

-- the end decides
ended : (c : In_default) → let bs = c.args.bytes.now in end_answer bs c.loop-flow.at c.loop-flow.n ≡ packets_judged c.args.p bs (sketch c.args.counts.now c.args.idsums.now)
ended c = rw c.loop-flow.invariant.0 (end_judged _ _ _ _ _ c.loop-flow.invariant.1 (none c))

pub returns-in-Err-judge_end : goal.returns-in-Err-judge_end
unfolding kept
returns-in-Err-judge_end c =
    let g = c.loop-flow.invariant.1 in
    record {
      answer = sym c.in-Err-judge_end.is ∙ c.judge_end.ensures ∙ ended (goal.at.returns-in-Err-judge_end c).In_default;
      after_all = c.withdraw_packets-in-Err-judge_end.ensures.back _ g.accepted g.made;
    }

pub returns : goal.returns
unfolding kept
returns c = record {
  answer = sym c.in_default-judge_end.is ∙ c.judge_end.ensures ∙ ended (goal.at.returns c).In_default;
  after_all = gone_all _ _ _ _ _ _ c.loop-flow.invariant.1 (none (goal.at.returns c).In_default);
}
