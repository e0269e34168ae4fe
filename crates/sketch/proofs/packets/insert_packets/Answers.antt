-- `sketch::packets::insert_packets` meets its contract. The invariant: the first i packets were accepted, and what is left to do from here answers as the whole.
use mathlib.Core.Bool.{false}
use mathlib.Core.Path.{refl, sym, ap, ◌∙◌}
use native.Mathlib.Omega.{arith}
use borrow.Author.Count.{below_more}
use Rattle.params.specs.Answers.{kept}
use Rattle.sketch.specs.Packets.{step_answer, after}
use Rattle.sketch.proofs.ManyPackets.{after_more, after_end_lem, packet_refused, packet_passed, packets_end}
use Rattle.sketch.proofs.packets.insert_packets.Goals as goal

pub loop-i-init : goal.loop-i-init
unfolding after
loop-i-init c = ((λ j h. absurd (omega arith)), refl, refl)

pub returns-in-Err : goal.returns-in-Err
unfolding kept
returns-in-Err c =
    let l = c.loop-i in
    record {
      answer = packet_refused _ _ _ _ l.i _ (omega arith) (omega arith) l.invariant.2 _ (sym c.in-Err.is ∙ c.step.ensures.answer) refl;
      after_all = c.withdraw_first.ensures.back _ l.invariant.0 (rw c.in-Err.is at c.step.ensures.after ∙ l.invariant.1);
    }

pub loop-i-preserved : goal.loop-i-preserved
unfolding kept
loop-i-preserved c =
    let l = c.loop-i in
    let passed = sym c.step.ensures.answer ∙ c.in_default.is in
    let next = rw c.in_default.is at c.step.ensures.after in (
      below_more _ _ l.invariant.0 (ap (step_answer c.args.p false _ _) (sym l.invariant.1) ∙ passed),
      after_more _ _ _ _ l.i _ _ (omega arith) (omega arith) l.invariant.1 next,
      packet_passed _ _ _ _ l.i _ (omega arith) (omega arith) l.invariant.2 _ passed next,
    )

pub returns : goal.returns
unfolding kept
returns c =
    let l = c.loop-i in
    record {
      answer = sym (packets_end _ _ _ l.i _ (omega arith)) ∙ l.invariant.2;
      after_all = l.invariant.1 ∙ after_end_lem _ _ _ l.i _ (omega arith) (omega arith);
    }
