-- `streamfile::writing::write_stream` meets its contract: where nothing is refused, a head, the records and an end are written one after the other.
use mathlib.Core.Path.{refl, sym, ◌∙◌}
use native.Mathlib.Omega.{arith}
use borrow.Author.Rules.{rules}
use lib.ListN.{length}
use Rattle.params.specs.Answers.{kept}
use Rattle.params.proofs.Judging.{handed_on, given_done}
use Rattle.files.proofs.Overwriting.{overwritten_file}
use Rattle.streamfile.specs.Writing.{packets_bytes, stream_bytes}
use Rattle.streamfile.proofs.Written.{packets_long, stream_long, writing_passed}
use Rattle.streamfile.proofs.writing.write_stream.Goals as goal

pub returns-in_err-judge : goal.returns-in_err-judge
unfolding kept
returns-in_err-judge c = search (rules, handed_on c.from_residual.ensures.1)

pub put_all-requires : goal.put_all-requires
put_all-requires c = let h = writing_passed _ _ _ _ (sym c.in_ok-judge.ensures) in record { flows_len = h.same; flows_in_bounds = omega arith }

pub overflow_mul-at : goal.overflow_mul-at
overflow_mul-at c = omega (arith, writing_passed _ _ _ _ (sym c.in_ok-judge.ensures))

pub overflow_add-at : goal.overflow_add-at
overflow_add-at c = omega (arith, writing_passed _ _ _ _ (sym c.in_ok-judge.ensures))

pub overflow_cast-n : goal.overflow_cast-n
overflow_cast-n c = omega (arith, writing_passed _ _ _ _ (sym c.in_ok-judge.ensures))

pub overflow_add-result : goal.overflow_add-result
overflow_add-result c = omega (arith, writing_passed _ _ _ _ (sym c.in_ok-judge.ensures))

pub returns : goal.returns
unfolding stream_bytes kept
returns c =
    let a = c.args in
    let done = c.in_ok-judge.ensures in
    let h = writing_passed _ _ _ _ (sym done) in
    let first = c.head_length-first.ensures in
    let long = packets_long a.flows.now a.numbers.now h.same in
    record {
      answer = given_done done refl (omega (arith, stream_long a.p a.flows.now a.numbers.now h.same));
      bytes =
          overwritten_file a.p a.out.now (packets_bytes a.flows.now a.numbers.now) (length a.flows.now) _ _ h.good first (omega arith) (omega arith)
          c.put_head.ensures
          c.put_all.ensures
          c.put_end.ensures ∙ rw (← done);
    }
