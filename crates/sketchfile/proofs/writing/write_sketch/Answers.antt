-- `sketchfile::writing::write_sketch` meets its contract: where nothing is refused, a head, the records and an end are written one after the other.
use mathlib.Core.Path.{◌≡◌, refl, sym, ◌∙◌}
use Prim.Native.Nat.{◌+◌, ◌*◌, ◌-◌, ◌/◌}
use native.Mathlib.Omega.{arith}
use borrow.Author.Rules.{rules}
use lib.ListN.{length}
use Rattle.params.specs.Answers.{kept}
use Rattle.params.specs.Params.{size}
use Rattle.params.proofs.Judging.{handed_on, given_done}
use Rattle.sketch.specs.Sketch.{sketch}
use Rattle.files.specs.Records.{bucket_length}
use Rattle.files.proofs.Overwriting.{overwritten_file}
use Rattle.sketchfile.specs.Writing.{buckets_bytes, nonzero_from, sketch_bytes}
use Rattle.sketchfile.proofs.Written.{left_few, buckets_long, sketch_long, writable_few, writing_done}
use Rattle.sketchfile.proofs.writing.write_sketch.Goals as goal

pub returns-in_err-judge : goal.returns-in_err-judge
unfolding kept
returns-in_err-judge c = search (rules, handed_on c.from_residual.ensures.1)

pub put_all-at-requires : goal.put_all-at-requires
put_all-at-requires c = let h = writing_done _ _ _ (sym c.in_ok-judge.ensures) in record { counts_len = (h.0.counts ∙ sym h.0.idsums, writable_few h.0); idsums_in_bounds = omega (arith, h.1) }

pub overflow_cast-n : goal.overflow_cast-n
overflow_cast-n c =
    let a = c.args in
    omega (arith, writable_few (writing_done _ _ _ (sym c.in_ok-judge.ensures)).0, left_few (sketch a.counts.now a.idsums.now) 0 (length a.counts.now))

pub overflow_add-result : goal.overflow_add-result
overflow_add-result c = omega (arith, (writing_done _ _ _ (sym c.in_ok-judge.ensures)).1, c.head_length-first.ensures)

pub returns : goal.returns
unfolding sketch_bytes kept
returns c =
    let first = c.head_length-first in
    let a = c.args in
    let S = sketch a.counts.now a.idsums.now in
    let done = c.in_ok-judge.ensures in
    let h = writing_done _ _ _ (sym done) in
    let records = c.put_all-at in
    let end : records.result ≡ first.result + bucket_length * nonzero_from 0 (size a.p) S = rw h.0.counts at records.ensures.value in
    let count : (records.result - first.result) / bucket_length ≡ nonzero_from 0 (size a.p) S = omega arith in
    record {
      answer = given_done done refl (omega (arith, sketch_long a.p S, first.ensures));
      bytes =
          overwritten_file a.p a.out.now (buckets_bytes 0 (size a.p) S) (nonzero_from 0 (size a.p) S) first.result records.result h.0.good first.ensures (omega (arith, buckets_long S 0 (size a.p))) (omega (arith, h.0.counts, h.1, first.ensures))
          c.put_head.ensures
          (rw h.0.counts at records.ensures.out_after)
          (rw count at c.put_end.ensures) ∙ rw (← done);
    }
