-- `files::records::body` meets its contract.
use mathlib.Core.Path.{sym}
use native.Mathlib.Omega.{arith}
use Rattle.std.proofs.lemmas.Grind.{common_steps}
use Rattle.std.proofs.Common.{rules}
use Rattle.files.specs.Records.{body_of, body_start}
use Rattle.files.proofs.Standing.{stands_whole, not_whole}
use Rattle.files.proofs.records.body.Goals as goal

pub returns-in_default : goal.returns-in_default
returns-in_default c =
    let n = not_whole c.record_at.result c.args.at c.args.bytes.now c.in_default.not-Whole in
    search (rules, c.record_at.ensures, n)

pub overflow_add-start : goal.overflow_add-start
overflow_add-start c = grind (arith, common_steps, stands_whole)

pub slice_bounds-result-count : goal.slice_bounds-result-count
slice_bounds-result-count c = omega (arith, stands_whole _ _ _ _ (sym c.in-Whole.ensures))

pub slice_bounds-result-start : goal.slice_bounds-result-start
slice_bounds-result-start c = omega (arith, stands_whole _ _ _ _ (sym c.in-Whole.ensures))

pub slice_bounds-result-end-2 : goal.slice_bounds-result-end-2
slice_bounds-result-end-2 c = (stands_whole _ _ _ _ (sym c.in-Whole.ensures)).within

pub returns : goal.returns
unfolding body_of body_start
returns c = search (rules, c.in-Whole.ensures)
