-- `peel::table::close` meets its contract: what is kept so far, with the close of the entries still to come, is the close of all. The
-- figures are those of what is kept, of which each adds at most 2147483648.
use mathlib.Core.Path.{◌≡◌, ap, ◌∙◌}
use native.Mathlib.Omega.{arith}
use lib.IntN.{ℤ, pos}
use lib.ListN.{get_or}
use mir.Facts.{to_z-of_z}
use mir.Syntax.{w32}
use mir.Val.{SFits}
use borrow.Author.Rules.{rules}
use Rattle.field.specs.Parts.{up, down}
use Rattle.field.proofs.Parts.{abs_parts, abs_of_sfits}
use Rattle.walk.specs.Walk.{lost_by, extra_by}
use Rattle.peel.specs.Table.{row}
use Rattle.peel.proofs.Slots.{Holds, holds_in_place, holds_written, table_kept}
use Rattle.peel.proofs.Clearing.{cleared_from}
use Rattle.peel.proofs.Closing.{closing_none, closing_past, closing_keep, closing_all}
use Rattle.peel.proofs.table.close.Goals as goal
use Rattle.peel.proofs.table.close.Goals.{else-c-ne0, else-entries-i, then-c-ne0, then-entries-i}

pub loop-i-init : goal.loop-i-init
loop-i-init c = (omega arith, omega arith, closing_none)

pub loop-i-preserved : goal.loop-i-preserved
loop-i-preserved c =
    let z : ℤ = get_or c.loop-i.numbers c.loop-i.i (pos 0) in
    let fits : SFits w32 z = search rules in
    let v = c.loop-i.invariant in
    elim c.if-c-ne0.branch [
      | then-c-ne0 w ↦
          -- where it is not 0 it stands in the first slot that is free, moved or not
          let k : Holds c.loop-i.entries (row c.loop-i.flows c.loop-i.numbers c.loop-i.i) c.loop-i.flows c.loop-i.numbers w.if-entries-i.flows w.if-entries-i.numbers =
          elim w.if-entries-i.branch [ then-entries-i u ↦ rw (u.flows-is, u.numbers-is, to_z-of_z fits) (holds_written (omega arith) (omega arith)) | else-entries-i u ↦ rw (u.flows-is, u.numbers-is) (holds_in_place (omega arith)) ] in
          let a : w.up-lost.result ≡ up z = rw (to_z-of_z fits) at w.up-lost.ensures in
          let b : w.down-extra.result ≡ down z = rw (to_z-of_z fits) at w.down-extra.ensures in
          rw (w.flows-is, w.numbers-is, w.entries-is, w.lost-is, w.extra-is, a, b) (
            grind arith,
            grind (arith, abs_parts, abs_of_sfits),
            closing_keep v.2 c.loop-i-test.true k v.0 (search rules),
          )
      | else-c-ne0 w ↦
          rw (w.flows-is, w.numbers-is, w.entries-is, w.lost-is, w.extra-is) (
            omega arith,
            v.1,
            closing_past v.2 c.loop-i-test.true (search rules),
          )
    ]

pub returns : goal.returns
returns c =
    let l = c.loop-i in
    let f = cleared_from l.entries l.flows c.fill.new.self (omega arith) (c.fill.ensures.after (search rules)) in
    let n = cleared_from l.entries l.numbers c.fill-2.new.self (omega arith) (c.fill-2.ensures.after (search rules)) in
    let t = closing_all l.invariant.2 (omega arith) in
    record {
      table = table_kept l.flows _ l.numbers _ l.entries f.kept n.kept ∙ t;
      within = omega arith;
      lost = l.invariant.2.lost_by_lem ∙ ap lost_by t;
      extra = l.invariant.2.extra_by_lem ∙ ap extra_by t;
      long = f.long ∙ l.auto.flows;
      long_numbers = n.long ∙ l.auto.numbers;
      past = f.zeros;
      past_numbers = n.zeros;
    }
