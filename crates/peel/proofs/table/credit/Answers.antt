-- `peel::table::credit` meets its contract: what the limits hold fits an entry's width.
use native.Mathlib.Omega.{arith}
use lib.IntN.{pos, ◌+ℤ◌}
use lib.ListN.{get_or}
use Rattle.std.proofs.lemmas.Int.{ints, to_z-of_z}
use mir.Syntax.{w32}
use mir.Val.{SFits}
use borrow.Author.Rules.{rules}
use Rattle.buckets.proofs.Limits.{limits_fit}
use Rattle.peel.proofs.Entries.{table_held, credit_old, credit_new}
use Rattle.peel.proofs.Chains.{relinked_old, relinked_past, relinked_new}
use Rattle.peel.proofs.table.credit.Goals as goal
use Rattle.peel.proofs.table.credit.Goals.{Then-at-n, else-at-queue, then-at-queue}

-- the entry that f has, with c more, fits
sum_fits : (c : Then-at-n) → SFits w32 (get_or c.args.numbers.now c.args.at (pos 0) +ℤ c.args.c)
sum_fits c = limits_fit _ (rw (table_held c.args.flows.now c.args.numbers.now c.args.n c.args.f c.args.at c.requires.finds.0 c.if-at-n.true) at c.requires.finds.4)

pub overflow_add-numbers : goal.overflow_add-numbers
overflow_add-numbers c = let fits = sum_fits (goal.at.overflow_add-numbers c).Then-at-n in search rules

pub returns-then-at-n : goal.returns-then-at-n
returns-then-at-n c = let fits = sum_fits (goal.at.returns-then-at-n c).Then-at-n in (grind (arith, ints, to_z-of_z, credit_old), relinked_old)

pub returns : goal.returns
returns c = (
  grind (arith, ints, to_z-of_z, credit_new),
  elim c.if-at-queue.branch [ then-at-queue w ↦ rw (w.queue-is, w.marks-is) (relinked_new c.requires.finds.0 c.if-at-n.false c.requires.finds.2 w.if-at-queue.true c.requires.queue_len_bound.1 w.link.ensures) | else-at-queue w ↦ rw (w.queue-is, w.marks-is) (relinked_past c.requires.finds.0 c.if-at-n.false c.requires.finds.2 w.if-at-queue.false) ],
)
