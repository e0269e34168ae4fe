-- `fold::judge_buckets` meets its contract: nothing at fault where every bucket of the folded sketch fits, else the first damaged bucket, and where there is none the first whole sum that leaves the limits.
use mathlib.Core.Path.{sym, ◌∙◌}
use Prim.Native.Nat.{◌≤◌}
use native.Mathlib.Omega.{arith}
use borrow.Author.Rules.{rules}
use Rattle.params.specs.Answers.{refuse_at}
use borrow.Author.Tests.{eq-eqb, le-ltb}
use Rattle.params.specs.Params.{size}
use Rattle.params.proofs.Searches.{none_found, found_none, found_same}
use Rattle.params.proofs.Judging.{refuse_none, refuse_some}
use Rattle.fold.specs.Fold.{fold_buckets_answer}
use Rattle.fold.proofs.Accepting.{fit_done, unfit_leaves}
use Rattle.fold.proofs.judge_buckets.Goals as goal

pub returns-then-damaged-counts : goal.returns-then-damaged-counts
unfolding fold_buckets_answer refuse_at
returns-then-damaged-counts c = search rules

pub returns-in_default : goal.returns-in_default
returns-in_default c = fit_done _ _ _ c.requires (found_none _ _ (sym c.first_unfit.ensures ∙ c.in_default.is))

pub returns : goal.returns
unfolding fold_buckets_answer
returns c =
    let h = c.requires in
    let far : size c.args.p ≤ c.first_damaged-damaged.result = omega (arith, h.counts_long) in
    let none = none_found _ _ (le-ltb _ _ (rw (c.first_damaged-damaged.ensures, eq-eqb _ _ (h.counts_long ∙ sym h.idsums_long), h.counts_long) at far)) in
    let same = sym c.in-Some.is ∙ c.first_unfit.ensures ∙ found_same _ _ _ (unfit_leaves c.args.p _ _ h none) in
    refuse_some _ _ _ _ same ∙ sym (refuse_none _ _ _ _ none)
