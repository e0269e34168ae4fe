-- `fold::first_unfit` meets its contract. The loops' invariants: no bucket passed is unfit.
use Prim.Native.Nat.{◌+◌, ◌*◌}
use native.Mathlib.Omega.{arith}
use mathlib.Core.Path.{◌≡◌, sym, ap, ◌∙◌}
use mathlib.Core.Bool.{not}
use borrow.Author.Count.{below_more}
use Rattle.params.proofs.Searches.{found_first, found_nothing}
use Rattle.fold.proofs.Turns.{bucket_inside, unfit_lem}
use Rattle.fold.proofs.first_unfit.Goals as goal

pub returns-then-not-sources_fit : goal.returns-then-not-sources_fit
returns-then-not-sources_fit c =
    let unfit = unfit_lem c.requires c.loop-i-test.true c.loop-j-test.true _ _ ∙ ap not (sym c.sources_fit.ensures ∙ c.if-not-sources_fit.true) in
    sym (found_first _ _ _ (bucket_inside c.requires c.loop-i-test.true c.loop-j-test.true) unfit c.loop-j.invariant)

pub loop-j-preserved : goal.loop-j-preserved
loop-j-preserved c =
    let fit = unfit_lem c.requires c.loop-i-test.true c.loop-j-test.true _ _ ∙ ap not (sym c.sources_fit.ensures ∙ c.if-not-sources_fit.false) in
    λ k l. below_more _ (c.loop-i.i * c.args.m2 + c.loop-j.j) c.loop-j.invariant fit k (omega arith)

pub returns : goal.returns
returns c =
    let end : c.loop-i.i ≡ c.args.d = omega arith in
    sym (found_nothing _ _ (λ k l. c.loop-i.invariant k (rw end l)))
