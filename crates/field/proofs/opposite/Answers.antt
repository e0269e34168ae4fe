-- `field::opposite` meets its contract.
use mathlib.Core.Path.{sym, ap, ◌∙◌}
use Prim.Native.Nat.{ℕ}
use lib.IntN.{pos, neg_ℤ}
use native.Mathlib.Omega.{arith}
use Rattle.field.specs.Residue.{residue}
use Rattle.field.proofs.Residues.{residue_zero, residue_own, opposite_of_multiple, opposite_of_other}
use Rattle.field.proofs.opposite.Goals as goal

pub returns-then-n-eq0 : goal.returns-then-n-eq0
returns-then-n-eq0 c =
    let p = c.args.p in
    sym (ap (λ (n : ℕ). residue p (neg_ℤ (pos n))) c.if-n-eq0.true ∙ residue_zero p)

pub returns-then-n-p : goal.returns-then-n-p
returns-then-n-p c =
    let a = c.args in
    (opposite_of_other a.p a.n a.n (sym (residue_own a.p (omega arith) a.n c.if-n-p.true)) c.if-n-eq0.false).1

pub returns-then-r-eq0 : goal.returns-then-r-eq0
returns-then-r-eq0 c = sym (opposite_of_multiple _ _ (sym c.rest-r.ensures ∙ c.if-r-eq0.true))

pub overflow_sub-result-else-r-eq0 : goal.overflow_sub-result-else-r-eq0
overflow_sub-result-else-r-eq0 c = (opposite_of_other _ _ _ c.rest-r.ensures c.if-r-eq0.false).0

pub returns-else-r-eq0 : goal.returns-else-r-eq0
returns-else-r-eq0 c = (opposite_of_other _ _ _ c.rest-r.ensures c.if-r-eq0.false).1
