-- `field::inverse` meets its contract. The loop's invariant: x times what is left of the definition's work leaves what the definition gives. The measure is what is left.
use mathlib.Core.Path.{◌≡◌, sym, ap, ◌∙◌}
use Prim.Native.Nat.{ℕ, ◌*◌, ◌%◌, ◌<◌}
use native.Mathlib.Nat.{mod-lt, mod-eq_of_lt, mul-one, mul-zero, zero-mod, div-le_self}
use native.Mathlib.Omega.{arith}
use Rattle.field.proofs.Residues.{residue_pos}
use Rattle.field.proofs.Inverses.{inverse_starts, inverse_again, inverse_stops}
use Rattle.field.proofs.inverse.Goals as goal

pub loop-left-init : goal.loop-left-init
loop-left-init c = inverse_starts _ _ _ c.rest-left.ensures

pub nonzero_div-p : goal.nonzero_div-p
nonzero_div-p c = omega arith

pub overflow_sub-p : goal.overflow_sub-p
overflow_sub-p c = div-le_self _ _

pub nonzero_rem-left : goal.nonzero_rem-left
nonzero_rem-left c = omega arith

pub loop-left-smaller : goal.loop-left-smaller
loop-left-smaller c = mod-lt _ (omega arith)

pub loop-left-preserved : goal.loop-left-preserved
loop-left-preserved c =
    let p = c.args.p in
    let l = c.loop-left in
    let above : 1 < l.left = c.loop-left-test.true in
    let less : p % l.left < l.left = mod-lt p (omega arith) in
    let some : 0 < p = omega arith in
    let result = c.multiply-x.ensures ∙ residue_pos p some _ in (
      omega arith,
      (λ h. rw result (mod-lt _ some)),
      rw result (inverse_again p l.x l.left above ∙ l.invariant.2),
    )

pub returns-then-left-eq0 : goal.returns-then-left-eq0
returns-then-left-eq0 c =
    let p = c.args.p in
    let l = c.loop-left in
    sym (sym l.invariant.2 ∙ inverse_stops p l.x l.left (omega arith) ∙ ap (λ (n : ℕ). (l.x * n) % p) c.if-left-eq0.true ∙ ap (λ (n : ℕ). n % p) (mul-zero l.x) ∙ zero-mod p)

pub returns-else-left-eq0 : goal.returns-else-left-eq0
returns-else-left-eq0 c =
    let p = c.args.p in
    let l = c.loop-left in
    let one : l.left ≡ 1 = omega arith in
    sym (sym l.invariant.2 ∙ inverse_stops p l.x l.left (omega arith) ∙ ap (λ (n : ℕ). (l.x * n) % p) one ∙ ap (λ (n : ℕ). n % p) (mul-one l.x) ∙ mod-eq_of_lt (l.invariant.1 (omega arith)))
