-- Laws of idsums, the residues modulo the prime.
use mathlib.Core.Path.{◌≡◌, refl, sym, ap, ap₂, ◌∙◌}
use mathlib.Core.Bool.{Bool, true, false, cond}
use Prim.Native.Nat.{ℕ, ◌+◌, ◌-◌, ◌%◌, ◌<◌}
use native.Mathlib.Nat.{mod-eq_of_lt}
use native.Mathlib.Omega.{arith}
use borrow.Author.Tests.{ltb-true, ltb-false}
use lib.Dec.{ltb}
use lib.IntN.{ℤ, pos, neg_ℤ, ◌+ℤ◌, ◌-ℤ◌, +ℤ-neg_ℤ_cancel}
use Rattle.field.specs.Residue.{residue}
use Rattle.field.proofs.Residues.{residue_pos, residue_own, residue_once, residue_twice, residue_add, residue_sub, residue_add_same, opposite_of_other}
use Rattle.field.proofs.Remainders.{rest_is}
use Rattle.field.proofs.Parts.{sub_up, sub_down}
use Rattle.params.specs.Params.{prime}
use Rattle.buckets.specs.Buckets.{plus_minus, idsum_plus_minus}

pub prime_pos : 0 < prime
prime_pos = omega arith

-- the sum and the difference of two residues are those of the numbers
pub idsum_plus_minus_both : (minus : Bool) (a b : ℤ) → residue prime (plus_minus minus (pos (residue prime a)) (pos (residue prime b))) ≡ residue prime (plus_minus minus a b)
idsum_plus_minus_both false a b = residue_pos prime prime_pos (residue prime a + residue prime b) ∙ sym (residue_add prime prime_pos a b)
idsum_plus_minus_both true a b =
    residue_sub prime prime_pos (pos (residue prime a)) (pos (residue prime b))
    ∙ ap₂ (λ (r s : ℕ). (r + (prime - s)) % prime) (residue_twice prime prime_pos a) (residue_twice prime prime_pos b)
    ∙ sym (residue_sub prime prime_pos a b)

-- what is added to an idsum below p and taken away again leaves it
pub idsum_plus_minus_back : (x w : ℕ) → x < prime → residue prime (pos (residue prime (pos x +ℤ pos w)) -ℤ pos w) ≡ x
idsum_plus_minus_back x w l =
    residue_add_same prime prime_pos (pos (residue prime (pos x +ℤ pos w))) (pos x +ℤ pos w) (neg_ℤ (pos w)) (residue_twice prime prime_pos (pos x +ℤ pos w))
    ∙ ap (residue prime) (+ℤ-neg_ℤ_cancel (pos x) (pos w))
    ∙ residue_own prime prime_pos x l

-- the sum and the difference of two numbers below p by one comparison, and that `idsum_plus_minus` is the residue of either
added_once : (s t : ℕ) → s < prime → t < prime → (b : Bool) → ltb (s + t) prime ≡ b → cond b (s + t) (s + t - prime) ≡ residue prime (pos (s + t))
added_once s t h k true e = sym (residue_own prime prime_pos (s + t) (ltb-true (s + t) prime e))
added_once s t h k false e =
    let past = ltb-false (s + t) prime e in
    sym (residue_once prime prime_pos (s + t) (s + t - prime) (omega arith) (omega arith))

taken_once : (s t : ℕ) → s < prime → t < prime → (b : Bool) → ltb s t ≡ b → cond b ((s + prime + 4294967296 - t) % 4294967296) (s - t) ≡ residue prime (pos s -ℤ pos t)
taken_once s t h k true e =
    let l = ltb-true s t e in
    sym (rest_is 1 (s + prime - t) (s + prime + 4294967296 - t) 4294967296 (omega arith) (omega arith))
    ∙ omega arith
    ∙ (opposite_of_other prime (t - s) (t - s) (sym (residue_own prime prime_pos (t - s) (omega arith))) (λ z. omega arith)).1
    ∙ ap (residue prime) (sym (sub_down s t (omega arith)))
taken_once s t h k false e =
    let l = ltb-false s t e in
    sym (residue_own prime prime_pos (s - t) (omega arith)) ∙ ap (residue prime) (sym (sub_up s t l))

pub idsum_plus_minus_is : (minus : Bool) (s t : ℕ) → s < prime → t < prime → idsum_plus_minus minus s t ≡ residue prime (plus_minus minus (pos s) (pos t))
unfolding idsum_plus_minus
idsum_plus_minus_is false s t h k =
    let short : (s + t) % 4294967296 ≡ s + t = mod-eq_of_lt (omega arith) in
    rw short (added_once s t h k (ltb (s + t) prime) refl)
idsum_plus_minus_is true s t h k = taken_once s t h k (ltb s t) refl
