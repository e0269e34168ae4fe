-- The wide test is sound, modulo every prime and for every placing of flows, and so is the purity test, which narrows it. Modulo a prime above the limits of counts the purity test passes exactly where the scope and its requests on flow 0 and on fingerprints say.
use Rattle.std.proofs.Common.{rules}
use mathlib.Core.Path.{◌≡◌, sym, ap, subst}
use mathlib.Core.Bool.{Bool, true, false, cond}
use Prim.Native.Nat.{ℕ, suc, ◌+◌, ◌-◌, ◌*◌, ◌<◌}
use native.Mathlib.Omega.{arith}
use borrow.Author.Tests.{eqb-false}
use lib.IntN.{ℤ, pos, ◌*ℤ◌}
use Rattle.field.specs.Prime.{Prime}
use Rattle.field.specs.Residue.{residue, is_multiple}
use Rattle.field.specs.Flow.{flow}
use Rattle.field.proofs.Primes.{prime_31}
use Rattle.field.proofs.Inverses.{prime_pos}
use Rattle.field.proofs.Residues.{residue_zero, residue_below}
use Rattle.field.proofs.OneFlow.{the_flow}
use Rattle.params.specs.declared.params.Params.{Params}
use Rattle.params.specs.Params.{prime_of, fingerprinted, plain, Dimensions}
use Rattle.params.specs.Sketched.{told, is_sketched}
use Rattle.params.specs.Positions.{stand, bucket_of, sketched_stands}
use Rattle.buckets.specs.Buckets.{in_limits, is_zero}
use Rattle.params.proofs.Rules.{dimensions_good}
use Rattle.params.proofs.Extended.{is_sketched_above, plain_sketched}
use Rattle.params.proofs.Indexes.{bucket_where_stands}
use Rattle.buckets.proofs.Multiples.{multiple_zero}
use Rattle.walk.specs.Walk.{Rule}
use Rattle.walk.specs.Purity.{test_in, wide_test, only_if, pure_test, guarded_test, rule_of}
use Rattle.buckets.proofs.Zeros.{is_zero_lem, not_zero}
use Rattle.walk.proofs.Balance.{Sound}
use Rattle.walk.proofs.Stuck.{ByArrays}
use Rattle.walk.proofs.Narrowed.{only_if_pure, only_if_passes, sound_narrowed}
use Rattle.std.specs.Prelude.{None, Option, Some}

-- a count that is no multiple of p has a residue above 0
pub some_residue : (p : ℕ) (c : ℤ) → is_multiple p c ≡ false → 0 < residue p c
some_residue p c e = let nonzero : residue p c ≡ 0 → ⊥ = eqb-false (residue p c) 0 e in omega arith

-- what the test says where it passes
passed : (b t : Bool) (g f : ℕ) → cond b None (cond t (Some g) None) ≡ Some f → (b ≡ false) × (t ≡ true) × (g ≡ f)
passed b t g f e = search rules

-- the test in the scope's words: the count is not 0, and the one flow stands in the bucket
abbrev pub scope_test : ℕ → (ℕ → ℕ → Bool) → ℕ → ℤ → ℕ → Option ℕ
scope_test p on k c s = cond (is_zero c) None (cond (on (flow p c s) k) (Some (flow p c s)) None)

module _ (p : ℕ) (on : ℕ → ℕ → Bool) (k : ℕ) (c : ℤ) (s : ℕ) where
  pure_is : (f : ℕ) → test_in p on k c s ≡ Some f → (is_multiple p c ≡ false) × (on f k ≡ true) × (flow p c s ≡ f)
  unfolding test_in
  pure_is f e = search rules

  -- within the limits the test is the scope's, where p is above them
  pub test_within : 2147483646 < p → in_limits c ≡ true → test_in p on k c s ≡ scope_test p on k c s
  unfolding test_in
  test_within above within = ap (λ b. cond b None (cond (on (flow p c s) k) (Some (flow p c s)) None)) (multiple_zero p above c within)

-- what is found is below p, and solves c * f = s
module _ (p : ℕ) (prime : Prime p) (on : ℕ → ℕ → Bool) (k : ℕ) (c : ℤ) (s f : ℕ) (e : test_in p on k c s ≡ Some f) where
  pure_below : f < p
  unfolding flow
  pure_below = subst (λ (g : ℕ). g < p) (pure_is p on k c s f e).2 (residue_below p (prime_pos p prime) _)

  pure_solves : s < p → residue p (c *ℤ pos f) ≡ s
  pure_solves l = search (rules, pure_is, some_residue, the_flow)

-- the rule of any prime and any placing
module _ (p : ℕ) (prime : Prime p) (arrays : ℕ) (index : ℕ → ℕ → ℕ) (on : ℕ → ℕ → Bool) where
  sound_in : Sound (record { prime = p; arrays = arrays; index = index; stands = on; test = test_in p on })
  unfolding test_in
  sound_in = search (rules, prime_pos, pure_is, pure_solves, residue_zero)

-- where the dimensions keep their rules, the code's test is the definition's
pub guarded_is_pure : {P : Params} (k : ℕ) (c : ℤ) (s : ℕ) → Dimensions P → guarded_test P k c s ≡ pure_test P k c s
guarded_is_pure {P} k c s h = rw (dimensions_good h)

-- the rule of P by the wide test, which that of P narrows
abbrev pub wide_rule : Params → Rule
wide_rule P = record { prime = prime_of P; arrays = P.d; index = bucket_of P; stands = sketched_stands P; test = wide_test P }

pub sound : (P : Params) → Sound (rule_of P)
sound P = sound_narrowed (is_sketched P) (wide_rule P) (sound_in (prime_of P) prime_31 P.d (bucket_of P) (sketched_stands P))

-- arrays count from 1: the index in the array that i others stand before
pub index_next : (P : Params) (i x : ℕ) → bucket_of P (suc i) x ≡ i * P.m + stand P i x
index_next P i x = let e : suc i - 1 ≡ i = omega arith in ap (λ (n : ℕ). n * P.m + stand P n x) e

-- so the parameters' rule places flows by its arrays
pub by_arrays : (P : Params) → ByArrays (rule_of P)
by_arrays P = record { array = λ k f e. let w = bucket_where_stands P f k e in (w.0, w.1, w.2, sym w.3) }

-- what is pure passes the wide test too
pub pure_is_wide : (P : Params) (k : ℕ) (c : ℤ) (s f : ℕ) → pure_test P k c s ≡ Some f → wide_test P k c s ≡ Some f
pure_is_wide P k c s f = only_if_pure (is_sketched P) (wide_test P k c s) f

-- a bucket whose number is not what is sketched for a flow is not pure
pub not_sketched : (P : Params) (k : ℕ) (c : ℤ) (s : ℕ) → is_sketched P (flow (prime_of P) c s) ≡ false → pure_test P k c s ≡ None
unfolding test_in
not_sketched P k c s e = search rules

-- so one whose flow comes out as 0 is not, in either profile
pub zero_not_pure : (P : Params) (k : ℕ) (c : ℤ) (s : ℕ) → told P (flow (prime_of P) c s) ≡ 0 → pure_test P k c s ≡ None
unfolding is_sketched
zero_not_pure P k c s e = not_sketched P k c s (rw e)

-- what the wide test passes is pure where it is sketched for a flow
pub pure_if_sketched : (P : Params) (k : ℕ) (c : ℤ) (s x : ℕ) → wide_test P k c s ≡ Some x → is_sketched P x ≡ true → pure_test P k c s ≡ Some x
pure_if_sketched P k c s x e h = rw (e, h)

-- in the plain profile that is every number but 0
pub plain_unless_zero : (P : Params) (k : ℕ) (c : ℤ) (s x : ℕ) → fingerprinted P ≡ false → wide_test P k c s ≡ Some x → (x ≡ 0 → ⊥) → pure_test P k c s ≡ Some x
plain_unless_zero P k c s x is_plain e nonzero = search (rules, plain_sketched, prime_31, pure_below, pure_if_sketched)

-- whatever is pure with fingerprints is pure in the plain profile over extended numbers, with the same number
pub pure_in_plain : (P : Params) (k : ℕ) (c : ℤ) (s x : ℕ) → pure_test P k c s ≡ Some x → pure_test (plain P) k c s ≡ Some x
unfolding stand
pure_in_plain P k c s x e = search (rules, is_sketched_above, only_if_passes, plain_unless_zero, pure_is_wide)

-- the bucket k with count c and idsum s is pure with the number f, in the scope's words: c is not 0, and f is a number from 0 to p - 1 with
-- c * f congruent to s, and stands there; and f passes `ok`, which tells among these numbers those that are sketched for a flow
pub record PureWith (p : ℕ) (ok : ℕ → Bool) (on : ℕ → ℕ → Bool) (k : ℕ) (c : ℤ) (s f : ℕ) : Type 0 where
  pub nonzero : c ≡ pos 0 → ⊥
  pub below : f < p
  pub solves : residue p (c *ℤ pos f) ≡ s
  pub there : on f k ≡ true
  pub passes : ok f ≡ true

-- in a bucket within its limits, modulo any prime above the limits, the narrowed test passes exactly where that is so
module _ (p : ℕ) (prime : Prime p) (above : 2147483646 < p) (ok : ℕ → Bool) (on : ℕ → ℕ → Bool) (k : ℕ) (c : ℤ) (s f : ℕ) (within : in_limits c ≡ true) (small : s < p) where
  pure_only : only_if ok (test_in p on k c s) ≡ Some f → PureWith p ok on k c s f
  pure_only e = search (rules, is_zero_lem, multiple_zero, only_if_passes, only_if_pure, pure_below, pure_is, pure_solves)

  pure_if : PureWith p ok on k c s f → only_if ok (test_in p on k c s) ≡ Some f
  pure_if h = search (rules, multiple_zero, not_zero, some_residue, test_within, the_flow)

  pub pure_exactly_in : (only_if ok (test_in p on k c s) ≡ Some f → PureWith p ok on k c s f) × (PureWith p ok on k c s f → only_if ok (test_in p on k c s) ≡ Some f)
  pure_exactly_in = (pure_only, pure_if)

-- so with a sketch's parameters
abbrev pub PureIn : Params → ℕ → ℤ → ℕ → ℕ → Type 0
PureIn P = PureWith (prime_of P) (is_sketched P) (sketched_stands P)

pub pure_exactly : (P : Params) (k : ℕ) (c : ℤ) (s f : ℕ) → in_limits c ≡ true → s < prime_of P → (pure_test P k c s ≡ Some f → PureIn P k c s f) × (PureIn P k c s f → pure_test P k c s ≡ Some f)
pure_exactly P k c s f within below = pure_exactly_in (prime_of P) prime_31 (omega arith) (is_sketched P) (sketched_stands P) k c s f within below
