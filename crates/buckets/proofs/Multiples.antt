-- Within the limits of counts 0 is the only multiple of a number above them, and so of both primes.
use mathlib.Core.Path.{◌≡◌, sym, ◌∙◌}
use mathlib.Core.Bool.{true}
use Prim.Native.Nat.{ℕ, ◌<◌}
use native.Mathlib.Omega.{arith}
use lib.IntN.{ℤ, pos, ◌*ℤ◌}
use Rattle.field.specs.Residue.{is_multiple}
use Rattle.field.proofs.Multiples.{is_multiple_lem, zero_alone}
use Rattle.buckets.specs.Buckets.{in_limits, is_zero}
use Rattle.buckets.proofs.Limits.{limits_size}
use Rattle.buckets.proofs.Zeros.{zero_is}

-- the one law: p need not be prime
module _ (p : ℕ) (above : 2147483646 < p) (c : ℤ) (within : in_limits c ≡ true) where
  pub multiple_zero : is_multiple p c ≡ is_zero c
  multiple_zero = zero_alone p (omega arith) c (omega (arith, limits_size c within))

  pub no_multiple : (c ≡ pos 0 → ⊥) → (q : ℤ) → q *ℤ pos p ≡ c → ⊥
  no_multiple d q e = d (zero_is c (sym multiple_zero ∙ is_multiple_lem p (omega arith) c q e))

-- a count other than 0 is no multiple of 2 ^ 31 - 1, nor of the largest prime below 2 ^ 32
pub no_multiple_31 : (c : ℤ) → in_limits c ≡ true → (c ≡ pos 0 → ⊥) → (q : ℤ) → q *ℤ pos 2147483647 ≡ c → ⊥
no_multiple_31 = no_multiple 2147483647 (omega arith)

pub no_multiple_32 : (c : ℤ) → in_limits c ≡ true → (c ≡ pos 0 → ⊥) → (q : ℤ) → q *ℤ pos 4294967291 ≡ c → ⊥
no_multiple_32 = no_multiple 4294967291 (omega arith)
