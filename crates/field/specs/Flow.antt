-- The flow of a bucket: the quotient of its idsum by its count, modulo a prime. proofs/OneFlow.antt shows that it is the one flow.
use Rattle.std.specs.Prelude.{true, false, ℕ, zero, suc, ◌-◌, ◌*◌, ◌/◌, ◌%◌, ℤ, pos, leb}
use Rattle.field.specs.Residue.{residue}

-- 1 / a modulo p, for a below p, in at most `fuel` steps: with p = q * a + r, 1 / a is (p - q) / r
unfoldable pub inverse_in : ℕ → ℕ → ℕ → ℕ
inverse_in zero p a = 0
inverse_in (suc fuel) p a = elim (leb a 1) [ true ↦ a | false ↦ ((p - p / a) * inverse_in fuel p (p % a)) % p ]

-- 1 / a modulo p: each step takes a to a smaller rest, so a steps are enough
unfoldable pub inverse : ℕ → ℕ → ℕ
inverse p a = inverse_in (residue p (pos a)) p (residue p (pos a))

-- s / c modulo p, for a count c, which may be negative, and an idsum s
unfoldable pub flow : ℕ → ℤ → ℕ → ℕ
flow p c s = residue p (pos (s * inverse p (residue p c)))
