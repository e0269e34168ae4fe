-- The residue of a signed number modulo p: the number from 0 to p - 1 that differs from it by a multiple of p.
use Rattle.std.specs.Prelude.{Bool, ℕ, zero, suc, ◌-◌, ◌%◌, eqb, ℤ, pos, negsuc}

-- negsuc n is - (n + 1), so that what n % p lacks of p - 1 differs from it by a multiple of p; modulo 0 the residue is 0
unfoldable pub residue : ℕ → ℤ → ℕ
residue zero z = 0
residue (suc q) (pos n) = n % suc q
residue (suc q) (negsuc n) = q - n % suc q

-- z is a multiple of p, where p is above 0
abbrev pub is_multiple : ℕ → ℤ → Bool
is_multiple p z = eqb (residue p z) 0
