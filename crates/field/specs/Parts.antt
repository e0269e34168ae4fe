-- A signed number's part above 0 and its part below.
use Rattle.std.specs.Prelude.{ℕ, suc, ℤ, pos, negsuc}

-- a positive number as it is, and 0 for any other
abbrev pub up : ℤ → ℕ
up (pos n) = n
up (negsuc n) = 0

-- a negative number without its sign, and 0 for any other
abbrev pub down : ℤ → ℕ
down (pos n) = 0
down (negsuc n) = suc n
