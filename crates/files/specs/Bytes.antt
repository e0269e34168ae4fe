-- Numbers in files: four bytes, the highest first, counts in two's complement; and bytes written over others.
use Rattle.std.specs.Prelude.{List, [], ◌∷◌, ◌++◌, ℕ, ◌+◌, ◌*◌, ◌/◌, ◌%◌, ℤ, get_or, length, take, drop}
use Rattle.std.specs.Int.{w32}
use Rattle.std.proofs.Common.{to_z, of_z}

-- the number whose four bytes start at an offset, and the four bytes of a number below 2 ^ 32
unfoldable pub word : List ℕ → ℕ → ℕ
word bs at =
    get_or bs at 0 * 16777216 + get_or bs (at + 1) 0 * 65536 + get_or bs (at + 2) 0 * 256 + get_or bs (at + 3) 0

unfoldable pub word_bytes : ℕ → List ℕ
word_bytes n = n / 16777216 ∷ n / 65536 % 256 ∷ n / 256 % 256 ∷ n % 256 ∷ []

-- a count as a number of 32 bits, in two's complement, and the count that such a number stands for
abbrev pub count_word : ℤ → ℕ
count_word c = of_z w32 c

abbrev pub count_of : ℕ → ℤ
count_of n = to_z w32 n

-- xs with ys written over what stands from an offset on
unfoldable pub overwritten : List ℕ → ℕ → List ℕ → List ℕ
overwritten xs at ys = take at xs ++ (ys ++ drop (at + length ys) xs)
