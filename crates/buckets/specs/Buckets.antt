-- One bucket: its limits, and what is put into it or taken out.
use Rattle.std.specs.Prelude.{Bool, true, false, not, cond, ◌&&◌, List, ℕ, ◌+◌, ◌-◌, ◌*◌, ◌%◌, ℤ, pos, nat_abs, ◌+ℤ◌, ◌-ℤ◌, eqb, leb, ltb, get_or}
use Rattle.field.specs.Residue.{residue}
use Rattle.params.specs.Params.{prime}

-- a count lies from -2147483646 to 2147483646
unfoldable pub in_limits : ℤ → Bool
in_limits z = leb (nat_abs z) 2147483646

-- a number of packets: from 1 to 2147483646
unfoldable pub is_number : ℕ → Bool
is_number n = leb 1 n && leb n 2147483646

-- a bucket outside its limits
abbrev pub damaged : ℤ → ℕ → Bool
damaged c s = not (in_limits c && ltb s prime)

-- bucket k of these counts and idsums is outside its limits
abbrev pub damaged_of : List ℤ → List ℕ → ℕ → Bool
damaged_of cs ss k = damaged (get_or cs k (pos 0)) (get_or ss k 0)

-- x + y, or x - y where the test holds
abbrev pub plus_minus : Bool → ℤ → ℤ → ℤ
plus_minus false x y = x +ℤ y
plus_minus true x y = x -ℤ y

-- The next two are what the code computes in place of more, for speed. No public contract of another crate cites them.

-- the sum, or the difference, of two idsums: the prime is taken off once where the sum is not below it, and put on once where the
-- difference is below 0. Both are taken modulo 2^32, which two numbers below the prime do not reach: of these it is the residue
unfoldable pub idsum_plus_minus : Bool → ℕ → ℕ → ℕ
idsum_plus_minus false s t = cond (ltb ((s + t) % 4294967296) prime) ((s + t) % 4294967296) ((s + t) % 4294967296 - prime)
idsum_plus_minus true s t = cond (ltb s t) ((s + prime + 4294967296 - t) % 4294967296) (s - t)

-- a bucket whose idsum is below the prime, with a count so small that the sum and the difference of two such counts are within the
-- limits: of up to a thousand million, where up to 1073741823 would do
unfoldable pub is_small : ℤ → ℕ → Bool
is_small c s = ltb s prime && leb (nat_abs c) 1000000000

-- what n packets bring to an idsum of a flow for which x is sketched: n * x mod p
abbrev pub weight : ℕ → ℕ → ℕ
weight x n = residue prime (pos (n * x))

-- a count that is 0
abbrev pub is_zero : ℤ → Bool
is_zero z = eqb (nat_abs z) 0

-- a bucket that is all zero
abbrev pub all_zero : ℤ → ℕ → Bool
all_zero c s = is_zero c && eqb s 0
