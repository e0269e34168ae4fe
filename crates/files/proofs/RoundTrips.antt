-- Numbers there and back: what was written is read, and what was read is written the same.
use mathlib.Core.Path.{◌≡◌, ap}
use mathlib.Core.List.{List, ◌∷◌, ◌++◌}
use Prim.Native.Nat.{ℕ, suc, ◌+◌, ◌*◌, ◌/◌, ◌%◌, ◌≤◌, ◌<◌}
use native.Mathlib.Omega.{arith}
use Rattle.std.proofs.lemmas.Grind.{common_steps}
use lib.ListN.{get_or, length, take, drop}
use Rattle.files.specs.Bytes.{word, word_bytes}

-- the four bytes of a number make it again
pub digits_make : (n : ℕ) → n < 4294967296 → n / 16777216 * 16777216 + n / 65536 % 256 * 65536 + n / 256 % 256 * 256 + n % 256 ≡ n
digits_make n h = omega arith

-- a number that stands after other bytes
pub word_after : (xs ys : List ℕ) (at i : ℕ) → length xs ≡ at → word (xs ++ ys) (at + i) ≡ word ys i
unfolding word
word_after xs ys at i e = grind (arith, common_steps)

-- one byte more in front
pub tail : {x : ℕ} {xs ys : List ℕ} → xs ≡ ys → x ∷ xs ≡ x ∷ ys
tail {x} = ap {B = List ℕ} (λ zs. x ∷ zs)

-- bytes that were read, and are written again, one after the other
module _ (bs : List ℕ) where
  pub byte_then : (at next n : ℕ) → at < length bs → next ≡ suc at → get_or bs at 0 ∷ take n (drop next bs) ≡ take (suc n) (drop at bs)
  byte_then at next n h e = grind (arith, common_steps)

  module _ (small : (k : ℕ) → get_or bs k 0 < 256) where
    pub word_small : (at : ℕ) → word bs at < 4294967296
    unfolding word
    word_small at = omega (arith, small at, small (at + 1), small (at + 2), small (at + 3))

    pub word_bytes_lem : (at : ℕ) → at + 4 ≤ length bs → word_bytes (word bs at) ≡ take 4 (drop at bs)
    unfolding word word_bytes
    word_bytes_lem at h = grind (arith, common_steps)

    pub word_then : (at next n : ℕ) → at + 4 ≤ length bs → next ≡ at + 4 → word_bytes (word bs at) ++ take n (drop next bs) ≡ take (4 + n) (drop at bs)
    unfolding word word_bytes
    word_then at next n h e = grind (arith, common_steps)

    pub two_words : (at next : ℕ) → at + 8 ≤ length bs → next ≡ at + 4 → word_bytes (word bs at) ++ word_bytes (word bs next) ≡ take 8 (drop at bs)
    unfolding word word_bytes
    two_words at next h e = grind (arith, common_steps)
