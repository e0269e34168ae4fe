-- A text written over bytes from an offset on, and the offset after it.
use Rattle.std.specs.Prelude.{◌≡◌, List, ℕ, ◌+◌, length}
use Rattle.files.specs.Bytes.{overwritten}

pub record TextWritten (text out : List ℕ) (at r : ℕ) (out' : List ℕ) : Type 0 where
  pub next : r ≡ at + length text
  pub bytes : out' ≡ overwritten out at text
