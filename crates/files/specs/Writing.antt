-- What writing answers and leaves: bytes over what the output held, where there is room for them.
use Rattle.std.specs.Prelude.{cond, List, ℕ, ◌+◌, leb, length}
use Rattle.files.specs.Bytes.{overwritten}

-- ys over xs from an offset on, or xs where there is no room for all of them
unfoldable pub written : List ℕ → ℕ → List ℕ → List ℕ
written xs at ys = cond (leb (at + length ys) (length xs)) (overwritten xs at ys) xs
