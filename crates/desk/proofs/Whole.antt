-- A whole record by its first byte and its end.
use mathlib.Core.Path.{◌≡◌, sym}
use mathlib.Core.Bool.{true}
use mathlib.Core.List.{List}
use Prim.Native.Nat.{ℕ, ◌+◌, ◌≤◌}
use lib.ListN.{length, get_or}
use Rattle.files.specs.Records.{body_length, record_at, is_kind}
use Rattle.files.proofs.Standing.{kind_stands}

pub whole_record : (bs : List ℕ) (at k : ℕ) → is_kind k (record_at bs at) ≡ true → (get_or bs at 0 ≡ k) × (at + 1 + body_length k ≤ length bs)
whole_record bs at k e = let s = kind_stands k bs at e in (sym s.kind, s.within)
