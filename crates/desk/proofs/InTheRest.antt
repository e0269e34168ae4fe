-- Records and numbers in what is left of a list: they stand there as they stand in the whole.
use mathlib.Core.Path.{◌≡◌, refl, sym, ap, ◌∙◌}
use mathlib.Core.Bool.{true}
use mathlib.Core.List.{List}
use Prim.Native.Nat.{ℕ, ◌+◌, ◌<◌}
use native.Mathlib.Omega.{arith}
use lib.ListN.{get_or, drop, length-drop}
use lib.Seq.{get_or-drop}
use Rattle.files.specs.Bytes.{word}
use Rattle.files.specs.Records.{body_length, record_at, is_kind}
use Rattle.files.proofs.RecordTrips.{record_whole}
use Rattle.desk.proofs.Whole.{whole_record}

module _ (xs : List ℕ) (i : ℕ) where
  byte_at : (j k : ℕ) → i + j ≡ k → get_or (drop i xs) j 0 ≡ get_or xs k 0
  byte_at j k e = get_or-drop i xs j 0 ∙ ap (λ (k : ℕ). get_or xs k 0) e

  pub word_at : (j : ℕ) → word (drop i xs) j ≡ word xs (i + j)
  unfolding word
  word_at j =
      rw (byte_at j (i + j) refl, byte_at (j + 1) (i + j + 1) (omega arith), byte_at (j + 2) (i + j + 2) (omega arith), byte_at (j + 3) (i + j + 3) (omega arith))

  pub whole_at : (kind : ℕ) → 0 < body_length kind → is_kind kind (record_at (drop i xs) 0) ≡ true → is_kind kind (record_at xs i) ≡ true
  whole_at kind p e =
      let w = whole_record (drop i xs) 0 kind e in
      record_whole xs i kind (sym (byte_at 0 i (omega arith)) ∙ w.0) p (omega (arith, w.1, length-drop i xs))

  pub whole_left : (kind : ℕ) → 0 < body_length kind → is_kind kind (record_at xs i) ≡ true → is_kind kind (record_at (drop i xs) 0) ≡ true
  whole_left kind p e =
      let w = whole_record xs i kind e in
      record_whole (drop i xs) 0 kind (byte_at 0 i (omega arith) ∙ w.0) p (omega (arith, w.1, length-drop i xs))
