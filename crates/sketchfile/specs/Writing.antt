-- A sketch file written from a sketch.
use Rattle.std.specs.Prelude.{◌≡◌, Bool, cond, List, [], ◌++◌, ℕ, zero, suc, ◌+◌, ltb, length}
use Rattle.params.specs.declared.params.Params.{Params}
use Rattle.params.specs.declared.answers.Refusal.TheVariants.{Length, Damage}
use Rattle.params.specs.Answers.{refuse_if, refuse_at, first, kept, Answer, Done, Given, given}
use Rattle.params.specs.Params.{size, lent_answer}
use Rattle.sketch.specs.Sketch.{Sketch, count_in, idsum_in, damaged_at}
use Rattle.files.specs.Bytes.{overwritten}
use Rattle.files.specs.Layout.{head_bytes, bucket_bytes, end_bytes}
use Rattle.buckets.specs.Buckets.{all_zero}

-- bucket k is all zero
abbrev pub zero_at : Sketch → ℕ → Bool
zero_at S k = all_zero (count_in S k) (idsum_in S k)

-- the records of buckets k, k + 1, .., n of them, without those that are all zero; and how many records that makes
unfoldable pub buckets_bytes : ℕ → ℕ → Sketch → List ℕ
buckets_bytes k zero S = []
buckets_bytes k (suc n) S = cond (zero_at S k) [] (bucket_bytes k (count_in S k) (idsum_in S k)) ++ buckets_bytes (suc k) n S

unfoldable pub nonzero_from : ℕ → ℕ → Sketch → ℕ
nonzero_from k zero S = 0
nonzero_from k (suc n) S = cond (zero_at S k) 0 1 + nonzero_from (suc k) n S

-- the one file of a sketch
unfoldable pub sketch_bytes : Params → Sketch → List ℕ
sketch_bytes P S = head_bytes P ++ (buckets_bytes 0 (size P) S ++ end_bytes (nonzero_from 0 (size P) S))

-- the parameters and the lengths, of the output, o, too, then damage anywhere
unfoldable pub sketch_write_answer : Params → Sketch → ℕ → Answer
sketch_write_answer P S o =
    first (lent_answer P (length S.counts) (length S.idsums))
    (refuse_if (ltb o (length (sketch_bytes P S))) Length 0
    (refuse_at (size P) (damaged_at S) Damage
    Done))

pub record SketchWritten (P : Params) (S : Sketch) (out : List ℕ) (r : Given ℕ) (out' : List ℕ) : Type 0 where
  pub answer : r ≡ given (sketch_write_answer P S (length out)) (length (sketch_bytes P S))
  pub bytes : out' ≡ kept (sketch_write_answer P S (length out)) out (overwritten out 0 (sketch_bytes P S))
