-- A sketch file read: a head, the buckets that are not all zero in rising index, each once, an end.
use Rattle.std.specs.Prelude.{◌≡◌, Bool, List, ℕ, zero, suc, ◌+◌, ℤ, leb, ltb, length, set}
use Rattle.params.specs.declared.params.Params.{Params}
use Rattle.params.specs.declared.answers.Refusal.TheVariants.{Damage, Form}
use Rattle.params.specs.Answers.{refuse_if, first, kept, Answer, Done}
use Rattle.params.specs.Params.{size, lengths_answer}
use Rattle.buckets.specs.Buckets.{all_zero, damaged}
use Rattle.sketch.specs.Sketch.{Sketch, sketch, zeros}
use Rattle.files.specs.Bytes.{word, count_of}
use Rattle.files.specs.Heads.{parameters_answer}
use Rattle.files.specs.Turns.{in_turn, bucket_offset, records_of, end_answer}
use Rattle.files.specs.Records.{bucket_kind}
use Rattle.files.specs.Fields.{index_field, count_field, idsum_field}

-- how many bucket records there are, and the index, the count and the idsum in the k-th, counted from 0
abbrev pub buckets_in : List ℕ → ℕ
buckets_in bs = records_of bucket_kind (bucket_offset bs) bs

abbrev pub bucket_index : List ℕ → ℕ → ℕ
bucket_index bs k = word bs (bucket_offset bs k + index_field)

abbrev pub bucket_count : List ℕ → ℕ → ℤ
bucket_count bs k = count_of (word bs (bucket_offset bs k + count_field))

abbrev pub bucket_idsum : List ℕ → ℕ → ℕ
bucket_idsum bs k = word bs (bucket_offset bs k + idsum_field)

-- the lowest index that the k-th record may have: above that of the record before it
unfoldable pub lowest : List ℕ → ℕ → ℕ
lowest bs zero = 0
lowest bs (suc k) = suc (bucket_index bs k)

-- The tests of a bucket record with the index x, the count c and the idsum s: its index is too large for a sketch of N buckets, or
-- does not rise, where none below `low` may stand; its bucket is damaged, or all zero.
abbrev pub too_large : ℕ → ℕ → Bool
too_large N x = leb N x

abbrev pub not_rising : ℕ → ℕ → Bool
not_rising low x = ltb x low

-- what is refused of one at an offset: the lowest number
unfoldable pub bucket_answer : ℕ → ℕ → ℕ → ℕ → ℤ → ℕ → Answer
bucket_answer N low at x c s =
    refuse_if (damaged c s) Damage at
    (refuse_if (too_large N x) Form at
    (refuse_if (not_rising low x) Form at
    (refuse_if (all_zero c s) Form at
    Done)))

unfoldable pub bucket_judged : ℕ → List ℕ → ℕ → Answer
bucket_judged N bs k = bucket_answer N (lowest bs k) (bucket_offset bs k) (bucket_index bs k) (bucket_count bs k) (bucket_idsum bs k)

-- the records after the head: the earliest at fault decides
unfoldable pub buckets_judged : ℕ → List ℕ → Answer
buckets_judged N bs =
    first (in_turn 0 (buckets_in bs) (bucket_judged N bs))
    (end_answer bs (bucket_offset bs (buckets_in bs)) (buckets_in bs))

-- the head and the parameters, the lengths of the lent slices, c and s, then the records
unfoldable pub sketch_answer : Params → List ℕ → ℕ → ℕ → Answer
sketch_answer P bs c s =
    first (parameters_answer P bs)
    (first (lengths_answer P c s)
    (buckets_judged (size P) bs))

-- the first k buckets of the file stored one after the other
unfoldable pub stored : List ℕ → ℕ → Sketch → Sketch
stored bs zero S = S
stored bs (suc k) S =
    let T = stored bs k S in
    sketch (set T.counts (bucket_index bs k) (bucket_count bs k)) (set T.idsums (bucket_index bs k) (bucket_idsum bs k))

-- the sketch that a file holds: its buckets, and zeros elsewhere
unfoldable pub sketch_in : Params → List ℕ → Sketch
sketch_in P bs = stored bs (buckets_in bs) (zeros P)

pub record SketchRead (P : Params) (bs : List ℕ) (S : Sketch) (r : Answer) (S' : Sketch) : Type 0 where
  pub answer : r ≡ sketch_answer P bs (length S.counts) (length S.idsums)
  pub content : S' ≡ kept r S (sketch_in P bs)
