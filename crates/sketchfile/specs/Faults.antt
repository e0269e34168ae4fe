-- Which faults apply to a bucket record that is read, and to a sketch that is written.
use Rattle.std.specs.Prelude.{Bool, false, not, ◌||◌, List, ℕ, ltb, length}
use Rattle.params.specs.declared.params.Params.{Params}
use Rattle.params.specs.declared.answers.Refusal.{Refusal}
use Rattle.params.specs.declared.answers.Refusal.TheVariants.{Param, Length, Flow, Count, Damage, Range, Mismatch, Form, Fold}
use Rattle.params.specs.Params.{size, good_params}
use Rattle.params.specs.Faults.{somewhere}
use Rattle.buckets.specs.Buckets.{all_zero, damaged}
use Rattle.sketch.specs.Sketch.{Sketch, damaged_at}
use Rattle.sketch.specs.Faults.{wrong_length}
use Rattle.sketchfile.specs.Reading.{bucket_index, bucket_count, bucket_idsum, lowest, too_large, not_rising}
use Rattle.sketchfile.specs.Writing.{sketch_bytes}

-- which faults the j-th record has, in a sketch of N buckets: damage, an index that is too large or does not rise, or a bucket that is all zero
abbrev pub bucket_fault : ℕ → List ℕ → ℕ → Refusal → Bool
bucket_fault N bs j Damage = damaged (bucket_count bs j) (bucket_idsum bs j)
bucket_fault N bs j Form = too_large N (bucket_index bs j) || (not_rising (lowest bs j) (bucket_index bs j) || all_zero (bucket_count bs j) (bucket_idsum bs j))
bucket_fault N bs j Param = false
bucket_fault N bs j Length = false
bucket_fault N bs j Flow = false
bucket_fault N bs j Count = false
bucket_fault N bs j Range = false
bucket_fault N bs j Mismatch = false
bucket_fault N bs j Fold = false

-- which faults apply where a sketch is written into an output of o bytes
abbrev pub write_fault : Params → Sketch → ℕ → Refusal → Bool
write_fault P S o Param = not (good_params P)
write_fault P S o Length = wrong_length P S || ltb o (length (sketch_bytes P S))
write_fault P S o Damage = somewhere (size P) (damaged_at S)
write_fault P S o Flow = false
write_fault P S o Count = false
write_fault P S o Range = false
write_fault P S o Mismatch = false
write_fault P S o Form = false
write_fault P S o Fold = false
