-- Records one after the other: the earliest at fault decides, then the end.
use Rattle.std.specs.Prelude.{not, List, ℕ, zero, suc, ◌+◌, ◌*◌, eqb, ltb, length, Err}
use Rattle.params.specs.declared.answers.Refusal.TheVariants.{Form}
use Rattle.params.specs.Lists.{least}
use Rattle.params.specs.Answers.{refuse_if, first, Answer, Done, Refused}
use Rattle.files.specs.Bytes.{word}
use Rattle.files.specs.Records.{record_at, is_kind, offset_of, end_kind, head_length_in, packets_length, bucket_length, end_length}
use Rattle.files.specs.Fields.{records_field}

-- a refusal with an offset in place of its index
unfoldable pub at_offset : ℕ → Answer → Answer
at_offset at Done = Done
at_offset at (Err r) = Refused r.0 at

-- the answers for records k, k + 1, .., n of them: the first that refuses decides
unfoldable pub in_turn : ℕ → ℕ → (ℕ → Answer) → Answer
in_turn k zero judge = Done
in_turn k (suc n) judge = first (judge k) (in_turn (suc k) n judge)

-- where the k-th of packet records that begin at an offset stands, counted from 0
abbrev pub packet_from : ℕ → ℕ → ℕ
packet_from o k = o + packets_length * k

-- where the k-th record after the head stands, in a stream and in a sketch file
abbrev pub packet_offset : List ℕ → ℕ → ℕ
packet_offset bs k = packet_from (head_length_in bs) k

abbrev pub bucket_offset : List ℕ → ℕ → ℕ
bucket_offset bs k = head_length_in bs + bucket_length * k

-- how many whole records of a kind stand one after the other at these places
unfoldable pub records_of : ℕ → (ℕ → ℕ) → List ℕ → ℕ
records_of kind place bs = least 0 (length bs) (λ k. not (is_kind kind (record_at bs (place k))))

-- what is due after n records: a whole end that says their number, and no byte after it
unfoldable pub end_answer : List ℕ → ℕ → ℕ → Answer
end_answer bs at n =
    refuse_if (not (is_kind end_kind (record_at bs at))) Form (offset_of bs at)
    (refuse_if (not (eqb (word bs (at + records_field)) n)) Form at
    (refuse_if (ltb (at + end_length) (length bs)) Form (at + end_length)
    Done))
