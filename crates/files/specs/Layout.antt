-- The bytes of each record, and what the fields of a body say.
use Rattle.std.specs.Prelude.{cond, List, [], ◌∷◌, ◌++◌, ℕ, eqb, ℤ, get_or, length, None, Option, Some}
use Rattle.params.specs.declared.params.Params.{Params}
use Rattle.params.specs.Params.{fingerprinted}
use Rattle.files.specs.Bytes.{word, word_bytes, count_word, count_of}
use Rattle.files.specs.Records.{body_length, body_of_kind, packets_kind, bucket_kind, end_kind}
use Rattle.files.specs.Heads.{head_kind_of}
use Rattle.files.specs.Fields.{flow_in_body, number_in_body, index_in_body, count_in_body, idsum_in_body, records_in_body}

-- pair i of a head, counted from 0
abbrev pub pair_bytes : Params → ℕ → List ℕ
pair_bytes P i = word_bytes (get_or P.a i 0) ++ word_bytes (get_or P.b i 0)

-- the fifth pair, where there is one
abbrev pub fifth_bytes : Params → List ℕ
fifth_bytes P = cond (fingerprinted P) (word_bytes P.a5 ++ word_bytes P.b5) []

-- a head of a kind up to its fourth pair, and the whole head of a profile
unfoldable pub arrays_bytes : ℕ → Params → List ℕ
arrays_bytes k P = (k ∷ P.d ∷ word_bytes P.m) ++ (pair_bytes P 0 ++ (pair_bytes P 1 ++ (pair_bytes P 2 ++ pair_bytes P 3)))

unfoldable pub head_bytes : Params → List ℕ
head_bytes P = arrays_bytes (head_kind_of P) P ++ fifth_bytes P

-- n packets of flow f
unfoldable pub packet_bytes : ℕ → ℕ → List ℕ
packet_bytes f n = packets_kind ∷ word_bytes f ++ word_bytes n

-- bucket k with its count and its idsum
unfoldable pub bucket_bytes : ℕ → ℤ → ℕ → List ℕ
bucket_bytes k c s = bucket_kind ∷ word_bytes k ++ (word_bytes (count_word c) ++ word_bytes s)

-- the end, after n records
unfoldable pub end_bytes : ℕ → List ℕ
end_bytes n = end_kind ∷ word_bytes n

-- What the fields of a body say, where it has as many bytes as its kind fixes; and of the body of a whole record of the kind at an offset:
-- the flow and the number of packets
unfoldable pub packets_in_body : List ℕ → Option (ℕ × ℕ)
packets_in_body xs = cond (eqb (length xs) (body_length packets_kind)) (Some ((word xs flow_in_body), (word xs number_in_body))) None

unfoldable pub packets_at : List ℕ → ℕ → Option (ℕ × ℕ)
packets_at bs at = packets_in_body (body_of_kind packets_kind bs at)

-- the index, the count and the idsum of a bucket
unfoldable pub bucket_in_body : List ℕ → Option (ℕ × ℤ × ℕ)
bucket_in_body xs =
    cond (eqb (length xs) (body_length bucket_kind)) (Some ((word xs index_in_body), (count_of (word xs count_in_body)), (word xs idsum_in_body))) None

unfoldable pub bucket_at : List ℕ → ℕ → Option (ℕ × ℤ × ℕ)
bucket_at bs at = bucket_in_body (body_of_kind bucket_kind bs at)

-- how many records an end says there were
unfoldable pub end_in_body : List ℕ → Option ℕ
end_in_body xs = cond (eqb (length xs) (body_length end_kind)) (Some (word xs records_in_body)) None

unfoldable pub end_at : List ℕ → ℕ → Option ℕ
end_at bs at = end_in_body (body_of_kind end_kind bs at)
