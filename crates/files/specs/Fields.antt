-- Where the fields of a body stand, counted from its first byte; and those of a record, counted from its kind byte, which stands before the body.
use Rattle.std.specs.Prelude.{ℕ, ◌+◌, ◌*◌}

-- packets: the flow and the number
abbrev pub flow_in_body : ℕ
flow_in_body = 0

abbrev pub number_in_body : ℕ
number_in_body = flow_in_body + 4

abbrev pub flow_field : ℕ
flow_field = 1 + flow_in_body

abbrev pub number_field : ℕ
number_field = 1 + number_in_body

-- a bucket: its index, its count and its idsum
abbrev pub index_in_body : ℕ
index_in_body = 0

abbrev pub count_in_body : ℕ
count_in_body = index_in_body + 4

abbrev pub idsum_in_body : ℕ
idsum_in_body = count_in_body + 4

abbrev pub index_field : ℕ
index_field = 1 + index_in_body

abbrev pub count_field : ℕ
count_field = 1 + count_in_body

abbrev pub idsum_field : ℕ
idsum_field = 1 + idsum_in_body

-- an end: how many records stood since the head
abbrev pub records_in_body : ℕ
records_in_body = 0

abbrev pub records_field : ℕ
records_field = 1 + records_in_body

-- a head: d, m, and pair i, counted from 0, a multiplier and an offset; the fifth pair, of number 4, stands in a head of kind 10 alone
abbrev pub arrays_in_body : ℕ
arrays_in_body = 0

abbrev pub buckets_in_body : ℕ
buckets_in_body = arrays_in_body + 1

abbrev pub multiplier_in_body : ℕ → ℕ
multiplier_in_body i = buckets_in_body + 4 + 8 * i

abbrev pub offset_in_body : ℕ → ℕ
offset_in_body i = multiplier_in_body i + 4

abbrev pub arrays_field : ℕ
arrays_field = 1 + arrays_in_body

abbrev pub buckets_field : ℕ
buckets_field = 1 + buckets_in_body

abbrev pub multiplier_field : ℕ → ℕ
multiplier_field i = 1 + multiplier_in_body i

abbrev pub offset_field : ℕ → ℕ
offset_field i = 1 + offset_in_body i
