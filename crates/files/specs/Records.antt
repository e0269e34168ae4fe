-- Records: one byte of kind, then a body whose length the kind fixes.
use Rattle.std.specs.Prelude.{Bool, false, cond, ◌||◌, ◌≡◌, List, [], ℕ, ◌+◌, ◌-◌, eqb, leb, get_or, length, take, drop}
use Rattle.params.specs.declared.answers.Refusal.TheVariants.{Form}
use Rattle.params.specs.Answers.{number_of}
use Rattle.files.specs.declared.records.Record.{Record}
use Rattle.files.specs.declared.records.Record.TheVariants.{Whole, Cut, Unknown, Missing}

-- the kinds: a head of the plain profile, packets, a bucket, an end, and a head with the fifth pair
abbrev pub head_kind : ℕ
head_kind = 1

abbrev pub packets_kind : ℕ
packets_kind = 2

abbrev pub bucket_kind : ℕ
bucket_kind = 3

abbrev pub end_kind : ℕ
end_kind = 4

abbrev pub extended_head_kind : ℕ
extended_head_kind = 10

-- how many bytes a body of a kind has; 0 for a kind that is not known
abbrev pub body_length : ℕ → ℕ
body_length k =
    cond (eqb k head_kind) 37
    (cond (eqb k packets_kind) 8
    (cond (eqb k bucket_kind) 12
    (cond (eqb k end_kind) 4
    (cond (eqb k extended_head_kind) 45 0))))

-- and a whole record
abbrev pub record_length : ℕ → ℕ
record_length k = 1 + body_length k

-- the kind of the head in a file, by its first byte, and its length
abbrev pub head_kind_in : List ℕ → ℕ
head_kind_in bs = cond (eqb (get_or bs 0 0) extended_head_kind) extended_head_kind head_kind

unfoldable pub head_length_in : List ℕ → ℕ
head_length_in bs = record_length (head_kind_in bs)

abbrev pub packets_length : ℕ
packets_length = record_length packets_kind

abbrev pub bucket_length : ℕ
bucket_length = record_length bucket_kind

abbrev pub end_length : ℕ
end_length = record_length end_kind

-- what stands at an offset of the file
unfoldable pub record_at : List ℕ → ℕ → Record
record_at bs at =
    cond (leb (length bs) at) Missing
    (cond (eqb (body_length (get_or bs at 0)) 0) Unknown
    (cond (leb (length bs - at) (body_length (get_or bs at 0))) Cut
    (Whole (get_or bs at 0) (at + 1 + body_length (get_or bs at 0)))))

-- a whole record of a kind stands there
abbrev pub is_kind : ℕ → Record → Bool
is_kind k (Whole j next) = eqb j k
is_kind k Cut = false
is_kind k Unknown = false
is_kind k Missing = false

-- a whole head of either profile stands there
abbrev pub is_head : Record → Bool
is_head r = is_kind head_kind r || is_kind extended_head_kind r

-- the offset that goes with a fault of a record: its kind byte, or the file's length where it is due and missing
abbrev pub offset_of : List ℕ → ℕ → ℕ
offset_of bs at = cond (leb (length bs) at) (length bs) at

-- the caller's number: FORM for all but a whole record; and the offset that goes with it: that of its kind byte, or the file's length where nothing stands
abbrev pub record_number : Record → ℕ
record_number (Whole k next) = 0
record_number Cut = number_of Form
record_number Unknown = number_of Form
record_number Missing = number_of Form

abbrev pub record_offset : Record → ℕ → List ℕ → ℕ
record_offset (Whole k next) at bs = 0
record_offset Cut at bs = at
record_offset Unknown at bs = at
record_offset Missing at bs = length bs

-- the body of a record that stands at an offset, empty where it is not whole, and how many bytes of the file stand before it
unfoldable pub body_of : Record → ℕ → List ℕ → List ℕ
body_of (Whole k next) at bs = take (next - (at + 1)) (drop (at + 1) bs)
body_of Cut at bs = []
body_of Unknown at bs = []
body_of Missing at bs = []

unfoldable pub body_start : Record → ℕ → ℕ
body_start (Whole k next) at = at + 1
body_start Cut at = 0
body_start Unknown at = 0
body_start Missing at = 0

-- the bytes where the body of a record of a kind stands, after its kind byte; and the body of a whole record of that kind, empty where none stands there
unfoldable pub body_from : ℕ → List ℕ → ℕ → List ℕ
body_from k bs at = take (body_length k) (drop (at + 1) bs)

unfoldable pub body_of_kind : ℕ → List ℕ → ℕ → List ℕ
body_of_kind k bs at = cond (is_kind k (record_at bs at)) (body_from k bs at) []

-- the file is at `whole` and has the bytes bs; the body is at `part` and has the bytes xs. A place in memory is a block and an offset in it.
pub record Body (at : ℕ) (whole : ℕ × ℕ) (bs : List ℕ) (part : ℕ × ℕ) (xs : List ℕ) : Type 0 where
  pub content : xs ≡ body_of (record_at bs at) at bs
  pub block : part.0 ≡ whole.0
  pub offset : part.1 ≡ whole.1 + body_start (record_at bs at) at

pub record KindBody (k at : ℕ) (whole : ℕ × ℕ) (bs : List ℕ) (part : ℕ × ℕ) (xs : List ℕ) : Type 0 where
  pub content : xs ≡ body_of_kind k bs at
  pub block : part.0 ≡ whole.0
  pub offset : part.1 ≡ whole.1 + cond (is_kind k (record_at bs at)) (at + 1) 0
