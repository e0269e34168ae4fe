-- A stream file read into a sketch: a head, any number of packet records, an end.
use Rattle.std.specs.Prelude.{◌≡◌, false, List, ℕ, ◌+◌, length, take}
use Rattle.params.specs.declared.params.Params.{Params}
use Rattle.params.specs.declared.answers.Refusal.TheVariants.{Damage}
use Rattle.params.specs.Lists.{from}
use Rattle.params.specs.Answers.{refuse_at, first, kept, Answer}
use Rattle.params.specs.Params.{size, lengths_answer}
use Rattle.sketch.specs.Sketch.{Sketch, damaged_at}
use Rattle.sketch.specs.Packets.{step_answer, after}
use Rattle.files.specs.Bytes.{word}
use Rattle.files.specs.Heads.{parameters_answer}
use Rattle.files.specs.Turns.{at_offset, in_turn, packet_from, packet_offset, records_of, end_answer}
use Rattle.files.specs.Records.{packets_kind, head_length_in}
use Rattle.files.specs.Fields.{flow_field, number_field}

-- how many packet records stand from an offset o on, and the flow and the number in the k-th, counted from 0
abbrev pub packets_from : ℕ → List ℕ → ℕ
packets_from o bs = records_of packets_kind (packet_from o) bs

abbrev pub flow_from : ℕ → List ℕ → ℕ → ℕ
flow_from o bs k = word bs (packet_from o k + flow_field)

abbrev pub number_from : ℕ → List ℕ → ℕ → ℕ
number_from o bs k = word bs (packet_from o k + number_field)

-- all their flows, and all their numbers
unfoldable pub flows_from : ℕ → List ℕ → List ℕ
flows_from o bs = from 0 (packets_from o bs) (flow_from o bs)

unfoldable pub numbers_from : ℕ → List ℕ → List ℕ
numbers_from o bs = from 0 (packets_from o bs) (number_from o bs)

-- in a stream they stand after the head
abbrev pub packets_in : List ℕ → ℕ
packets_in bs = packets_from (head_length_in bs) bs

abbrev pub packet_flow : List ℕ → ℕ → ℕ
packet_flow bs k = flow_from (head_length_in bs) bs k

abbrev pub packet_number : List ℕ → ℕ → ℕ
packet_number bs k = number_from (head_length_in bs) bs k

abbrev pub flows_in : List ℕ → List ℕ
flows_in bs = flows_from (head_length_in bs) bs

abbrev pub numbers_in : List ℕ → List ℕ
numbers_in bs = numbers_from (head_length_in bs) bs

-- the sketch that the first k records leave, and what is refused of the k-th, which goes into it
abbrev pub after_first : Params → List ℕ → ℕ → Sketch → Sketch
after_first P bs k S = after P (take k (flows_in bs)) (take k (numbers_in bs)) S

unfoldable pub packet_judged : Params → List ℕ → Sketch → ℕ → Answer
packet_judged P bs S k = at_offset (packet_offset bs k) (step_answer P false (packet_flow bs k) (packet_number bs k) (after_first P bs k S))

-- the records after the head: the earliest at fault decides
unfoldable pub packets_judged : Params → List ℕ → Sketch → Answer
packets_judged P bs S =
    first (in_turn 0 (packets_in bs) (packet_judged P bs S))
    (end_answer bs (packet_offset bs (packets_in bs)) (packets_in bs))

-- the head and the parameters, the lengths, damage anywhere in the sketch, the records
unfoldable pub stream_answer : Params → List ℕ → Sketch → Answer
stream_answer P bs S =
    first (parameters_answer P bs)
    (first (lengths_answer P (length S.counts) (length S.idsums))
    (refuse_at (size P) (damaged_at S) Damage
    (packets_judged P bs S)))

-- the packets in turn, into a sketch whose damage is judged already
pub record RecordsRead (P : Params) (bs : List ℕ) (S : Sketch) (r : Answer) (S' : Sketch) : Type 0 where
  pub answer : r ≡ packets_judged P bs S
  pub after_all : S' ≡ kept r S (after P (flows_in bs) (numbers_in bs) S)

pub record StreamRead (P : Params) (bs : List ℕ) (S : Sketch) (r : Answer) (S' : Sketch) : Type 0 where
  pub answer : r ≡ stream_answer P bs S
  pub after_all : S' ≡ kept r S (after P (flows_in bs) (numbers_in bs) S)
