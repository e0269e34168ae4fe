-- Records of an upstream stream and, directly after it, of a downstream one, as they come.
use Rattle.std.specs.Prelude.{◌≡◌, Bool, true, false, not, cond, ◌&&◌, List, ℕ, ◌+◌, ◌-◌, ◌*◌, eqb, ltb, leb, length, get_or, take, drop, Err}
use Rattle.params.specs.declared.params.Params.{Params}
use Rattle.params.specs.declared.answers.Refusal.{Refusal}
use Rattle.params.specs.declared.answers.Refusal.TheVariants.{Param, Mismatch, Form}
use Rattle.params.specs.Lists.{least}
use Rattle.params.specs.Answers.{refuse_if, first, kept, Answer, Done, Refused, Given, given}
use Rattle.params.specs.Params.{size, same_params, lent_answer}
use Rattle.sketch.specs.Sketch.{Sketch}
use Rattle.sketch.specs.Packets.{step_answer, after}
use Rattle.files.specs.Bytes.{word}
use Rattle.files.specs.Records.{record_at, is_kind, packets_kind, end_kind, packets_length, end_length, head_kind_in}
use Rattle.files.specs.Heads.{head_length_of, params_in, good_head, head_answer}
use Rattle.files.specs.Fields.{records_field}
use Rattle.streamfile.specs.Streams.{packets_from, flow_from, number_from, flows_from, numbers_from}
use Rattle.desk.specs.declared.states.Stage.{Stage}
use Rattle.desk.specs.declared.states.Stage.TheVariants.{UpstreamPackets, DownstreamHead, DownstreamPackets, Nothing, Refused as Stopped}
use Rattle.desk.specs.declared.states.State.{State}
use Rattle.desk.specs.declared.stages.Due.{Due}
use Rattle.desk.specs.declared.stages.Due.TheVariants.{Here, NotYet, Other}
use Rattle.desk.specs.declared.states.Fed.{Fed}

-- a desk takes sketches of at most so many buckets
abbrev pub most_buckets : ℕ
most_buckets = 1536

-- the first head of the input: as that of any file, and of few enough buckets
unfoldable pub few_enough : Params → Bool
few_enough P = leb (size P) most_buckets

unfoldable pub begin_answer : List ℕ → Answer
begin_answer bs = first (head_answer bs) (refuse_if (not (few_enough (params_in bs))) Param 0 Done)

abbrev pub begin_of : List ℕ → Given Params
begin_of bs = given (begin_answer bs) (params_in bs)

-- A state says what is due next, at which offset of the whole input, and how many records stood since the head.
-- Below, bs are the bytes at hand: the first of them is the one at that offset.

-- after the first head, whose parameters are P
abbrev pub started : Params → State
started P = record { stage = UpstreamPackets; at = head_length_of P; records = 0 }

-- refused for what stands next
abbrev pub stopped : Refusal → State → State
stopped w s = record { stage = Stopped w; at = s.at; records = s.records }

-- packets of the downstream stream, or of the upstream one, are due; packets of either; a head; nothing more
abbrev pub is_due : Bool → Stage → Bool
is_due downstream UpstreamPackets = not downstream
is_due downstream DownstreamHead = false
is_due downstream DownstreamPackets = downstream
is_due downstream Nothing = false
is_due downstream (Stopped w) = false

abbrev pub packets_due : Stage → Bool
packets_due UpstreamPackets = true
packets_due DownstreamHead = false
packets_due DownstreamPackets = true
packets_due Nothing = false
packets_due (Stopped w) = false

abbrev pub head_due : Stage → Bool
head_due UpstreamPackets = false
head_due DownstreamHead = true
head_due DownstreamPackets = false
head_due Nothing = false
head_due (Stopped w) = false

abbrev pub nothing_due : Stage → Bool
nothing_due UpstreamPackets = false
nothing_due DownstreamHead = false
nothing_due DownstreamPackets = false
nothing_due Nothing = true
nothing_due (Stopped w) = false

-- what is due after packets with this answer: still packets or an end, unless one was refused
unfoldable pub stage_after : Stage → Answer → Stage
stage_after g Done = g
stage_after g (Err r) = Stopped r.0

-- what is due after the end of a stream
abbrev pub after_end : Stage → Stage
after_end UpstreamPackets = DownstreamHead
after_end DownstreamHead = DownstreamHead
after_end DownstreamPackets = Nothing
after_end Nothing = Nothing
after_end (Stopped w) = Stopped w

abbrev pub refuses : Answer → Bool
refuses Done = false
refuses (Err r) = true

-- the answer for the k-th of the packet records at hand, which goes into the sketch that those before it left
unfoldable pub record_answer : Params → List ℕ → Sketch → ℕ → Answer
record_answer P bs S k =
    step_answer P false (flow_from 0 bs k) (number_from 0 bs k) (after P (take k (flows_from 0 bs)) (take k (numbers_from 0 bs)) S)

-- how many of them are accepted, up to the first that is refused; and that one's answer
unfoldable pub taken : Params → List ℕ → Sketch → ℕ
taken P bs S = least 0 (packets_from 0 bs) (λ k. refuses (record_answer P bs S k))

unfoldable pub taken_answer : Params → List ℕ → Sketch → Answer
taken_answer P bs S = cond (ltb (taken P bs S) (packets_from 0 bs)) (record_answer P bs S (taken P bs S)) Done

unfoldable pub after_taken : Params → List ℕ → Sketch → Sketch
after_taken P bs S = after P (take (taken P bs S) (flows_from 0 bs)) (take (taken P bs S) (numbers_from 0 bs)) S

-- the packet records at hand, where packets are due
unfoldable pub packets_state : Params → List ℕ → Sketch → State → State
packets_state P bs S s =
    record {
      stage = stage_after s.stage (taken_answer P bs S);
      at = s.at + packets_length * taken P bs S;
      records = s.records + taken P bs S;
    }

-- what stands first, where a record of a kind is due: that record, whole; not yet all of it; or something else
unfoldable pub due_of : ℕ → List ℕ → Due
due_of kind bs =
    cond (leb (length bs) 0) NotYet
    (cond (is_kind kind (record_at bs 0)) Here
    (cond (eqb (get_or bs 0 0) kind) NotYet Other))

-- where packets are due, an end may stand, and packets that are not whole yet may
unfoldable pub due_end : List ℕ → Due
due_end bs = cond (not (leb (length bs) 0) && eqb (get_or bs 0 0) packets_kind) NotYet (due_of end_kind bs)

-- the end of a stream, which says how many records there were
abbrev pub ended_state : State → State
ended_state s = record { stage = after_end s.stage; at = s.at + end_length; records = 0 }

abbrev pub end_state : Due → List ℕ → State → State
end_state NotYet bs s = s
end_state Other bs s = stopped Form s
end_state Here bs s = cond (eqb (word bs records_field) s.records) (ended_state s) (stopped Form s)

-- where a head is due, one of either profile may stand: the one that the first byte says
unfoldable pub due_head : List ℕ → Due
due_head bs = due_of (head_kind_in bs) bs

-- the downstream head
unfoldable pub downstream_head_answer : Params → List ℕ → Answer
downstream_head_answer P bs =
    refuse_if (not (good_head bs && few_enough (params_in bs))) Param 0
    (refuse_if (not (same_params P (params_in bs))) Mismatch 0
    Done)

abbrev pub headed_state : Params → State → State
headed_state P s = record { stage = DownstreamPackets; at = s.at + head_length_of P; records = 0 }

abbrev pub answered : Answer → State → State → State
answered Done s next = next
answered (Err r) s next = stopped r.0 s

abbrev pub head_state : Due → Params → List ℕ → State → State
head_state NotYet P bs s = s
head_state Other P bs s = stopped Form s
head_state Here P bs s = answered (downstream_head_answer P bs) s (headed_state P s)

-- The stages, each where it is due.
unfoldable pub packets_stage : Bool → Params → List ℕ → Sketch → State → State
packets_stage downstream P bs S s = cond (is_due downstream s.stage) (packets_state P bs S s) s

unfoldable pub packets_sketch : Bool → Params → List ℕ → Sketch → State → Sketch
packets_sketch downstream P bs S s = cond (is_due downstream s.stage) (after_taken P bs S) S

unfoldable pub end_stage : List ℕ → State → State
end_stage bs s = cond (packets_due s.stage) (end_state (due_end bs) bs s) s

unfoldable pub head_stage : Params → List ℕ → State → State
head_stage P bs s = cond (head_due s.stage) (head_state (due_head bs) P bs s) s

unfoldable pub nothing_stage : List ℕ → State → State
nothing_stage bs s = cond (nothing_due s.stage && not (leb (length bs) 0)) (stopped Form s) s

-- the bytes at hand from a later state on
abbrev pub rest : State → State → List ℕ → List ℕ
rest s t bs = drop (t.at - s.at) bs

-- 64 bits hold the offsets and the numbers of records that these bytes can lead to
unfoldable pub offsets_fit : List ℕ → State → Bool
offsets_fit bs s = ltb (s.at + length bs) 18446744073709551616 && ltb (s.records + length bs) 18446744073709551616

-- what a desk is lent: the parameters, then the lengths of the upstream's sketch and of the downstream's, which has the same parameters
unfoldable pub lent_both : Params → Sketch → Sketch → Answer
lent_both P up down =
    first (lent_answer P (length up.counts) (length up.idsums))
    (lent_answer P (length down.counts) (length down.idsums))

-- refused for what is lent, at the offset where the reading stands; a refusal that was there stays
abbrev pub stage_turned_down : Refusal → Stage → Stage
stage_turned_down w UpstreamPackets = Stopped w
stage_turned_down w DownstreamHead = Stopped w
stage_turned_down w DownstreamPackets = Stopped w
stage_turned_down w Nothing = Stopped w
stage_turned_down w (Stopped v) = Stopped v

abbrev pub turned_down : Refusal → State → State
turned_down w s = record { stage = stage_turned_down w s.stage; at = s.at; records = s.records }

abbrev pub unless_turned_down : Answer → State → State → State
unless_turned_down Done s next = next
unless_turned_down (Err r) s next = turned_down r.0 s

-- the upstream's records and its end, the downstream head, the downstream's records and its end, and nothing more
module _ (P : Params) (bs : List ℕ) (up down : Sketch) (s : State) where
  abbrev pub upstream_taken : State
  upstream_taken = packets_stage false P bs up s

  abbrev pub upstream_ended : State
  upstream_ended = end_stage (rest s upstream_taken bs) upstream_taken

  abbrev pub downstream_headed : State
  downstream_headed = head_stage P (rest s upstream_ended bs) upstream_ended

  abbrev pub downstream_taken : State
  downstream_taken = packets_stage true P (rest s downstream_headed bs) down downstream_headed

  abbrev pub downstream_ended : State
  downstream_ended = end_stage (rest s downstream_taken bs) downstream_taken

  abbrev pub fed_state : State
  fed_state = nothing_stage (rest s downstream_ended bs) downstream_ended

  -- what is then taken: all whole records of the bytes at hand; a state out of reach takes nothing
  pub record TakesRecords (r : Fed) (up' down' : Sketch) : Type 0 where
    pub state : r.state ≡ cond (offsets_fit bs s) fed_state s
    pub used : r.used ≡ r.state.at - s.at
    pub upstream : up' ≡ cond (offsets_fit bs s) (packets_sketch false P bs up s) up
    pub downstream : down' ≡ cond (offsets_fit bs s) (packets_sketch true P (rest s downstream_headed bs) down downstream_headed) down

  -- what feeding answers and leaves: what is lent is judged first, and where it is refused nothing is used and no sketch altered
  pub record Feeds (r : Fed) (up' down' : Sketch) : Type 0 where
    pub state : r.state ≡ unless_turned_down (lent_both P up down) s (cond (offsets_fit bs s) fed_state s)
    pub used : r.used ≡ r.state.at - s.at
    pub upstream : up' ≡ kept (lent_both P up down) up (cond (offsets_fit bs s) (packets_sketch false P bs up s) up)
    pub downstream : down' ≡ kept (lent_both P up down) down (cond (offsets_fit bs s) (packets_sketch true P (rest s downstream_headed bs) down downstream_headed) down)

-- the end of the input: nothing more was due, or a record is cut or missing
abbrev pub finish_answer : Stage → ℕ → Answer
finish_answer Nothing at = Done
finish_answer (Stopped w) at = Refused w at
finish_answer UpstreamPackets at = Refused Form at
finish_answer DownstreamHead at = Refused Form at
finish_answer DownstreamPackets at = Refused Form at
