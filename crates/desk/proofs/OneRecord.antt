-- The reading record by record: what one record makes of a moment of it, and when more bytes are waited for.
use mathlib.Core.Path.{◌≡◌, refl, ap}
use mathlib.Core.Bool.{Bool, true, false, not, cond, ◌&&◌, true≢false}
use mathlib.Core.List.{List, ◌++◌}
use Prim.Native.Nat.{ℕ, ◌+◌, ◌-◌}
use native.Mathlib.Omega.{arith}
use borrow.Author.Tests.{leb-false}
use lib.Dec.{leb}
use lib.ListN.{length}
use Rattle.params.specs.declared.params.Params.{Params}
use Rattle.params.specs.Answers.{kept, Answer, Done}
use Rattle.sketch.specs.Sketch.{Sketch}
use Rattle.sketch.specs.Packets.{step_answer, changed}
use Rattle.files.specs.Bytes.{word}
use Rattle.files.specs.Records.{record_at, is_kind, packets_kind, packets_length}
use Rattle.files.specs.Fields.{flow_field, number_field}
use Rattle.desk.proofs.Whole.{whole_record}
use Rattle.desk.specs.declared.states.Stage.{Stage}
use Rattle.desk.specs.declared.states.Stage.TheVariants.{UpstreamPackets, DownstreamHead, DownstreamPackets, Nothing, Refused as Stopped}
use Rattle.desk.specs.declared.states.State.{State}
use Rattle.desk.specs.Desk.{stopped, due_end, due_head, end_stage, head_stage, nothing_stage}
use Rattle.desk.proofs.Onward.{Onward, onward_here, end_onward, head_onward, nothing_onward}
use Rattle.desk.proofs.MoreBytes.{not_yet, word_more, whole_more, end_more, head_more, nothing_more}
use Rattle.std.specs.Prelude.{Err}

-- a moment of the reading: its state and the two sketches
pub record Moment : Type 0 where
  pub state : State
  pub up : Sketch
  pub down : Sketch

-- the same sketches in another state
abbrev pub into : State → Moment → Moment
into t k = record { state = t; up = k.up; down = k.down }

-- the sketch of the downstream stream or of the upstream one, and a moment with another one
abbrev pub lent : Bool → Moment → Sketch
lent false k = k.up
lent true k = k.down

abbrev pub put_in : Bool → State → Sketch → Moment → Moment
put_in false t S k = record { state = t; up = S; down = k.down }
put_in true t S k = record { state = t; up = k.up; down = S }

-- a packet that stands first goes into a sketch
abbrev pub packet_answered : Answer → State → State
packet_answered Done s = record { stage = s.stage; at = s.at + packets_length; records = s.records + 1 }
packet_answered (Err r) s = stopped r.0 s

abbrev pub packet_first : Params → List ℕ → Sketch → Answer
packet_first P bs S = step_answer P false (word bs flow_field) (word bs number_field) S

abbrev pub packet_left : Params → List ℕ → Sketch → Sketch
packet_left P bs S = kept (packet_first P bs S) S (changed P false (word bs flow_field) (word bs number_field) S)

abbrev pub packet_move : Bool → Params → List ℕ → Moment → Moment
packet_move downstream P bs k = put_in downstream (packet_answered (packet_first P bs (lent downstream k)) k.state) (packet_left P bs (lent downstream k)) k

-- one record, by what is due
unfoldable pub one_at : Stage → Params → List ℕ → Moment → Moment
one_at UpstreamPackets P bs k = cond (is_kind packets_kind (record_at bs 0)) (packet_move false P bs k) (into (end_stage bs k.state) k)
one_at DownstreamHead P bs k = into (head_stage P bs k.state) k
one_at DownstreamPackets P bs k = cond (is_kind packets_kind (record_at bs 0)) (packet_move true P bs k) (into (end_stage bs k.state) k)
one_at Nothing P bs k = into (nothing_stage bs k.state) k
one_at (Stopped w) P bs k = k

abbrev pub one : Params → List ℕ → Moment → Moment
one P bs k = one_at k.state.stage P bs k

-- nothing can be said of what stands first until there are more bytes
unfoldable pub waits_at : Stage → List ℕ → Bool
waits_at UpstreamPackets bs = not (is_kind packets_kind (record_at bs 0)) && not_yet (due_end bs)
waits_at DownstreamHead bs = not_yet (due_head bs)
waits_at DownstreamPackets bs = not (is_kind packets_kind (record_at bs 0)) && not_yet (due_end bs)
waits_at Nothing bs = leb (length bs) 0
waits_at (Stopped w) bs = true

abbrev pub waits : List ℕ → State → Bool
waits bs s = waits_at s.stage bs

-- one record lies within the bytes
packet_onward : (r : Answer) (bs : List ℕ) (s : State) → is_kind packets_kind (record_at bs 0) ≡ true → Onward bs s (packet_answered r s)
packet_onward Done bs s w = omega (arith, (whole_record bs 0 packets_kind w).1)
packet_onward (Err r) bs s w = omega arith

put_state : (downstream : Bool) (t : State) (S : Sketch) (k : Moment) → (put_in downstream t S k).state ≡ t
put_state false t S k = refl
put_state true t S k = refl

pub one_onward : (P : Params) (bs : List ℕ) (k : Moment) → Onward bs k.state (one P bs k).state
unfolding one_at
one_onward P bs k = at k.state.stage
  where
    packet : (downstream : Bool) → is_kind packets_kind (record_at bs 0) ≡ true → Onward bs k.state (packet_move downstream P bs k).state
    packet downstream w = rw (put_state downstream (packet_answered (packet_first P bs (lent downstream k)) k.state) (packet_left P bs (lent downstream k)) k) (packet_onward (packet_first P bs (lent downstream k)) bs k.state w)

    first : (downstream b : Bool) → is_kind packets_kind (record_at bs 0) ≡ b → Onward bs k.state (cond b (packet_move downstream P bs k) (into (end_stage bs k.state) k)).state
    first downstream true w = packet downstream w
    first downstream false w = end_onward bs k.state

    at : (g : Stage) → Onward bs k.state (one_at g P bs k).state
    at UpstreamPackets = first false (is_kind packets_kind (record_at bs 0)) refl
    at DownstreamHead = head_onward P bs k.state
    at DownstreamPackets = first true (is_kind packets_kind (record_at bs 0)) refl
    at Nothing = nothing_onward bs k.state
    at (Stopped w) = onward_here bs k.state

-- where nothing is waited for, more bytes behind change nothing
pub one_more : (P : Params) (xs ys : List ℕ) (k : Moment) → waits xs k.state ≡ false → (waits (xs ++ ys) k.state ≡ false) × (one P (xs ++ ys) k ≡ one P xs k)
unfolding one_at waits_at
one_more P xs ys k = at k.state.stage
  where
    moved : (downstream : Bool) → is_kind packets_kind (record_at xs 0) ≡ true → packet_move downstream P (xs ++ ys) k ≡ packet_move downstream P xs k
    moved downstream w = let l = (whole_record xs 0 packets_kind w).1 in rw (word_more xs ys flow_field (omega arith), word_more xs ys number_field (omega arith))

    first : (downstream b : Bool) → is_kind packets_kind (record_at xs 0) ≡ b → (not b && not_yet (due_end xs)) ≡ false
        → ((not (is_kind packets_kind (record_at (xs ++ ys) 0)) && not_yet (due_end (xs ++ ys))) ≡ false)
        × (cond (is_kind packets_kind (record_at (xs ++ ys) 0)) (packet_move downstream P (xs ++ ys) k) (into (end_stage (xs ++ ys) k.state) k)
        ≡ cond b (packet_move downstream P xs k) (into (end_stage xs k.state) k))
    first downstream true w h = let v = whole_more xs ys packets_kind (omega arith) w in (rw v, rw v (moved downstream w))
    first downstream false w h = let e = end_more xs ys k.state h in (rw (e.0, e.1) h, rw (e.0, e.2))

    at : (g : Stage) → waits_at g xs ≡ false → (waits_at g (xs ++ ys) ≡ false) × (one_at g P (xs ++ ys) k ≡ one_at g P xs k)
    at UpstreamPackets h = first false (is_kind packets_kind (record_at xs 0)) refl h
    at DownstreamPackets h = first true (is_kind packets_kind (record_at xs 0)) refl h
    at DownstreamHead h = let e = head_more xs ys P k.state h in (rw e.0 h, ap (λ t. into t k) e.1)
    at Nothing h = let e = nothing_more xs ys k.state (leb-false (length xs) 0 h) in (e.0, ap (λ t. into t k) e.1)
    at (Stopped w) h = absurd (true≢false h)
