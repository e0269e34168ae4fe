-- Refusals of a stream's reader and writer as a caller gets them: by the answer of a call, of whatever function meets its contract.
use mathlib.Core.Path.{◌≡◌, refl, sym, ap, ◌∙◌}
use mathlib.Core.Bool.{true, false, false≢true}
use mathlib.Core.List.{List}
use Prim.Native.Nat.{ℕ, ◌≤◌, ◌<◌}
use native.Mathlib.Decide.{dec_lt}
use native.Mathlib.Omega.{arith}
use lib.ListN.{length}
use Rattle.params.specs.declared.params.Params.{Params}
use Rattle.params.specs.declared.answers.Refusal.{Refusal}
use Rattle.params.specs.Answers.{number_of, number_in, index_in, Answer, Done, Refused, Given}
use Rattle.params.specs.Params.{size, good_params}
use Rattle.params.specs.Faults.{order, first_of}
use Rattle.params.proofs.Judging.{number_some}
use Rattle.params.proofs.Lowest.{Lowest}
use Rattle.sketch.specs.Sketch.{Sketch, damaged_at}
use Rattle.sketch.specs.Packets.{step_answer, Accepted}
use Rattle.sketch.specs.Faults.{move_fault}
use Rattle.sketch.proofs.Steps.{move_good}
use Rattle.sketch.proofs.InOrder.{move_number}
use Rattle.files.specs.Records.{head_length_in}
use Rattle.files.specs.Turns.{packet_offset}
use Rattle.files.specs.Faults.{opening_order, opening_fault}
use Rattle.files.proofs.InOrder.{WriterGoesBy, opening_decides}
use Rattle.streamfile.specs.Streams.{packets_in, packet_flow, packet_number, flows_in, numbers_in, after_first, stream_answer, StreamRead}
use Rattle.streamfile.specs.Writing.{stream_bytes, StreamWritten}
use Rattle.streamfile.specs.Faults.{write_fault}
use Rattle.streamfile.proofs.Found.{flow_is, number_is}
use Rattle.streamfile.proofs.Accepting.{stream_opening, StreamDone, stream_done}
use Rattle.streamfile.proofs.InOrder.{PacketFault, StreamFault, in_opening, in_sketch, in_packet, in_end, stream_fault, write_stream_number, write_stream_index, write_stream_length}
use Rattle.std.specs.Prelude.{Ok, Err}

-- What a reader returns: where it refuses nothing, nothing is at fault; a refusal has the number of the first fault, and its place.
pub data StreamReturned (P : Params) (bs : List ℕ) (S : Sketch) : Answer → Type 0 where
  none_refused : StreamDone P bs S → StreamReturned P bs S Done
  refused_for : {w : Refusal} {k : ℕ} → StreamFault P bs S w k → StreamReturned P bs S (Refused w k)

module _ {P : Params} {bs : List ℕ} {S S' : Sketch} where
  pub read_stream_returns : {r : Answer} → StreamRead P bs S r S' → StreamReturned P bs S r
  read_stream_returns {r} h = go r (sym h.answer)
    where
      go : (r : Answer) → stream_answer P bs S ≡ r → StreamReturned P bs S r
      go Done e = none_refused (stream_done P bs S e)
      go (Err r) e = refused_for (stream_fault P bs S r.0 r.1 e)

  -- a fault of the head, of the parameters or of the lengths decides before all others, and 0 goes with it
  pub read_stream_opening : {r : Answer} → StreamRead P bs S r S' → let fault = opening_fault P bs (length S.counts) (length S.idsums) in
      (first_of opening_order fault ≡ 0 → ⊥) → (number_in r ≡ first_of opening_order fault) × (index_in r ≡ 0)
  read_stream_opening h n = opening_decides P bs (length S.counts) (length S.idsums) _ (h.answer ∙ stream_opening P bs S) n

  -- where the opening is right and a bucket of the sketch is damaged, the number is that of Damage, and the lowest damaged bucket goes with it
  pub read_stream_damage : {r : Answer} → StreamRead P bs S r S' → first_of opening_order (opening_fault P bs (length S.counts) (length S.idsums)) ≡ 0
      → (j : ℕ) → j < size P → damaged_at S j ≡ true → (number_in r ≡ 5) × Lowest (size P) (damaged_at S) (index_in r)
  read_stream_damage {r} h right j l d = go r (read_stream_returns h)
    where
      go : (r : Answer) → StreamReturned P bs S r → (number_in r ≡ 5) × Lowest (size P) (damaged_at S) (index_in r)
      go Done (none_refused x) = absurd (false≢true (sym (x.undamaged j l) ∙ d))
      go (Err r) (refused_for (in_opening e z)) = absurd (number_some r.0 (e ∙ right))
      go (Err r) (refused_for (in_sketch o e low)) = (ap number_of e, low)
      go (Err r) (refused_for (in_packet o undamaged f)) = absurd (false≢true (sym (undamaged j l) ∙ d))
      go (Err r) (refused_for (in_end o undamaged a e f)) = absurd (false≢true (sym (undamaged j l) ∙ d))

-- the first of the faults of the j-th packet, which goes into what those before it left
abbrev pub packet_fault : Params → List ℕ → Sketch → ℕ → ℕ
packet_fault P bs S j = first_of order (move_fault P false (packet_flow bs j) (packet_number bs j) (after_first P bs j S))

module _ (P : Params) (bs : List ℕ) (S : Sketch) where
  -- packets that were accepted have none
  faultless : good_params P ≡ true → (i : ℕ) → i ≤ packets_in bs → Accepted P (flows_in bs) (numbers_in bs) S i → (j : ℕ) → j < i → packet_fault P bs S j ≡ 0
  faultless good i h accepted j l =
      let one : j < packets_in bs = omega arith in
      let done : step_answer P false (packet_flow bs j) (packet_number bs j) (after_first P bs j S) ≡ Done = rw (flow_is (head_length_in bs) bs j one, number_is (head_length_in bs) bs j one) (accepted j l) in
      sym (move_number P false (packet_flow bs j) (packet_number bs j) (after_first P bs j S)) ∙ ap number_in (move_good P false (packet_flow bs j) (packet_number bs j) (after_first P bs j S) good ∙ done)

module _ {P : Params} {bs : List ℕ} {S S' : Sketch} where
  -- the earliest packet at fault decides: the number is that of the first of its faults, and its offset goes with it
  pub read_stream_packet : {r : Answer} → StreamRead P bs S r S' → first_of opening_order (opening_fault P bs (length S.counts) (length S.idsums)) ≡ 0
      → ((j : ℕ) → j < size P → damaged_at S j ≡ false) → (k : ℕ) → k < packets_in bs → Accepted P (flows_in bs) (numbers_in bs) S k
      → (packet_fault P bs S k ≡ 0 → ⊥) → (number_in r ≡ packet_fault P bs S k) × (index_in r ≡ packet_offset bs k)
  read_stream_packet {r} h right undamaged k l accepted n = go r (read_stream_returns h)
    where
      here : (w : Refusal) (at : ℕ) → good_params P ≡ true → (f : PacketFault P bs S w at) → Dec (f.which < k) → Dec (k < f.which) → (number_of w ≡ packet_fault P bs S k) × (at ≡ packet_offset bs k)
      here w at good f (yes lower) e = absurd (number_some w (f.number ∙ faultless P bs S good k (omega arith) accepted f.which lower))
      here w at good f (no lower) (yes higher) = absurd (n (faultless P bs S good f.which (omega (arith, f.one)) f.accepted k higher))
      here w at good f (no lower) (no higher) = let same : f.which ≡ k = omega arith in (f.number ∙ ap (packet_fault P bs S) same, f.place ∙ ap (packet_offset bs) same)

      go : (r : Answer) → StreamReturned P bs S r → (number_in r ≡ packet_fault P bs S k) × (index_in r ≡ packet_offset bs k)
      go Done (none_refused x) = absurd (n (faultless P bs S x.opened.good (packets_in bs) (omega arith) x.accepted k l))
      go (Err r) (refused_for (in_opening e z)) = absurd (number_some r.0 (e ∙ right))
      go (Err r) (refused_for (in_sketch o e low)) = absurd (false≢true (sym (undamaged r.1 low.inside) ∙ low.here))
      go (Err r) (refused_for (in_packet o u f)) = here r.0 r.1 o.good f (dec_lt f.which k) (dec_lt k f.which)
      go (Err r) (refused_for (in_end o u a e f)) = absurd (n (faultless P bs S o.good (packets_in bs) (omega arith) a k l))

-- what a writer returns
module _ {P : Params} {fs ns out out' : List ℕ} where
  pub write_stream_goes_by : {r : Given ℕ} → StreamWritten P fs ns out r out' → WriterGoesBy (write_fault P fs ns (length out)) r
  write_stream_goes_by h = record { number = write_stream_number h; index = λ n. write_stream_index h }

  -- where it returns a length nothing is at fault, and that is the file's
  pub write_stream_bytes : {n : ℕ} → StreamWritten P fs ns out (Ok n) out' → (first_of order (write_fault P fs ns (length out)) ≡ 0) × (n ≡ length (stream_bytes P fs ns))
  write_stream_bytes h = (sym (write_stream_number h), write_stream_length h refl)
