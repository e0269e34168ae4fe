-- Streams there and back: a written stream holds the packets that it was written from and is read as they are inserted, and an accepted stream is the one that is written from its packets.
use mathlib.Core.Path.{◌≡◌, sym, ap, ap₂, ◌∙◌}
use mathlib.Core.Bool.{false}
use mathlib.Core.List.{List, ◌++◌}
use Prim.Native.Nat.{ℕ, ◌*◌, ◌≤◌, ◌<◌}
use native.Mathlib.Omega.{arith}
use lib.ListN.{length, get_or, take, drop, take-append-drop}
use lib.Seq.{drop-drop}
use Rattle.params.specs.declared.params.Params.{Params}
use Rattle.params.specs.Answers.{number_in, kept, Answer, Done, Given, given}
use Rattle.params.specs.Params.{size}
use Rattle.sketch.specs.Sketch.{Sketch, damaged_at}
use Rattle.sketch.specs.Packets.{after, AllInserted}
use Rattle.params.proofs.Judging.{kept_number}
use Rattle.files.specs.Layout.{end_bytes}
use Rattle.files.specs.Turns.{packet_offset}
use Rattle.files.specs.Records.{packets_kind, head_length_in, packets_length}
use Rattle.files.proofs.HeadTrips.{head_read, opened_length}
use Rattle.files.proofs.RecordTrips.{end_read}
use Rattle.files.proofs.Turning.{whole_within}
use Rattle.files.proofs.Overwriting.{written_front}
use Rattle.streamfile.specs.Streams.{packets_in, flows_in, numbers_in, flows_from, numbers_from, stream_answer, StreamRead}
use Rattle.streamfile.specs.Writing.{stream_bytes, stream_write_answer, StreamWritten}
use Rattle.streamfile.proofs.Found.{length_flows}
use Rattle.streamfile.proofs.Accepting.{stream_done}
use Rattle.streamfile.proofs.PacketTrips.{packets_read}
use Rattle.streamfile.proofs.Sending.{Sendable, sending_done, sendable_done, read_sendable, flows_back, numbers_back, file_number}
use Rattle.std.specs.Prelude.{Ok}

-- packets that were written are fit for it, and their file is the output's front
sent : {P : Params} {fs ns out out' : List ℕ} {n : ℕ} → StreamWritten P fs ns out (Ok n) out' → Sendable P fs ns × (take n out' ≡ stream_bytes P fs ns)
sent {P} {fs} {ns} {out} w =
    let wrote = written_front (stream_write_answer P fs ns (length out)) out (stream_bytes P fs ns) w.answer w.bytes in
    (sending_done P fs ns (length out) wrote.0, wrote.1)

-- a written stream holds its packets
pub read_written_stream : {P : Params} {fs ns out out' : List ℕ} {n : ℕ} → StreamWritten P fs ns out (Ok n) out' → (flows_in (take n out') ≡ fs) × (numbers_in (take n out') ≡ ns)
read_written_stream {P} {fs} {ns} w =
    let h = sent w in (ap flows_in h.1 ∙ flows_back P fs ns h.0, ap numbers_in h.1 ∙ numbers_back P fs ns h.0)

-- reading it into a sketch without damage is inserting them, save for the offset
pub written_as_inserted : {P : Params} {fs ns out out' : List ℕ} {n : ℕ} {S S' T : Sketch} {r q : Answer} → StreamWritten P fs ns out (Ok n) out' → ((k : ℕ) → k < size P → damaged_at S k ≡ false)
    → StreamRead P (take n out') S r S' → AllInserted P fs ns S q T → (number_in r ≡ number_in q) × (S' ≡ T)
written_as_inserted {P} {fs} {ns} {out} {out'} {n} {S} {S'} {T} {r} {q} w undamaged read inserted =
    let h = sent w in
    let held = read_written_stream w in
    let judged = read.answer ∙ ap (λ (bs : List ℕ). stream_answer P bs S) h.1 in
    let number : number_in r ≡ number_in q = ap number_in judged ∙ file_number P fs ns h.0 S undamaged ∙ ap number_in (sym inserted.answer) in
    let left = ap₂ (λ (fs ns : List ℕ). kept r S (after P fs ns S)) held.0 held.1 ∙ kept_number r q S (after P fs ns S) number in
    (number, read.after_all ∙ left ∙ sym inserted.after_all)

-- an accepted stream is the one that is written from its packets
pub written_read_stream : {P : Params} {bs : List ℕ} {S S' : Sketch} → ((k : ℕ) → get_or bs k 0 < 256) → StreamRead P bs S Done S' → stream_bytes P (flows_in bs) (numbers_in bs) ≡ bs
unfolding stream_bytes flows_from numbers_from
written_read_stream {P} {bs} {S} small read =
    let n = packets_in bs in
    let done = stream_done P bs S (sym read.answer) in
    let first : ℕ = head_length_in bs in
    let start : packet_offset bs 0 ≡ first = omega arith in
    let head = head_read bs small P done.opened.head done.opened.file_good done.opened.same ∙ ap (λ (o : ℕ). take o bs) (sym (opened_length done.opened)) in
    let packets = packets_read bs 0 n small (λ j l. whole_within packets_kind (packet_offset bs) bs j (omega arith)) ∙ ap (λ (o : ℕ). take (packets_length * n) (drop o bs)) start in
    let end = ap end_bytes (length_flows (head_length_in bs) bs) ∙ (end_read bs (packet_offset bs n) n small done.ended).1 in
    ap₂ {C = List ℕ} ◌++◌ head (ap₂ {C = List ℕ} ◌++◌ packets (end ∙ sym (drop-drop (packets_length * n) first bs)) ∙ take-append-drop (packets_length * n) (drop first bs)) ∙ take-append-drop first bs

-- and writing them gives it again
pub written_again : {P : Params} {bs : List ℕ} {S S' : Sketch} {out out' : List ℕ} {r : Given ℕ} → ((k : ℕ) → get_or bs k 0 < 256) → StreamRead P bs S Done S' → packets_in bs ≤ 65536
    → StreamWritten P (flows_in bs) (numbers_in bs) out r out' → length bs ≤ length out → (r ≡ Ok (length bs)) × (take (length bs) out' ≡ bs)
written_again {P} {bs} {S} {S'} {out} {out'} {r} small read few w l =
    let file = stream_bytes P (flows_in bs) (numbers_in bs) in
    let same : file ≡ bs = written_read_stream small read in
    let long : length file ≡ length bs = ap length same in
    let able = read_sendable (stream_done P bs S (sym read.answer)) few in
    let done = sendable_done P (flows_in bs) (numbers_in bs) (length out) able (omega arith) in
    let returned : r ≡ Ok (length bs) = w.answer ∙ ap₂ given done long in
    (returned, (written_front (stream_write_answer P (flows_in bs) (numbers_in bs) (length out)) out file (sym returned ∙ w.answer) w.bytes).1 ∙ same)

-- so two accepted streams of the same packets are the same
pub one_stream : {P : Params} {bs cs : List ℕ} {S S' T T' : Sketch} → ((k : ℕ) → get_or bs k 0 < 256) → ((k : ℕ) → get_or cs k 0 < 256) → StreamRead P bs S Done S' → StreamRead P cs T Done T'
    → flows_in bs ≡ flows_in cs → numbers_in bs ≡ numbers_in cs → bs ≡ cs
one_stream {P} small small' r q e f = sym (written_read_stream small r) ∙ ap₂ (stream_bytes P) e f ∙ written_read_stream small' q
