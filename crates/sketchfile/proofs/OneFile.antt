-- A sketch has one sketch file: reading the written file gives the sketch back, and writing an accepted file's sketch gives the same bytes.
use mathlib.Core.Path.{◌≡◌, refl, sym, ap, ap₂, ◌∙◌}
use mathlib.Core.List.{List}
use Prim.Native.Nat.{ℕ, ◌≤◌, ◌<◌}
use native.Mathlib.Omega.{arith}
use lib.ListN.{length, get_or, take}
use Rattle.params.specs.declared.params.Params.{Params}
use Rattle.params.specs.Params.{size}
use Rattle.sketch.specs.Sketch.{Sketch}
use Rattle.params.specs.declared.answers.Refusal.{Refusal}
use Rattle.params.specs.Answers.{kept, Answer, Done, Refused, Given, given}
use Rattle.params.proofs.Judging.{kept_new}
use Rattle.files.proofs.Overwriting.{written_front}
use Rattle.sketchfile.specs.Reading.{sketch_answer, sketch_in, SketchRead}
use Rattle.sketchfile.specs.Writing.{sketch_bytes, sketch_write_answer, SketchWritten}
use Rattle.sketchfile.proofs.Written.{Writable, writing_done}
use Rattle.sketchfile.proofs.Accepting.{writable_done, file_accepted, file_content, accepted}
use Rattle.std.specs.Prelude.{Ok}

-- reading the written file gives the sketch back
pub read_written : {P : Params} {S T T' : Sketch} {out out' : List ℕ} {n : ℕ} {r : Answer} → SketchWritten P S out (Ok n) out' → SketchRead P (take n out') T r T'
    → length T.counts ≡ size P → length T.idsums ≡ size P → (r ≡ Done) × (T' ≡ S)
read_written {P} {S} {T} {T'} {out} {out'} {n} {r} w q c s =
    let wrote = written_front (sketch_write_answer P S (length out)) out (sketch_bytes P S) w.answer w.bytes in
    let able = (writing_done P S (length out) wrote.0).0 in
    let front = wrote.1 in
    let judged = ap (λ (bs : List ℕ). sketch_answer P bs (length T.counts) (length T.idsums)) front in
    let done : r ≡ Done = q.answer ∙ judged ∙ file_accepted P S able (length T.counts) (length T.idsums) c s in
    (done, q.content ∙ sym (kept_new r T (sketch_in P (take n out')) done) ∙ ap (sketch_in P) front ∙ file_content P S able)

-- an accepted file is the file of the sketch that was read, which can be written
file_of : {P : Params} {bs : List ℕ} {T T' : Sketch} → ((k : ℕ) → get_or bs k 0 < 256) → SketchRead P bs T Done T' → Writable P T' × (sketch_bytes P T' ≡ bs)
file_of {P} {bs} {T} {T'} small q =
    let read : T' ≡ sketch_in P bs = q.content ∙ sym (kept_new Done T (sketch_in P bs) refl) in
    rw read (accepted P bs (length T.counts) (length T.idsums) small (sym q.answer))

pub same_file : {P : Params} {bs : List ℕ} {T T' : Sketch} → ((k : ℕ) → get_or bs k 0 < 256) → SketchRead P bs T Done T' → sketch_bytes P T' ≡ bs
same_file small q = (file_of small q).1

-- writing an accepted file's sketch gives the same bytes
pub written_read : {P : Params} {bs : List ℕ} {T T' : Sketch} {out out' : List ℕ} {r : Given ℕ} → ((k : ℕ) → get_or bs k 0 < 256) → SketchRead P bs T Done T'
    → SketchWritten P T' out r out' → length bs ≤ length out → (r ≡ Ok (length bs)) × (take (length bs) out' ≡ bs)
written_read {P} {bs} {T} {T'} {out} {out'} {r} small q w l =
    let f = file_of small q in
    let same : sketch_bytes P T' ≡ bs = f.1 in
    let long : length (sketch_bytes P T') ≡ length bs = ap length same in
    let done = writable_done P T' (length out) f.0 (omega arith) in
    let returned : r ≡ Ok (length bs) = w.answer ∙ ap₂ given done long in
    (returned, (written_front (sketch_write_answer P T' (length out)) out (sketch_bytes P T') (sym returned ∙ w.answer) w.bytes).1 ∙ same)

-- so two accepted files that read as the same sketch are the same
pub one_file : {P : Params} {bs cs : List ℕ} {S T U : Sketch} → ((k : ℕ) → get_or bs k 0 < 256) → ((k : ℕ) → get_or cs k 0 < 256)
    → SketchRead P bs T Done S → SketchRead P cs U Done S → bs ≡ cs
one_file small small' p q = sym (same_file small p) ∙ same_file small' q

-- a refusal keeps the sketch that was lent
pub refused_keeps : {P : Params} {bs : List ℕ} {T T' : Sketch} {w : Refusal} {k : ℕ} → SketchRead P bs T (Refused w k) T' → T' ≡ T
unfolding kept
refused_keeps q = q.content
