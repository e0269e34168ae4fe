-- A history may go through a sketch file: a sketch that was written, and what was written read without a refusal, has the history that it had.
use mathlib.Core.Path.{◌≡◌, refl, sym, ap, ◌∙◌}
use mathlib.Core.Bool.{true}
use mathlib.Core.List.{List}
use Prim.Native.Nat.{ℕ}
use native.Mathlib.Omega.{arith}
use lib.ListN.{length, take}
use lib.Seq.{ext_get_or}
use Rattle.params.specs.declared.params.Params.{Params}
use Rattle.params.specs.Params.{size, same_params}
use Rattle.params.proofs.Judging.{kept_new}
use Rattle.params.proofs.SameParams.{dimensions_same, fifth_same, size_same, pair_same}
use Rattle.sketch.specs.Sketch.{Sketch, Entry, zeros}
use Rattle.sums.specs.History.{History}
use Rattle.files.proofs.HeadTrips.{same_written}
use Rattle.files.proofs.Overwriting.{written_front}
use Rattle.sketchfile.specs.Reading.{sketch_answer, sketch_in, SketchRead}
use Rattle.sketchfile.specs.Writing.{sketch_bytes, sketch_write_answer, SketchWritten}
use Rattle.sketchfile.proofs.Written.{writing_done}
use Rattle.sketchfile.proofs.Accepting.{file_content}
use Rattle.sketchfile.proofs.AtTheCall.{sketch_done}
use Rattle.params.specs.Answers.{Done}
use Rattle.std.specs.Prelude.{Ok}

-- a file's sketch depends on the size that its parameters ask for alone
sized : (P Q : Params) (bs : List ℕ) → size Q ≡ size P → sketch_in Q bs ≡ sketch_in P bs
unfolding sketch_in zeros
sized P Q bs e = rw e

module _ {P Q : Params} {S T T' : Sketch} {out out' : List ℕ} {n : ℕ} (w : SketchWritten P S out (Ok n) out') (q : SketchRead Q (take n out') T Done T') where
  -- whoever reads it without a refusal has the same parameters, and gets the sketch that was written
  pub read_back : (same_params Q P ≡ true) × (T' ≡ S)
  unfolding sketch_bytes
  read_back =
      let wrote = written_front (sketch_write_answer P S (length out)) out (sketch_bytes P S) w.answer w.bytes in
      let able = (writing_done P S (length out) wrote.0).0 in
      let front : take n out' ≡ sketch_bytes P S = wrote.1 in
      let accepted : sketch_answer Q (sketch_bytes P S) (length T.counts) (length T.idsums) ≡ Done = rw front at (sym q.answer) in
      let same : same_params Q P ≡ true = sym (same_written P _ Q able.good) ∙ (sketch_done Q _ _ _ accepted).opened.same in
      (same, q.content ∙ sym (kept_new Done T (sketch_in Q (take n out')) refl) ∙ ap (sketch_in Q) front ∙ sized P Q (sketch_bytes P S) (size_same Q P same) ∙ file_content P S able)

  pub history_through_file : {es : List Entry} → History P es S → History P es T'
  history_through_file h = rw read_back.1 h

-- parameters with four pairs each that are found the same are equal
pub record FourPairs (P : Params) : Type 0 where
  pub multipliers : length P.a ≡ 4
  pub offsets : length P.b ≡ 4

equal_params : (P Q : Params) → FourPairs P → FourPairs Q → same_params P Q ≡ true → P ≡ Q
equal_params P Q f g e =
    let dimensions = dimensions_same P Q e in
    let fifth = fifth_same P Q e in
    let a-same : P.a ≡ Q.a = ext_get_or 0 P.a Q.a (f.multipliers ∙ sym g.multipliers) (λ i l. (pair_same P Q e i (omega (arith, f.multipliers))).0) in
    let b-same : P.b ≡ Q.b = ext_get_or 0 P.b Q.b (f.offsets ∙ sym g.offsets) (λ i l. (pair_same P Q e i (omega (arith, f.offsets))).1) in
    λ i. record { d = dimensions.0 i; m = dimensions.1 i; a = a-same i; b = b-same i; a5 = fifth.0 i; b5 = fifth.1 i }

-- so the history goes on under the reader's own parameters
pub history_by_equal : {P Q : Params} {S T T' : Sketch} {out out' : List ℕ} {n : ℕ} {es : List Entry} → FourPairs P → FourPairs Q
    → History P es S → SketchWritten P S out (Ok n) out' → SketchRead Q (take n out') T Done T' → History Q es T'
history_by_equal {P} {Q} f g h w q = rw (equal_params Q P g f (read_back w q).0) (history_through_file w q h)
