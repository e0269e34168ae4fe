-- What each call from C answers and leaves: the library's own contract of the same call, at the answer that the library's definition
-- gives. r and k are the number and the place that the caller is returned; S is the lent sketch before, S' after.
use Rattle.std.specs.Prelude.{Bool, true, false, List, ℕ, length}
use Rattle.params.specs.declared.params.Params.{Params}
use Rattle.params.specs.Answers.{given}
use Rattle.params.specs.Params.{lent_answer}
use Rattle.params.specs.Positions.{position_answer, position, index}
use Rattle.sketch.specs.Sketch.{Sketch, Freshened}
use Rattle.sketch.specs.Packets.{move_answer, all_answer, Inserted, Withdrawn, AllInserted}
use Rattle.fold.specs.Fold.{fold_returns, Folded}
use Rattle.sums.specs.Sums.{combine_answer, Combined}
use Rattle.peel.specs.Slices.{Slices}
use Rattle.peel.specs.Peel.{peel_returns, Peels}
use Rattle.files.specs.Heads.{head_of}
use Rattle.streamfile.specs.Streams.{stream_answer, StreamRead}
use Rattle.streamfile.specs.Writing as streams
use Rattle.sketchfile.specs.Reading.{sketch_answer, SketchRead}
use Rattle.sketchfile.specs.Writing as sketches
use Rattle.face.specs.Returned.{AnswerReturned, WrittenReturned, PeeledReturned, LocatedReturned, ParamsReturned}

abbrev pub FreshenedFor : Params → Sketch → ℕ → ℕ → Sketch → Type 0
FreshenedFor P S r k S' = AnswerReturned (lent_answer P (length S.counts) (length S.idsums)) (λ x. Freshened P S x S') r k

abbrev pub InsertedFor : Params → ℕ → ℕ → Sketch → ℕ → ℕ → Sketch → Type 0
InsertedFor P f n S r k S' = AnswerReturned (move_answer P false f n S) (λ x. Inserted P f n S x S') r k

abbrev pub WithdrawnFor : Params → ℕ → ℕ → Sketch → ℕ → ℕ → Sketch → Type 0
WithdrawnFor P f n S r k S' = AnswerReturned (move_answer P true f n S) (λ x. Withdrawn P f n S x S') r k

abbrev pub AllInsertedFor : Params → List ℕ → List ℕ → Sketch → ℕ → ℕ → Sketch → Type 0
AllInsertedFor P fs ns S r k S' = AnswerReturned (all_answer P fs ns S) (λ x. AllInserted P fs ns S x S') r k

-- the sum with T, or the difference where `minus` holds
abbrev pub CombinedFor : Bool → Params → Params → Sketch → Sketch → ℕ → ℕ → Sketch → Type 0
CombinedFor minus P Q S T r k S' = AnswerReturned (combine_answer minus P Q S T) (λ x. Combined minus P Q S T x S') r k

-- ns are the fourteen numbers that the caller gets of the folded sketch's parameters
abbrev pub FoldedFor : Params → ℕ → Sketch → ℕ → ℕ → List ℕ → Sketch → Type 0
FoldedFor P m2 S r k ns S' = ParamsReturned (fold_returns P m2 S) r k ns × Folded P m2 S (fold_returns P m2 S) S'

-- n is the position, or the index, that the caller gets of flow f in array i
abbrev pub PositionFor : Params → ℕ → ℕ → ℕ → ℕ → ℕ → Type 0
PositionFor P i f r k n = LocatedReturned (given (position_answer P i f) (position P i f)) r k n

abbrev pub IndexFor : Params → ℕ → ℕ → ℕ → ℕ → ℕ → Type 0
IndexFor P i f r k n = LocatedReturned (given (position_answer P i f) (index P i f)) r k n

-- ns are the fourteen numbers that the caller gets of the head of the file bs
abbrev pub HeadReadFor : List ℕ → ℕ → ℕ → List ℕ → Type 0
HeadReadFor bs r k ns = ParamsReturned (head_of bs) r k ns

abbrev pub StreamReadFor : Params → List ℕ → Sketch → ℕ → ℕ → Sketch → Type 0
StreamReadFor P bs S r k S' = AnswerReturned (stream_answer P bs S) (λ x. StreamRead P bs S x S') r k

abbrev pub SketchReadFor : Params → List ℕ → Sketch → ℕ → ℕ → Sketch → Type 0
SketchReadFor P bs S r k S' = AnswerReturned (sketch_answer P bs (length S.counts) (length S.idsums)) (λ x. SketchRead P bs S x S') r k

-- n is the length that the caller is returned; out is the output before, out' after
abbrev pub StreamWrittenFor : Params → List ℕ → List ℕ → List ℕ → ℕ → ℕ → ℕ → List ℕ → Type 0
StreamWrittenFor P fs ns out r k n out' =
    WrittenReturned (given (streams.stream_write_answer P fs ns (length out)) (length (streams.stream_bytes P fs ns))) (λ x. streams.StreamWritten P fs ns out x out') r k n

abbrev pub SketchWrittenFor : Params → Sketch → List ℕ → ℕ → ℕ → ℕ → List ℕ → Type 0
SketchWrittenFor P S out r k n out' =
    WrittenReturned (given (sketches.sketch_write_answer P S (length out)) (length (sketches.sketch_bytes P S))) (λ x. sketches.SketchWritten P S out x out') r k n

-- gs are the figures that the caller is returned; L is what the walk is lent, L' what it holds after
abbrev pub PeelsFor : Params → ℕ → Slices → ℕ → ℕ → List ℕ → Slices → Type 0
PeelsFor P allowance L r k gs L' = PeeledReturned (peel_returns P allowance L) (λ x. Peels P allowance L x L') r k gs
