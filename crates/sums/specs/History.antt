-- Histories of calls with none refused, the net count of a flow, and lists with the same entries in another order.
use Rattle.std.specs.Prelude.{◌≡◌, Bool, true, false, cond, List, [], ◌∷◌, ◌++◌, ℕ, ℤ, pos, neg_ℤ, ◌+ℤ◌, eqb}
use Rattle.params.specs.declared.params.Params.{Params}
use Rattle.params.specs.Params.{size}
use Rattle.sketch.specs.Sketch.{Sketch, Entry, by, Freshened}
use Rattle.sketch.specs.Packets.{changed, Stepped, Inserted, Withdrawn, AllInserted, entries_of}
use Rattle.fold.specs.Fold.{front, Folded, folded_to}
use Rattle.sums.specs.Sums.{Combined}
use Rattle.params.specs.Answers.{Done}

-- each entry with its number's sign turned round
unfoldable pub negated : List Entry → List Entry
negated [] = []
negated (e ∷ es) = by e.flow (neg_ℤ e.number) ∷ negated es

-- a number that goes in, or comes out where `minus` holds
abbrev pub signed : Bool → ℤ → ℤ
signed false z = z
signed true z = neg_ℤ z

-- the sum of a flow's numbers
unfoldable pub net_count : List Entry → ℕ → ℤ
net_count [] f = pos 0
net_count (e ∷ es) f = cond (eqb e.flow f) e.number (pos 0) +ℤ net_count es f

-- the sketch S was made by calls of which none was refused, over any number of sketches, from packets that make up these entries; in old sketches
-- packets of flow 0 went in or came out besides, which no call takes any more
pub data History : Params → List Entry → Sketch → Type 0 where
  freshly : {P : Params} {S S' : Sketch} → Freshened P S Done S' → History P [] S'
  inserting : {P : Params} {es : List Entry} {S S' : Sketch} {f n : ℕ} → History P es S → Inserted P f n S Done S' → History P (es ++ (by f (pos n) ∷ [])) S'
  stepping : {P : Params} {es : List Entry} {S S' : Sketch} {minus : Bool} {f n : ℕ} → History P es S → Stepped minus P f n S Done S'
      → History P (es ++ (by f (signed minus (pos n)) ∷ [])) S'
  of_flow_zero : {P : Params} {es : List Entry} {S S' : Sketch} (minus : Bool) (n : ℕ) → History P es S → S' ≡ changed P minus 0 n S
      → History P (es ++ (by 0 (signed minus (pos n)) ∷ [])) S'
  inserting_all : {P : Params} {es : List Entry} {S S' : Sketch} {fs ns : List ℕ} → History P es S → AllInserted P fs ns S Done S' → History P (es ++ entries_of fs ns) S'
  withdrawing : {P : Params} {es : List Entry} {S S' : Sketch} {f n : ℕ} → History P es S → Withdrawn P f n S Done S' → History P (es ++ (by f (neg_ℤ (pos n)) ∷ [])) S'
  adding : {P Q : Params} {es gs : List Entry} {S T S' : Sketch} → History P es S → History Q gs T → Combined false P Q S T Done S' → History P (es ++ gs) S'
  subtracting : {P Q : Params} {es gs : List Entry} {S T S' : Sketch} → History P es S → History Q gs T → Combined true P Q S T Done S' → History P (es ++ negated gs) S'
  folding : {P Q : Params} {es : List Entry} {S S' : Sketch} {m2 : ℕ} → History P es S → Folded P m2 S (folded_to Q) S' → History Q es (front (size Q) S')

-- the same entries in another order: what is first stays and the rest is rearranged, the first two change places, or one after the other
pub data Rearranged : List Entry → List Entry → Type 0 where
  none : Rearranged [] []
  keeping : {es gs : List Entry} (e : Entry) → Rearranged es gs → Rearranged (e ∷ es) (e ∷ gs)
  swapping : {es : List Entry} (e g : Entry) → Rearranged (e ∷ (g ∷ es)) (g ∷ (e ∷ es))
  twice : {es fs gs : List Entry} → Rearranged es fs → Rearranged fs gs → Rearranged es gs
