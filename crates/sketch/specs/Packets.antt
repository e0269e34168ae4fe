-- What putting packets in and taking them out answers and leaves.
use Rattle.std.specs.Prelude.{Bool, true, false, not, ◌≡◌, List, [], ◌∷◌, ℕ, ◌<◌, pos, eqb, length, get_or, take}
use Rattle.params.specs.declared.params.Params.{Params}
use Rattle.params.specs.declared.answers.Refusal.TheVariants.{Param, Length, Flow, Count}
use Rattle.params.specs.Answers.{refuse_if, first, kept, Answer, Done}
use Rattle.params.specs.Params.{is_flow, size, good_params, dimensions_answer, lent_answer}
use Rattle.params.specs.Sketched.{sketched}
use Rattle.params.specs.Positions.{stands}
use Rattle.buckets.specs.Buckets.{is_number, weight}
use Rattle.sketch.specs.Sketch.{Sketch, Entry, by, flow_buckets_answer, changed_in}

-- a packet's flow and its number
unfoldable pub packet_answer : Params → ℕ → ℕ → Answer
packet_answer P f n =
    refuse_if (not (is_flow P f)) Flow 0
    (refuse_if (not (is_number n)) Count 0
    Done)

-- the dimensions, the lengths and the packet
unfoldable pub entry_answer : Params → ℕ → ℕ → ℕ → ℕ → Answer
entry_answer P c s f n = first (dimensions_answer P c s) (packet_answer P f n)

-- n packets of f go in, or come out where `minus` holds: what is judged, of the parameters the dimensions alone, and what is left
unfoldable pub step_answer : Params → Bool → ℕ → ℕ → Sketch → Answer
step_answer P minus f n S =
    first (entry_answer P (length S.counts) (length S.idsums) f n)
    (flow_buckets_answer (size P) (stands P f) minus (pos n) S)

unfoldable pub changed : Params → Bool → ℕ → ℕ → Sketch → Sketch
changed P minus f n S = changed_in (stands P f) minus (pos n) (weight (sketched P f) n) S

pub record Stepped (minus : Bool) (P : Params) (f n : ℕ) (S : Sketch) (r : Answer) (S' : Sketch) : Type 0 where
  pub answer : r ≡ step_answer P minus f n S
  pub after : S' ≡ kept r S (changed P minus f n S)

-- the same with all of the parameters' rules
unfoldable pub move_answer : Params → Bool → ℕ → ℕ → Sketch → Answer
move_answer P minus f n S = refuse_if (not (good_params P)) Param 0 (step_answer P minus f n S)

pub record Moved (minus : Bool) (P : Params) (f n : ℕ) (S : Sketch) (r : Answer) (S' : Sketch) : Type 0 where
  pub answer : r ≡ move_answer P minus f n S
  pub after : S' ≡ kept r S (changed P minus f n S)

abbrev pub Inserted : Params → ℕ → ℕ → Sketch → Answer → Sketch → Type 0
Inserted = Moved false

abbrev pub Withdrawn : Params → ℕ → ℕ → Sketch → Answer → Sketch → Type 0
Withdrawn = Moved true

-- the sketch after packets of the flows fs, by the numbers ns, went in
unfoldable pub after : Params → List ℕ → List ℕ → Sketch → Sketch
after P [] ns S = S
after P (f ∷ fs) [] S = S
after P (f ∷ fs) (n ∷ ns) S = after P fs ns (changed P false f n S)

-- packets in turn: the first that is refused decides
unfoldable pub packets_answer : Params → List ℕ → List ℕ → Sketch → Answer
packets_answer P [] ns S = Done
packets_answer P (f ∷ fs) [] S = Done
packets_answer P (f ∷ fs) (n ∷ ns) S = first (step_answer P false f n S) (packets_answer P fs ns (changed P false f n S))

pub record PacketsInserted (P : Params) (fs ns : List ℕ) (S : Sketch) (r : Answer) (S' : Sketch) : Type 0 where
  pub answer : r ≡ packets_answer P fs ns S
  pub after_all : S' ≡ kept r S (after P fs ns S)

-- the same, with the parameters, and the lengths of what is lent
unfoldable pub all_answer : Params → List ℕ → List ℕ → Sketch → Answer
all_answer P fs ns S =
    first (lent_answer P (length S.counts) (length S.idsums))
    (refuse_if (not (eqb (length fs) (length ns))) Length 0
    (packets_answer P fs ns S))

pub record AllInserted (P : Params) (fs ns : List ℕ) (S : Sketch) (r : Answer) (S' : Sketch) : Type 0 where
  pub answer : r ≡ all_answer P fs ns S
  pub after_all : S' ≡ kept r S (after P fs ns S)

-- the first i packets were accepted, each into the sketch that those before it left
abbrev pub Accepted : Params → List ℕ → List ℕ → Sketch → ℕ → Type 0
Accepted P fs ns S i =
    (j : ℕ) → j < i → step_answer P false (get_or fs j 0) (get_or ns j 0) (after P (take j fs) (take j ns) S) ≡ Done

-- S' is whatever sketch the first n packets were accepted into to make S
pub record Unwound (P : Params) (fs ns : List ℕ) (n : ℕ) (S S' : Sketch) : Type 0 where
  pub back : (S₀ : Sketch) → Accepted P fs ns S₀ n → S ≡ after P (take n fs) (take n ns) S₀ → S' ≡ S₀

-- packets as entries
unfoldable pub entries_of : List ℕ → List ℕ → List Entry
entries_of [] ns = []
entries_of (f ∷ fs) [] = []
entries_of (f ∷ fs) (n ∷ ns) = by f (pos n) ∷ entries_of fs ns
