-- What peeling answers, and what it leaves in every slice that it is lent.
use Rattle.std.specs.Prelude.{not, ◌&&◌, ◌≡◌, List, [], ◌∷◌, ℕ, ℤ, pos, eqb, leb, length, replicate, Ok, Err}
use Rattle.params.specs.declared.params.Params.{Params}
use Rattle.params.specs.declared.answers.Refusal.TheVariants.{Length, Damage}
use Rattle.params.specs.Lists.{padded}
use Rattle.params.specs.Answers.{refuse_if, refuse_at, first, kept, Answer, Done, Given, given}
use Rattle.params.specs.Params.{size, lent_answer}
use Rattle.sketch.specs.Sketch.{Sketch, Entry, damaged_at}
use Rattle.walk.specs.Endings.{ending_number}
use Rattle.walk.specs.Walk.{Outcome, walk, closed_table, lost_of, extra_of}
use Rattle.walk.specs.Purity.{rule_of}
use Rattle.walk.specs.Shown.{shown_table}
use Rattle.peel.specs.Slices.{Slices, slices, lent_sketch}
use Rattle.peel.specs.declared.peeling.Figures.{Figures}

-- the parameters and the lengths of all that a walk is lent: of the counts and idsums, of the table's two slices, of the queue and the marks
unfoldable pub walk_lent_answer : Params → ℕ → ℕ → ℕ → ℕ → ℕ → ℕ → Answer
walk_lent_answer P counts idsums flows numbers queue marks =
    first (lent_answer P counts idsums)
    (refuse_if (not (eqb queue (size P) && eqb marks (size P) && eqb flows numbers && leb flows 65536)) Length 0
    Done)

-- then damage anywhere
unfoldable pub peel_answer : Params → Sketch → ℕ → ℕ → ℕ → ℕ → Answer
peel_answer P S flows numbers queue marks =
    first (walk_lent_answer P (length S.counts) (length S.idsums) flows numbers queue marks)
    (refuse_at (size P) (damaged_at S) Damage
    Done)

-- what is returned of an outcome
abbrev pub figures_of : Outcome → Figures
figures_of o =
    record { ending = o.ending; entries = length (closed_table o); lost = lost_of o; extra = extra_of o; pops = o.pops }

-- a refusal, or else what peeling returns
abbrev pub unless_refused : Answer → Given Figures → Given Figures
unless_refused Done x = x
unless_refused (Err r) x = Err r

abbrev pub peeled_of : Answer → Outcome → Given Figures
peeled_of r o = given r (figures_of o)

-- the ending's number, the pops, the packets lost and extra and the table's entries, all 0 where it is refused
abbrev pub peeled_ending : Given Figures → ℕ
peeled_ending (Ok g) = ending_number g.ending
peeled_ending (Err r) = 0

abbrev pub peeled_pops : Given Figures → ℕ
peeled_pops (Ok g) = g.pops
peeled_pops (Err r) = 0

abbrev pub peeled_lost : Given Figures → ℕ
peeled_lost (Ok g) = g.lost
peeled_lost (Err r) = 0

abbrev pub peeled_extra : Given Figures → ℕ
peeled_extra (Ok g) = g.extra
peeled_extra (Err r) = 0

abbrev pub peeled_entries : Given Figures → ℕ
peeled_entries (Ok g) = g.entries
peeled_entries (Err r) = 0

-- a table's flows and its numbers
unfoldable pub flows_of : List Entry → List ℕ
flows_of [] = []
flows_of (e ∷ es) = e.flow ∷ flows_of es

unfoldable pub numbers_of : List Entry → List ℤ
numbers_of [] = []
numbers_of (e ∷ es) = e.number ∷ numbers_of es

-- what the slices L hold after, where nothing is refused: the remainder, the table that is shown with 0 in the slots past it, and zeros for
-- the queue and the marks
abbrev pub closed_slices : Params → Outcome → Slices → Slices
closed_slices P o L =
    slices o.remainder.counts o.remainder.idsums
    (padded (length L.flows) 0 (flows_of (shown_table P o)))
    (padded (length L.numbers) (pos 0) (numbers_of (shown_table P o)))
    (replicate (size P) 0)
    (replicate (size P) 0)

-- what is judged of the slices, the walk over them, and what peeling so answers and leaves
abbrev pub judged : Params → Slices → Answer
judged P L = peel_answer P (lent_sketch L) (length L.flows) (length L.numbers) (length L.queue) (length L.marks)

abbrev pub walked : Params → ℕ → Slices → Outcome
walked P allowance L = walk (rule_of P) (length L.flows) allowance (lent_sketch L)

abbrev pub peel_returns : Params → ℕ → Slices → Given Figures
peel_returns P allowance L = peeled_of (judged P L) (walked P allowance L)

abbrev pub peel_leaves : Params → ℕ → Slices → Slices
peel_leaves P allowance L = kept (judged P L) L (closed_slices P (walked P allowance L) L)

-- L is what is lent, L' what it holds after
pub record Peels (P : Params) (allowance : ℕ) (L : Slices) (r : Given Figures) (L' : Slices) : Type 0 where
  pub answer : r ≡ peel_returns P allowance L
  pub after : L' ≡ peel_leaves P allowance L
