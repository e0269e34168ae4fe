-- The downstream's sketch taken from the upstream's, and the difference peeled.
use Rattle.std.specs.Prelude.{◌≡◌, true, ℕ, ◌*◌, length}
use Rattle.params.specs.declared.params.Params.{Params}
use Rattle.params.specs.Answers.{first, kept, Answer, Given}
use Rattle.params.specs.Params.{size}
use Rattle.sketch.specs.Sketch.{Sketch}
use Rattle.sums.specs.Sums.{combine_answer, combined}
use Rattle.peel.specs.Slices.{Slices, lent_sketch, with_sketch}
use Rattle.peel.specs.Peel.{walk_lent_answer, unless_refused, peel_returns, peel_leaves}
use Rattle.peel.specs.declared.peeling.Figures.{Figures}

-- the parameters and the lengths of all that the walk is lent, then what the difference of S and T answers
unfoldable pub settle_answer : Params → Sketch → Sketch → ℕ → ℕ → ℕ → ℕ → Answer
settle_answer P S T flows numbers queue marks =
    first (walk_lent_answer P (length S.counts) (length S.idsums) flows numbers queue marks)
    (combine_answer true P P S T)

-- L is what the walk is lent, with the upstream's sketch in it; T is the downstream's
module _ (P : Params) (T : Sketch) (L : Slices) where
  abbrev pub settle_judged : Answer
  settle_judged = settle_answer P (lent_sketch L) T (length L.flows) (length L.numbers) (length L.queue) (length L.marks)

  -- the same slices with the difference in them
  abbrev pub less_downstream : Slices
  less_downstream = with_sketch (combined true (lent_sketch L) T) L

  -- unless it is refused, settling is peeling the difference with 8 * d * m pops, which then refuses nothing (`settled_ends`); L' is what the slices hold after
  pub record Settles (r : Given Figures) (L' : Slices) : Type 0 where
    pub answer : r ≡ unless_refused settle_judged (peel_returns P (8 * size P) less_downstream)
    pub after : L' ≡ kept settle_judged L (peel_leaves P (8 * size P) less_downstream)
