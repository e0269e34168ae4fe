-- When a walk surely works: what is asked of a list of entries, which is then called sure, and that list in rising position in array 1.
use Rattle.std.specs.Prelude.{◌≡◌, Bool, true, not, cond, ◌&&◌, List, [], ◌∷◌, map, ℕ, suc, ℤ, pos, eqb, ltb, leb, length}
use Rattle.field.specs.Parts.{up, down}
use Rattle.params.specs.declared.params.Params.{Params}
use Rattle.params.specs.Params.{is_flow}
use Rattle.params.specs.Positions.{position}
use Rattle.buckets.specs.Buckets.{in_limits, is_zero}
use Rattle.sketch.specs.Sketch.{Entry, by, sketch_of, zeros}
use Rattle.walk.specs.declared.Ending.TheVariants.{Clean}
use Rattle.walk.specs.Walk.{Outcome, all, lost_by, extra_by, lost_of, extra_of}
use Rattle.walk.specs.Shown.{shown_table}

-- where the flow of an entry stands in array 1
abbrev pub first_position : Params → Entry → ℕ
first_position P e = position P 1 e.flow

-- every flow number is that of a flow, so that none is 0
abbrev pub all_flows : Params → List Entry → Bool
all_flows P es = all (λ e. is_flow P e.flow) es

-- every number is above 0; and every number is another than 0
abbrev pub all_positive : List Entry → Bool
all_positive es = all (λ e. ltb 0 (up e.number)) es

abbrev pub all_nonzero : List Entry → Bool
all_nonzero es = all (λ e. not (is_zero e.number)) es

-- no two entries share a bucket in array 1, so that no flow has two
unfoldable pub own_buckets : Params → List Entry → Bool
own_buckets P [] = true
own_buckets P (e ∷ es) = all (λ g. not (eqb (first_position P g) (first_position P e))) es && own_buckets P es

-- every count of the list's sketch is within the limits; its idsums always are
abbrev pub within_limits : Params → List Entry → Bool
within_limits P es = all in_limits (sketch_of P es).counts

-- the list with a part of each number: `up` for the losses alone, `down` for the gains without their sign. The losses of a list of positive numbers are the list
abbrev pub parts_by : (ℤ → ℕ) → List Entry → List Entry
parts_by part es = map (λ e. by e.flow (pos (part e.number))) es

-- a list of losses that is sure, in the words of the request. The walk then wants a slot for each flow, and as many pops as there are buckets with a count that is not 0
pub record SureLosses (P : Params) (es : List Entry) : Type 0 where
  pub flows : all_flows P es ≡ true
  pub positive : all_positive es ≡ true
  pub own : own_buckets P es ≡ true
  pub within : within_limits P es ≡ true

-- a list of losses and gains that is sure: in every bucket the losses add up within the limits, and so do the gains. A slot and a pop for each flow are enough
pub record Sure (P : Params) (es : List Entry) : Type 0 where
  pub flows : all_flows P es ≡ true
  pub nonzero : all_nonzero es ≡ true
  pub own : own_buckets P es ≡ true
  pub losses : within_limits P (parts_by up es) ≡ true
  pub gains : within_limits P (parts_by down es) ≡ true

-- the entry e put into a list, before the first that stands further on in array 1
unfoldable pub placed : Params → Entry → List Entry → List Entry
placed P e [] = e ∷ []
placed P e (g ∷ gs) = cond (ltb (first_position P e) (first_position P g)) (e ∷ g ∷ gs) (g ∷ placed P e gs)

-- the list in rising position in array 1
unfoldable pub in_rising : Params → List Entry → List Entry
in_rising P [] = []
in_rising P (e ∷ es) = placed P e (in_rising P es)

-- how a walk ends that works: clean, after a pop for each flow; nothing remains, and the table that is shown is the list in rising position in array 1
pub record Works (P : Params) (es : List Entry) (o : Outcome) : Type 0 where
  pub ending : o.ending ≡ Clean
  pub pops : o.pops ≡ length es
  pub remainder : o.remainder ≡ zeros P
  pub table : shown_table P o ≡ in_rising P es
  pub lost : lost_of o ≡ lost_by es
  pub extra : extra_of o ≡ extra_by es

-- a list rises in array 1 from position low on: each entry stands further on than the one before
unfoldable pub rises : Params → ℕ → List Entry → Bool
rises P low [] = true
rises P low (e ∷ es) = leb low (first_position P e) && rises P (suc (first_position P e)) es
