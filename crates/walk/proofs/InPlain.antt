-- Over extended numbers the two profiles are one: the sketch of a list is that of its extended numbers in the plain profile of the same arrays.
use mathlib.Core.Path.{◌≡◌, refl, ap}
use mathlib.Core.Bool.{cond}
use mathlib.Core.List.{List, [], ◌∷◌, map}
use Prim.Native.Nat.{ℕ}
use lib.IntN.{pos, ◌+ℤ◌, ◌*ℤ◌}
use Rattle.params.specs.declared.params.Params.{Params}
use Rattle.params.specs.Params.{plain}
use Rattle.params.specs.Sketched.{sketched}
use Rattle.params.specs.Positions.{stand, stands}
use Rattle.sketch.specs.Sketch.{Entry, by, count_at, weight_at, sketch_of}
use Rattle.sums.proofs.Weighted.{sketch_same}

-- a list with what is sketched for each flow in its place
abbrev pub extended : Params → List Entry → List Entry
extended P = map (λ e. by (sketched P e.flow) e.number)

count_plain : (P : Params) (es : List Entry) (k : ℕ) → count_at P es k ≡ count_at (plain P) (extended P es) k
unfolding count_at sketched stand
count_plain P [] k = refl
count_plain P (e ∷ es) k = ap (◌+ℤ◌ (cond (stands P e.flow k) e.number (pos 0))) (count_plain P es k)

weight_plain : (P : Params) (es : List Entry) (k : ℕ) → weight_at P es k ≡ weight_at (plain P) (extended P es) k
unfolding weight_at sketched stand
weight_plain P [] k = refl
weight_plain P (e ∷ es) k = ap (◌+ℤ◌ (cond (stands P e.flow k) (e.number *ℤ pos (sketched P e.flow)) (pos 0))) (weight_plain P es k)

pub sketch_in_plain : (P : Params) (es : List Entry) → sketch_of P es ≡ sketch_of (plain P) (extended P es)
sketch_in_plain P es = sketch_same P (plain P) es (extended P es) refl (count_plain P es) (weight_plain P es)
