-- What the counts of an array add up to. Each entry of a list adds its number to one bucket of every array, so that the counts of each array of its sketch add up to the sum of all its numbers.
use mathlib.Core.Path.{◌≡◌, refl, sym, ap, ap₂, ◌∙◌}
use mathlib.Core.Bool.{Bool, cond}
use mathlib.Core.List.{List, [], ◌∷◌}
use Prim.Native.Nat.{ℕ, ◌+◌, ◌-◌, ◌*◌, ◌≤◌, ◌<◌}
use native.Mathlib.Omega.{arith}
use borrow.Author.Tests.{eq-eqb, ne_eqb}
use lib.Dec.{eqb}
use lib.IntN.{ℤ, pos, ◌+ℤ◌}
use Rattle.params.specs.declared.params.Params.{Params}
use Rattle.params.specs.Params.{size, Dimensions}
use Rattle.params.specs.Sketched.{sketched}
use Rattle.params.specs.Positions.{position, stand, index, stands}
use Rattle.params.proofs.BucketNumbers.{stretch_within}
use Rattle.params.proofs.Indexes.{stand_below}
use Rattle.params.proofs.Standing.{standing_in}
use Rattle.sketch.specs.Sketch.{Sketch, count_in, Entry, count_at, sketch_of}
use Rattle.sketch.proofs.Tables.{from_at}
use Rattle.fold.specs.Fold.{total}
use Rattle.fold.proofs.Totals.{total_add, total_same, total_none, total_one}
use Rattle.walk.proofs.Figures.{all_counts}

-- the sum of the counts of array i; arrays count from 1
abbrev pub array_total : Params → ℕ → Sketch → ℤ
array_total P i S = total P.m (λ j. count_in S ((i - 1) * P.m + j))

module _ (P : Params) (h : Dimensions P) (i : ℕ) (low : 1 ≤ i) (high : i ≤ P.d) where
  -- a flow stands in one bucket of array i
  stands_by : (f j : ℕ) → j < P.m → stands P f ((i - 1) * P.m + j) ≡ eqb ((i - 1) * P.m + j) (index P i f)
  stands_by f j l = standing_in P.d P.m (λ n. stand P n (sketched P f)) (i - 1) ((i - 1) * P.m + j) (omega arith) (omega arith) (omega arith)

  one_bucket : (f : ℕ) (z : ℤ) → total P.m (λ j. cond (stands P f ((i - 1) * P.m + j)) z (pos 0)) ≡ z
  one_bucket f z =
      let inside = stand_below P (i - 1) (sketched P f) h in
      total_one P.m (position P i f) _ inside (λ j l d. ap (λ (t : Bool). cond t z (pos 0)) (stands_by f j l ∙ ne_eqb ((i - 1) * P.m + j) (index P i f) (λ e. d (omega (arith, e)))))
      ∙ ap (λ (t : Bool). cond t z (pos 0)) (stands_by f (position P i f) inside ∙ eq-eqb (index P i f) (index P i f) refl)

  total_entries : (es : List Entry) → total P.m (λ j. count_at P es ((i - 1) * P.m + j)) ≡ all_counts es
  unfolding count_at all_counts
  total_entries [] = total_none P.m _ (λ j l. refl)
  total_entries (e ∷ es) =
      total_add P.m (λ j. cond (stands P e.flow ((i - 1) * P.m + j)) e.number (pos 0)) (λ j. count_at P es ((i - 1) * P.m + j))
      ∙ ap₂ ◌+ℤ◌ (one_bucket e.flow e.number) (total_entries es)

  -- bucket j of array i lies within the sketch
  in_sketch : (j : ℕ) → j < P.m → (i - 1) * P.m + j < size P
  in_sketch j l = omega (arith, stretch_within P.d P.m (i - 1) (omega arith))

  -- the counts of array i of a list's sketch
  pub total_sketch : (es : List Entry) → array_total P i (sketch_of P es) ≡ all_counts es
  unfolding sketch_of
  total_sketch es = total_same P.m _ _ (λ j l. from_at (size P) (count_at P es) _ (pos 0) (in_sketch j l)) ∙ total_entries es

  -- where the sketch R and the list's sketch make up the sketch S, so do their sums
  pub total_balance : (S R : Sketch) (es : List Entry) → ((k : ℕ) → k < size P → count_in R k +ℤ count_in (sketch_of P es) k ≡ count_in S k)
      → array_total P i R +ℤ all_counts es ≡ array_total P i S
  total_balance S R es e =
      ap (◌+ℤ◌ (array_total P i R)) (sym (total_sketch es))
      ∙ sym (total_add P.m (λ j. count_in R ((i - 1) * P.m + j)) (λ j. count_in (sketch_of P es) ((i - 1) * P.m + j)))
      ∙ total_same P.m _ _ (λ j l. e _ (in_sketch j l))

-- so lists with the same sketch have the same sum of numbers
pub same_counts : (P : Params) → Dimensions P → (es gs : List Entry) → sketch_of P es ≡ sketch_of P gs → all_counts es ≡ all_counts gs
same_counts P h es gs e =
    let one = total_sketch P h 1 (omega arith) (omega arith) in
    sym (one es) ∙ ap (array_total P 1) e ∙ one gs
