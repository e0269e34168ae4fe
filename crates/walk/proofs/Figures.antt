-- The figures of a table: their difference is the sum of all counts, no count is larger than the figure that it adds to, and both together are small.
use Rattle.std.proofs.Common.{rules}
use mathlib.Core.Path.{◌≡◌, refl, sym, ap, ap₂}
use mathlib.Core.Bool.{true}
use mathlib.Core.List.{List, [], ◌∷◌, ◌++◌, map}
use Prim.Native.Nat.{ℕ, zero, suc, ◌+◌, ◌*◌, ◌<◌, ◌≤◌}
use native.Mathlib.Omega.{arith}
use lib.IntN.{ℤ, pos, neg_ℤ, ◌+ℤ◌, ◌-ℤ◌}
use lib.ListN.{length, get_or}
use Rattle.field.specs.Parts.{up, down}
use Rattle.field.proofs.Parts.{int, up_down_add, up_neg, down_neg, abs_parts}
use Rattle.params.specs.declared.params.Params.{Params}
use Rattle.params.proofs.Searches.{and_true}
use Rattle.buckets.specs.Buckets.{in_limits}
use Rattle.buckets.proofs.Limits.{limits_size}
use Rattle.sketch.specs.Sketch.{Entry}
use Rattle.sums.specs.History.{negated}
use Rattle.sums.proofs.Weighted.{weighted, times_one, weighted_append, weighted_negated}
use Rattle.walk.specs.Walk.{all, summed, lost_by, extra_by}
use Rattle.walk.specs.Shown.{tell}

-- the sum of all counts
unfoldable pub all_counts : List Entry → ℤ
all_counts [] = pos 0
all_counts (e ∷ es) = e.number +ℤ all_counts es

-- it does not depend on the flows that are told, and nor do the figures
pub told_counts : (P : Params) (t : List Entry) → all_counts (map (tell P) t) ≡ all_counts t
unfolding all_counts
told_counts P [] = refl
told_counts P (e ∷ es) = ap (◌+ℤ◌ e.number) (told_counts P es)

pub told_summed : (P : Params) (part : ℤ → ℕ) (t : List Entry) → summed part (map (tell P) t) ≡ summed part t
unfolding summed
told_summed P part [] = refl
told_summed P part (e ∷ es) = ap (◌+◌ (part e.number)) (told_summed P part es)

-- it is the weighted sum in which every flow weighs 1
all_weighted : (es : List Entry) → all_counts es ≡ weighted (λ f. pos 1) es
unfolding weighted all_counts
all_weighted [] = refl
all_weighted (e ∷ es) = ap₂ ◌+ℤ◌ (sym (times_one e.number)) (all_weighted es)

-- of the entries of one list and the opposite ones of another it is the difference
pub counts_less : (es gs : List Entry) → all_counts (es ++ negated gs) ≡ all_counts es -ℤ all_counts gs
counts_less es gs = search (rules, all_weighted, neg_ℤ, weighted_append, weighted_negated)

-- lost less extra
by_parts : (t : List Entry) → up (all_counts t) + extra_by t ≡ lost_by t + down (all_counts t)
unfolding summed all_counts
by_parts [] = omega arith
by_parts (e ∷ es) = omega (arith, by_parts es, up_down_add e.number (all_counts es))

pub figures_differ : (t : List Entry) → pos (lost_by t) -ℤ pos (extra_by t) ≡ all_counts t
figures_differ t = search (rules, by_parts, down_neg, int, neg_ℤ, up_down_add, up_neg)

-- a part of entry i's count is within its sum
pub shows : (part : ℤ → ℕ) (t : List Entry) (i : ℕ) (none : Entry) → i < length t → part (get_or t i none).number ≤ summed part t
unfolding summed
shows part [] i none l = absurd (omega arith)
shows part (e ∷ es) zero none l = omega arith
shows part (e ∷ es) (suc i) none l = omega (arith, shows part es i none (omega arith))

-- both together are at most as many times the limit as there are entries
pub figures_small : (t : List Entry) → all (λ e. in_limits e.number) t ≡ true → lost_by t + extra_by t ≤ length t * 2147483646
unfolding summed all
figures_small [] h = omega arith
figures_small (e ∷ es) h =
    let both = and_true (in_limits e.number) (all (λ e. in_limits e.number) es) h in
    omega (arith, figures_small es both.1, abs_parts e.number, limits_size e.number both.0)
