-- Laws of the number of buckets that are not all zero.
use mathlib.Core.Path.{◌≡◌, refl}
use mathlib.Core.Bool.{Bool, true, false, cond, ◌&&◌}
use mathlib.Core.List.{List, [], ◌∷◌}
use Prim.Native.Nat.{ℕ, zero, suc, ◌+◌, ◌<◌, ◌≤◌}
use native.Mathlib.Numerals.{add-one}
use native.Mathlib.Omega.{arith}
use lib.IntN.{ℤ, pos}
use lib.Dec.{eqb}
use lib.ListN.{length, get_or, set, drop}
use lib.Seq.{drop-cons, drop-length}
use Rattle.sketch.specs.Sketch.{sketch}
use Rattle.walk.specs.Walk.{all, nothing_remains}
use Rattle.buckets.specs.Buckets.{is_zero}
use Rattle.peel.specs.Nonzero.{one_if_nonzero, nonzero_buckets}

-- there are none exactly where nothing remains
pub nonzero_none : (cs : List ℤ) (ss : List ℕ) → length cs ≡ length ss → nonzero_buckets cs ss ≡ 0 → nothing_remains (sketch cs ss) ≡ true
unfolding nonzero_buckets one_if_nonzero nothing_remains all
nonzero_none [] [] e z = refl
nonzero_none [] (s ∷ ss) e z = absurd (omega arith)
nonzero_none (c ∷ cs) [] e z = absurd (omega arith)
nonzero_none (c ∷ cs) (s ∷ ss) e z = go (is_zero c) (eqb s 0) _ _ z (nonzero_none cs ss (omega arith))
  where
    go : (a b x y : Bool) → cond a (cond b 0 1) 1 + nonzero_buckets cs ss ≡ 0 → (nonzero_buckets cs ss ≡ 0 → (x && y) ≡ true) → ((a && x) && (b && y)) ≡ true
    go true true x y z ih = ih (omega arith)
    go true false x y z ih = absurd (omega arith)
    go false b x y z ih = absurd (omega arith)

pub nonzero_some : (cs : List ℤ) (ss : List ℕ) → length cs ≡ length ss → 0 < nonzero_buckets cs ss → nothing_remains (sketch cs ss) ≡ false
unfolding nonzero_buckets one_if_nonzero nothing_remains all
nonzero_some [] ss e z = absurd (omega arith)
nonzero_some (c ∷ cs) [] e z = absurd (omega arith)
nonzero_some (c ∷ cs) (s ∷ ss) e z = go (is_zero c) (eqb s 0) _ _ z (nonzero_some cs ss (omega arith))
  where
    go : (a b x y : Bool) → 0 < cond a (cond b 0 1) 1 + nonzero_buckets cs ss → (0 < nonzero_buckets cs ss → (x && y) ≡ false) → ((a && x) && (b && y)) ≡ false
    go true true x y z ih = ih (omega arith)
    go true false true y z ih = refl
    go true false false y z ih = refl
    go false b x y z ih = refl

-- one bucket changes
pub nonzero_set : (cs : List ℤ) (ss : List ℕ) (j : ℕ) (v : ℤ) (w : ℕ) → j < length cs → j < length ss
    → nonzero_buckets (set cs j v) (set ss j w) + one_if_nonzero (get_or cs j (pos 0)) (get_or ss j 0) ≡ nonzero_buckets cs ss + one_if_nonzero v w
unfolding nonzero_buckets
nonzero_set [] ss j v w l u = absurd (omega arith)
nonzero_set (c ∷ cs) [] j v w l u = absurd (omega arith)
nonzero_set (c ∷ cs) (s ∷ ss) zero v w l u = omega arith
nonzero_set (c ∷ cs) (s ∷ ss) (suc j) v w l u = omega (arith, nonzero_set cs ss j v w (omega arith) (omega arith))

-- there are at most as many as buckets
pub one_most : (c : ℤ) (s : ℕ) → one_if_nonzero c s ≤ 1
unfolding one_if_nonzero
one_most c s = go (is_zero c) (eqb s 0)
  where
    go : (a b : Bool) → cond a (cond b 0 1) 1 ≤ 1
    go true true = omega arith
    go true false = omega arith
    go false b = omega arith

pub nonzero_most : (cs : List ℤ) (ss : List ℕ) → nonzero_buckets cs ss ≤ length cs
unfolding nonzero_buckets
nonzero_most [] ss = omega arith
nonzero_most (c ∷ cs) [] = omega arith
nonzero_most (c ∷ cs) (s ∷ ss) = omega (arith, one_most c s, nonzero_most cs ss)

-- the buckets that are still to be counted, from bucket i on
pub nonzero_step : (cs : List ℤ) (ss : List ℕ) (i : ℕ) → i < length cs → i < length ss
    → nonzero_buckets (drop i cs) (drop i ss) ≡ one_if_nonzero (get_or cs i (pos 0)) (get_or ss i 0) + nonzero_buckets (drop (i + 1) cs) (drop (i + 1) ss)
unfolding nonzero_buckets
nonzero_step cs ss i a b = rw (drop-cons cs i (pos 0) a, drop-cons ss i 0 b, add-one i)

pub nonzero_all : (cs : List ℤ) (ss : List ℕ) (i : ℕ) → i ≡ length cs → nonzero_buckets (drop i cs) (drop i ss) ≡ 0
unfolding nonzero_buckets
nonzero_all cs ss i e = rw (e, drop-length cs)
