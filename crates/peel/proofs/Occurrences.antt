-- Laws of `bit`, `occ` and `odds`: how often a number stands in a list, what that says of joining a queue, and how many marks are set.
use mathlib.Core.Path.{◌≡◌, refl}
use mathlib.Core.Bool.{Bool, true, false, cond, ◌||◌}
use mathlib.Core.List.{List, [], ◌∷◌, ◌++◌}
use Prim.Native.Nat.{ℕ, zero, suc, ◌+◌, ◌%◌, ◌<◌, ◌≤◌}
use native.Mathlib.Omega.{arith}
use lib.Dec.{eqb}
use lib.ListN.{length, get_or, set}
use borrow.Author.Tests.{eq-eqb, ne_eqb}
use Rattle.walk.specs.Walk.{any, waits, join}
use Rattle.peel.specs.Ring.{bit, occ, odds, SameBelow}

pub bit_same : (j k : ℕ) → j ≡ k → bit j k ≡ 1
unfolding bit
bit_same j k e = rw (eq-eqb j k e)

pub bit_other : (j k : ℕ) → (j ≡ k → ⊥) → bit j k ≡ 0
unfolding bit
bit_other j k e = rw (ne_eqb j k e)

pub occ_nil : (k : ℕ) → occ k [] ≡ 0
unfolding occ
occ_nil k = refl

pub occ_cons : (k j : ℕ) (q : List ℕ) → occ k (j ∷ q) ≡ bit j k + occ k q
unfolding occ
occ_cons k j q = refl

pub occ_snoc : (k j : ℕ) (q : List ℕ) → occ k (q ++ (j ∷ [])) ≡ occ k q + bit j k
unfolding occ
occ_snoc k j [] = omega arith
occ_snoc k j (i ∷ q) = omega (arith, occ_snoc k j q)

-- the queue's test
occ_waits : (k : ℕ) (q : List ℕ) → 0 < occ k q → waits k q ≡ true
unfolding occ waits any bit
occ_waits k [] h = absurd (omega arith)
occ_waits k (j ∷ q) h = go (eqb j k) h (occ_waits k q)
  where
    go : (b : Bool) → 0 < cond b 1 0 + occ k q → (0 < occ k q → waits k q ≡ true) → (b || waits k q) ≡ true
    go true l ih = refl
    go false l ih = ih (omega arith)

occ_none : (k : ℕ) (q : List ℕ) → occ k q ≡ 0 → waits k q ≡ false
unfolding occ waits any bit
occ_none k [] h = refl
occ_none k (j ∷ q) h = go (eqb j k) h (occ_none k q)
  where
    go : (b : Bool) → cond b 1 0 + occ k q ≡ 0 → (occ k q ≡ 0 → waits k q ≡ false) → (b || waits k q) ≡ false
    go true l ih = absurd (omega arith)
    go false l ih = ih (omega arith)

pub join_old : (j : ℕ) (q : List ℕ) → 0 < occ j q → join j q ≡ q
join_old j q h = rw (occ_waits j q h)

pub join_new : (j : ℕ) (q : List ℕ) → occ j q ≡ 0 → join j q ≡ q ++ (j ∷ [])
join_new j q h = rw (occ_none j q h)

-- a store changes the number of odds by what it changes
pub odds_set : (l : List ℕ) (i v : ℕ) → i < length l → odds (set l i v) + get_or l i 0 % 2 ≡ odds l + v % 2
unfolding odds
odds_set [] i v h = absurd (omega arith)
odds_set (x ∷ l) zero v h = omega arith
odds_set (x ∷ l) (suc i) v h = omega (arith, odds_set l i v (omega arith))

-- at most all are odd, and not all where one is even; where all are 0 none is
pub odds_most : (l : List ℕ) → odds l ≤ length l
unfolding odds
odds_most [] = omega arith
odds_most (x ∷ l) = omega (arith, odds_most l)

pub odds_room : (l : List ℕ) (i : ℕ) → i < length l → get_or l i 0 % 2 ≡ 0 → odds l < length l
unfolding odds
odds_room [] i u e = absurd (omega arith)
odds_room (x ∷ l) zero u e = omega (arith, odds_most l)
odds_room (x ∷ l) (suc i) u e = omega (arith, odds_room l i (omega arith) e)

pub odds_zeros : (l : List ℕ) → ((k : ℕ) → get_or l k 0 ≡ 0) → odds l ≡ 0
unfolding odds
odds_zeros [] h = refl
odds_zeros (x ∷ l) h = omega (arith, h 0, odds_zeros l (λ k. h (suc k)))

-- lists with the same low bits
pub odds_same : (l l' : List ℕ) → length l' ≡ length l → SameBelow 2 l l' → odds l' ≡ odds l
unfolding odds
odds_same [] [] e h = refl
odds_same [] (y ∷ l') e h = absurd (omega arith)
odds_same (x ∷ l) [] e h = absurd (omega arith)
odds_same (x ∷ l) (y ∷ l') e h = omega (arith, h 0, odds_same l l' (omega arith) (λ k. h (suc k)))
