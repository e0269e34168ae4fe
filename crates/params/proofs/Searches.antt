-- Laws of the computed tests: that they hold or fail, what is chosen by them, `&&`, `below`, `least`, and `found`.
use mathlib.Core.Path.{◌≡◌, refl, sym, ap, ap₂, ◌∙◌}
use mathlib.Core.Bool.{Bool, true, false, not, cond, ◌&&◌}
use Prim.Native.Nat.{ℕ, zero, suc, ◌+◌, ◌-◌, ◌≤◌, ◌<◌}
use native.Mathlib.Numerals.{add-one}
use native.Mathlib.Decide.{ℕ_discrete}
use native.Mathlib.Omega.{arith}
use borrow.Author.Tests.{ltb-false, ltb-true, lt-ltb, le-ltb, not-true, not-false}
use lib.Dec.{ltb}
use Rattle.params.specs.Lists.{below, least, found}
use Rattle.std.specs.Prelude.{Option, Some, None}

-- a test that cannot hold fails
pub cannot_hold : (t : Bool) → (t ≡ true → ⊥) → t ≡ false
cannot_hold true h = absurd (h refl)
cannot_hold false h = refl

-- the same either way
pub same_either : {A : Type 0} (t : Bool) (x : A) → cond t x x ≡ x
same_either true x = refl
same_either false x = refl

pub and_true : (s t : Bool) → (s && t) ≡ true → (s ≡ true) × (t ≡ true)
and_true true t e = (refl, e)
and_true false t e = (e, cc)

pub and_false : (s t : Bool) → t ≡ false → (s && t) ≡ false
and_false true t e = e
and_false false t e = refl

pub and_rest : (s t : Bool) → s ≡ true → (s && t) ≡ false → t ≡ false
and_rest true t e q = q
and_rest false t e q = cc

-- what a function's result tells of the test that it computes
pub test_held : {r t : Bool} → r ≡ t → not r ≡ false → t ≡ true
test_held {r} e h = sym e ∙ not-false r h

pub test_failed : {r t : Bool} → r ≡ t → not r ≡ true → t ≡ false
test_failed {r} e h = sym e ∙ not-true r h

-- what holds below n holds at each number below n, and the other way round
below_step : (n i : ℕ) (t : ℕ → Bool) → (below n t && t n) ≡ true → Dec (i ≡ n) → i < suc n → (below n t ≡ true → i < n → t i ≡ true) → t i ≡ true
below_step n i t e (yes p) h ih = rw p (and_true (below n t) (t n) e).1
below_step n i t e (no q) h ih = ih (and_true (below n t) (t n) e).0 (omega arith)

pub below_at : (n i : ℕ) (t : ℕ → Bool) → below n t ≡ true → i < n → t i ≡ true
unfolding below
below_at zero i t e h = absurd (omega arith)
below_at (suc n) i t e h = below_step n i t e (ℕ_discrete i n) h (below_at n i t)

pub below_next : (n : ℕ) (t : ℕ → Bool) → below (n + 1) t ≡ (below n t && t n)
unfolding below
below_next n t = ap (λ (k : ℕ). below k t) (add-one n)

pub all_below : (n : ℕ) (t : ℕ → Bool) → ((k : ℕ) → k < n → t k ≡ true) → below n t ≡ true
unfolding below
all_below zero t h = refl
all_below (suc n) t h = rw (all_below n t (λ k l. h k (omega arith)), h n (omega arith))

-- where the test fails at a number below n, it does not hold at all of them
fails_step : (n i : ℕ) (t : ℕ → Bool) → Dec (i ≡ n) → t i ≡ false → (i < n → below n t ≡ false) → i < suc n → (below n t && t n) ≡ false
fails_step n i t (yes p) e ih h = and_false (below n t) (t n) (rw (← p) e)
fails_step n i t (no q) e ih h = rw (ih (omega arith))

pub below_fails : (n i : ℕ) (t : ℕ → Bool) → i < n → t i ≡ false → below n t ≡ false
unfolding below
below_fails zero i t h e = absurd (omega arith)
below_fails (suc n) i t h e = fails_step n i t (ℕ_discrete i n) e (λ k. below_fails n i t k e) h

-- a search's first step
pub least_here : (k n : ℕ) (t : ℕ → Bool) → t k ≡ true → least k (suc n) t ≡ k
unfolding least
least_here k n t e = rw e

least_past : (k n : ℕ) (t : ℕ → Bool) → t k ≡ false → least k (suc n) t ≡ least (suc k) n t
unfolding least
least_past k n t e = rw e

least_end : (k : ℕ) (t : ℕ → Bool) → least k 0 t ≡ k
unfolding least
least_end k t = refl

-- tests that agree find the same
pub least_same : (k n : ℕ) (t u : ℕ → Bool) → ((i : ℕ) → k ≤ i → i < k + n → t i ≡ u i) → least k n t ≡ least k n u
unfolding least
least_same k zero t u e = refl
least_same k (suc n) t u e =
    ap₂ (λ (b : Bool) (j : ℕ). cond b k j) (e k (omega arith) (omega arith)) (least_same (suc k) n t u (λ i l m. e i (omega arith) (omega arith)))

-- the numbers before k + j fail the test: the search goes on from there
pub least_skip : (j k n : ℕ) (t : ℕ → Bool) → ((x : ℕ) → k ≤ x → x < k + j → t x ≡ false) → least k (j + n) t ≡ least (k + j) n t
least_skip zero k n t h = ap (λ (x : ℕ). least k x t) (omega arith) ∙ ap (λ (x : ℕ). least x n t) (omega arith)
least_skip (suc j) k n t h =
    ap (λ (x : ℕ). least k x t) (omega arith)
    ∙ least_past k (j + n) t (h k (omega arith) (omega arith))
    ∙ least_skip j (suc k) n t (λ x l m. h x (omega arith) (omega arith))
    ∙ ap (λ (x : ℕ). least x n t) (omega arith)

-- a scan one by one that stands at i, with n numbers in all: the answer is what the search from i on gives
pub scan_start : (n : ℕ) (t : ℕ → Bool) → least 0 n t ≡ least 0 (n - 0) t
scan_start n t = ap (λ (x : ℕ). least 0 x t) (omega arith)

pub scan_next : (n i r : ℕ) (t : ℕ → Bool) → i < n → t i ≡ false → r ≡ least i (n - i) t → r ≡ least (i + 1) (n - (i + 1)) t
scan_next n i r t h e q =
    q
    ∙ ap (λ (x : ℕ). least i x t) (omega arith)
    ∙ least_past i (n - (i + 1)) t e
    ∙ ap (λ (x : ℕ). least x (n - (i + 1)) t) (sym (add-one i))

pub scan_found : (n i r : ℕ) (t : ℕ → Bool) → i < n → t i ≡ true → r ≡ least i (n - i) t → i ≡ r
scan_found n i r t h e q = sym (q ∙ ap (λ (x : ℕ). least i x t) (omega arith) ∙ least_here i (n - (i + 1)) t e)

pub scan_end : (n i r : ℕ) (t : ℕ → Bool) → n ≤ i → r ≡ least i (n - i) t → i ≡ r
scan_end n i r t h q = sym (q ∙ ap (λ (x : ℕ). least i x t) (omega arith) ∙ least_end i t)

-- a search that finds nothing: the test fails at each number
none_step : (n k i : ℕ) (t : ℕ → Bool) (b : Bool) → t k ≡ b → k + suc n ≤ cond b k (least (suc k) n t) → Dec (i ≡ k) → k ≤ i → i < k + suc n
    → (suc k + n ≤ least (suc k) n t → suc k ≤ i → i < suc k + n → t i ≡ false) → t i ≡ false
none_step n k i t true e h d l m ih = absurd (omega arith)
none_step n k i t false e h (yes p) l m ih = rw p e
none_step n k i t false e h (no q) l m ih = ih (omega arith) (omega arith) (omega arith)

least_none : (n k i : ℕ) (t : ℕ → Bool) → k + n ≤ least k n t → k ≤ i → i < k + n → t i ≡ false
unfolding least
least_none zero k i t h l m = absurd (omega arith)
least_none (suc n) k i t h l m = none_step n k i t (t k) refl h (ℕ_discrete i k) l m (least_none n (suc k) i t)

pub none_found : (n : ℕ) (t : ℕ → Bool) → ltb (least 0 n t) n ≡ false → (k : ℕ) → k < n → t k ≡ false
none_found n t e k l =
    let past : n ≤ least 0 n t = ltb-false (least 0 n t) n e in
    least_none n 0 k t (omega arith) (omega arith) (omega arith)

-- and the other way round
pub nothing_found : (n : ℕ) (t : ℕ → Bool) → ((k : ℕ) → k < n → t k ≡ false) → least 0 n t ≡ n
nothing_found n t none =
    let all : n + 0 ≡ n = omega arith in
    let end : 0 + n ≡ n = omega arith in
    ap (λ (x : ℕ). least 0 x t) (sym all) ∙ least_skip n 0 0 t (λ x l m. none x (omega arith)) ∙ least_end (0 + n) t ∙ end

-- what a scan one by one answers at the first number that passes
pub first_found : (n i : ℕ) (t : ℕ → Bool) → i < n → t i ≡ true → ((k : ℕ) → k < i → t k ≡ false) → least 0 n t ≡ i
first_found n i t h e none =
    let all : n ≡ i + suc (n - suc i) = omega arith in
    let here : 0 + i ≡ i = omega arith in
    ap (λ (x : ℕ). least 0 x t) all ∙ least_skip i 0 (suc (n - suc i)) t (λ x l m. none x (omega arith)) ∙ least_here (0 + i) (n - suc i) t (rw here e) ∙ here

-- the same as an Option: Some of the first number that passes, None where none does
pub found_first : (n i : ℕ) (t : ℕ → Bool) → i < n → t i ≡ true → ((k : ℕ) → k < i → t k ≡ false) → found n t ≡ Some i
unfolding found
found_first n i t h e none = rw (first_found n i t h e none, lt-ltb i n h)

pub found_nothing : (n : ℕ) (t : ℕ → Bool) → ((k : ℕ) → k < n → t k ≡ false) → found n t ≡ None
unfolding found
found_nothing n t none = rw (nothing_found n t none, le-ltb n n (omega arith))

pub found_same : (n : ℕ) (t u : ℕ → Bool) → ((k : ℕ) → k < n → t k ≡ u k) → found n t ≡ found n u
unfolding found
found_same n t u e = rw (least_same 0 n t u (λ k l m. e k (omega arith))) refl

-- and what each of the two tells
some_step : {n x k : ℕ} (b : Bool) → ltb x n ≡ b → cond b (Some x) None ≡ Some k → (x ≡ k) × (x < n)
some_step {n} {x} true h e = (cc, ltb-true x n h)
some_step false h e = (cc, cc)

pub found_some : (n : ℕ) {k : ℕ} (t : ℕ → Bool) → found n t ≡ Some k → (least 0 n t ≡ k) × (least 0 n t < n)
unfolding found
found_some n t e = some_step (ltb (least 0 n t) n) refl e

none_given : (x : ℕ) (b : Bool) → cond b (Some x) None ≡ None → b ≡ false
none_given x true e = cc
none_given x false e = refl

pub found_none : (n : ℕ) (t : ℕ → Bool) → found n t ≡ None → (k : ℕ) → k < n → t k ≡ false
unfolding found
found_none n t e = none_found n t (none_given _ (ltb (least 0 n t) n) e)
