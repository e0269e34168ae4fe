-- Laws of lists that are changed place by place, and of lists that are filled up.
use mathlib.Core.Path.{◌≡◌, refl, sym, ap, ◌∙◌, fun_ext}
use mathlib.Core.Bool.{Bool, true, false, cond}
use mathlib.Core.List.{List, [], ◌∷◌, ◌++◌}
use Prim.Native.Nat.{ℕ, zero, suc, ◌+◌, ◌-◌, ◌≤◌, ◌<◌}
use native.Mathlib.Nat.{zero-add}
use native.Mathlib.Decide.{ℕ_discrete, dec_lt}
use native.Mathlib.Omega.{arith}
use borrow.Author.Tests.{eq-eqb, ne_eqb, lt-ltb, le-ltb}
use lib.Dec.{eqb, ltb}
use lib.ListN.{length, get_or, set, replicate, length-set, length-append, length-replicate, get_or-append}
use lib.Seq.{ext_get_or, get_or-set_same, get_or-set_other, get_or-append-add}
use Rattle.params.specs.Lists.{map_from, touched, padded}

module _ {A : Type 0} where
  pub length_map_from : (k : ℕ) (g : ℕ → A → A) (xs : List A) → length (map_from k g xs) ≡ length xs
  unfolding map_from
  length_map_from k g [] = refl
  length_map_from k g (x ∷ xs) = ap suc (length_map_from (suc k) g xs)

  pub get_d_map_from : (k : ℕ) (g : ℕ → A → A) (xs : List A) (j : ℕ) (d : A) → j < length xs → get_or (map_from k g xs) j d ≡ g (k + j) (get_or xs j d)
  unfolding map_from
  get_d_map_from k g [] j d h = absurd (omega arith)
  get_d_map_from k g (x ∷ xs) zero d h = ap (λ (i : ℕ). g i x) (sym same)
    where
      same : k + 0 ≡ k
      same = omega arith
  get_d_map_from k g (x ∷ xs) (suc j) d h =
      get_d_map_from (suc k) g xs j d (omega arith) ∙ ap (λ (i : ℕ). g i (get_or xs j d)) same
    where
      same : suc k + j ≡ k + suc j
      same = omega arith

  pub length_touched : (t : ℕ → Bool) (g : ℕ → A → A) (xs : List A) → length (touched t g xs) ≡ length xs
  unfolding touched
  length_touched t g xs = length_map_from 0 _ xs

  pub get_d_touched : (t : ℕ → Bool) (g : ℕ → A → A) (xs : List A) (j : ℕ) (d : A) → j < length xs → get_or (touched t g xs) j d ≡ cond (t j) (g j (get_or xs j d)) (get_or xs j d)
  unfolding touched
  get_d_touched t g xs j d h = get_d_map_from 0 _ xs j d h ∙ ap (λ (i : ℕ). cond (t i) (g i (get_or xs j d)) (get_or xs j d)) (zero-add j)

  -- what was not touched is as it was
  pub untouched : (t : ℕ → Bool) (g : ℕ → A → A) (xs : List A) (j : ℕ) (d : A) → j < length xs → t j ≡ false → get_or (touched t g xs) j d ≡ get_or xs j d
  untouched t g xs j d h e = rw (get_d_touched t g xs j d h, e)

  -- one place more
  pub touch_next : (d : A) (t : ℕ → Bool) (g : ℕ → A → A) (xs : List A) (k : ℕ) → k < length xs → t k ≡ false
      → set (touched t g xs) k (g k (get_or (touched t g xs) k d)) ≡ touched (λ j. cond (eqb j k) true (t j)) g xs
  touch_next d t g xs k h e =
      ext_get_or d _ _ (length-set (touched t g xs) k _ ∙ length_touched t g xs ∙ sym (length_touched _ g xs))
      (λ j l. at j (rw (length-set, length_touched) at l) (ℕ_discrete j k))
    where
      at : (j : ℕ) → j < length xs → Dec (j ≡ k) → get_or (set (touched t g xs) k (g k (get_or (touched t g xs) k d))) j d ≡ get_or (touched (λ j. cond (eqb j k) true (t j)) g xs) j d
      at j l (yes p) =
          rw p
          (get_or-set_same (touched t g xs) k (g k (get_or (touched t g xs) k d)) d (rw length_touched h) ∙ ap (g k) (untouched t g xs k d h e)
          ∙ sym (rw (get_d_touched (λ j. cond (eqb j k) true (t j)) g xs k d h, eq-eqb k k refl)))
      at j l (no q) =
          get_or-set_other (touched t g xs) k j (g k (get_or (touched t g xs) k d)) d q ∙ get_d_touched t g xs j d l
          ∙ sym (rw (get_d_touched (λ j. cond (eqb j k) true (t j)) g xs j d l, ne_eqb j k q))

  pub touched_none : (g : ℕ → A → A) (xs : List A) (d : A) → touched (λ j. false) g xs ≡ xs
  touched_none g xs d = ext_get_or d _ _ (length_touched _ g xs) (λ j l. untouched _ g xs j d (rw length_touched at l) refl)

  -- every place
  pub touched_all : (t : ℕ → Bool) (g : ℕ → A → A) (xs : List A) (d : A) → ((j : ℕ) → j < length xs → t j ≡ true) → touched t g xs ≡ map_from 0 g xs
  touched_all t g xs d h =
      ext_get_or d _ _ (length_touched t g xs ∙ sym (length_map_from 0 g xs))
      (λ j l. at j (rw length_touched at l))
    where
      at : (j : ℕ) → j < length xs → get_or (touched t g xs) j d ≡ get_or (map_from 0 g xs) j d
      at j l = rw (get_d_touched t g xs j d l, h j l) (sym (get_d_map_from 0 g xs j d l ∙ ap (λ (i : ℕ). g i (get_or xs j d)) (zero-add j)))

-- a loop that goes through all places in turn: `up_to i` holds below i
abbrev pub up_to : ℕ → ℕ → Bool
up_to i k = ltb k i

up_to_next : (i k : ℕ) → cond (eqb k i) true (up_to i k) ≡ up_to (i + 1) k
up_to_next i k = go (ℕ_discrete k i) (dec_lt k i)
  where
    go : Dec (k ≡ i) → Dec (k < i) → cond (eqb k i) true (up_to i k) ≡ up_to (i + 1) k
    go (yes p) q = rw (eq-eqb k i p) (sym (lt-ltb k (i + 1) (omega arith)))
    go (no p) (yes q) = rw (ne_eqb k i p, lt-ltb k i q) (sym (lt-ltb k (i + 1) (omega arith)))
    go (no p) (no q) = rw (ne_eqb k i p, le-ltb k i (omega arith)) (sym (le-ltb k (i + 1) (omega arith)))

module _ {A : Type 0} (d : A) (g : ℕ → A → A) (xs : List A) where
  pub each_none : xs ≡ touched (up_to 0) g xs
  each_none = sym (ext_get_or d _ _ (length_touched _ g xs) (λ j l. untouched (up_to 0) g xs j d (rw length_touched at l) (le-ltb j 0 (omega arith))))

  -- what place i held, and what it holds after its turn
  pub each_old : (i : ℕ) (ys : List A) → i < length xs → ys ≡ touched (up_to i) g xs → get_or ys i d ≡ get_or xs i d
  each_old i ys h e = rw e (untouched (up_to i) g xs i d h (le-ltb i i (omega arith)))

  pub each_long : (i : ℕ) (ys : List A) → ys ≡ touched (up_to i) g xs → length ys ≡ length xs
  each_long i ys e = rw e (length_touched (up_to i) g xs)

  pub each_next : (i : ℕ) (ys : List A) (v : A) → i < length xs → ys ≡ touched (up_to i) g xs → v ≡ g i (get_or xs i d) → set ys i v ≡ touched (up_to (i + 1)) g xs
  each_next i ys v h e q =
      rw (e, q, ← untouched (up_to i) g xs i d h (le-ltb i i (omega arith)))
      (touch_next d (up_to i) g xs i h (le-ltb i i (omega arith)) ∙ ap (λ (t : ℕ → Bool). touched t g xs) (fun_ext (up_to_next i)))

  pub each_all : (ys : List A) (i : ℕ) → length xs ≤ i → ys ≡ touched (up_to i) g xs → ys ≡ map_from 0 g xs
  each_all ys i h e = e ∙ touched_all (up_to i) g xs d (λ j l. lt-ltb j i (omega arith))

-- what is stored does not depend on what was there: place i need not be one of the list
pub store_next : {A : Type 0} (d : A) (h : ℕ → A) (xs ys : List A) (i : ℕ) {v : A} → ys ≡ touched (up_to i) (λ j x. h j) xs → v ≡ h i → set ys i v ≡ touched (up_to (i + 1)) (λ j x. h j) xs
store_next {A} d h xs ys i e q =
    rw (e, q)
    (ext_get_or d _ _ (length-set (touched (up_to i) (λ j x. h j) xs) i (h i) ∙ length_touched _ _ xs ∙ sym (length_touched _ _ xs))
    (λ j l. at j (rw (length-set, length_touched) at l) (ℕ_discrete j i)))
  where
    at : (j : ℕ) → j < length xs → Dec (j ≡ i) → get_or (set (touched (up_to i) (λ j x. h j) xs) i (h i)) j d ≡ get_or (touched (up_to (i + 1)) (λ j x. h j) xs) j d
    at j l (yes p) =
        rw p
        (get_or-set_same (touched (up_to i) (λ j x. h j) xs) i (h i) d (rw length_touched (omega arith))
        ∙ sym (rw (get_d_touched (up_to (i + 1)) (λ j x. h j) xs i d (omega arith), lt-ltb i (i + 1) (omega arith))))
    at j l (no ne) =
        get_or-set_other (touched (up_to i) (λ j x. h j) xs) i j (h i) d ne
        ∙ get_d_touched (up_to i) (λ j x. h j) xs j d l
        ∙ ap (λ (b : Bool). cond b (h j) (get_or xs j d)) (rw (ne_eqb j i ne) at (up_to_next i j))
        ∙ sym (get_d_touched (up_to (i + 1)) (λ j x. h j) xs j d l)

-- a list that is filled up: its length, the list in front, and what is past it
pub padded_long : {A : Type 0} (n : ℕ) (z : A) (xs : List A) → length xs ≤ n → length (padded n z xs) ≡ n
unfolding padded
padded_long n z xs h = length-append xs (replicate (n - length xs) z) ∙ omega (arith, length-replicate (n - length xs) z)

pub padded_past : {A : Type 0} (n : ℕ) (z : A) (xs : List A) (k : ℕ) → length xs ≤ k → get_or (padded n z xs) k z ≡ z
unfolding padded
padded_past n z xs k l =
    let e : length xs + (k - length xs) ≡ k = omega arith in
    ap (λ (i : ℕ). get_or (xs ++ replicate (n - length xs) z) i z) (sym e)
    ∙ get_or-append-add xs (replicate (n - length xs) z) (k - length xs) z
    ∙ zeros_at (n - length xs) (k - length xs)
  where
    zeros_at : (m i : ℕ) → get_or (replicate m z) i z ≡ z
    zeros_at zero i = refl
    zeros_at (suc m) zero = refl
    zeros_at (suc m) (suc i) = zeros_at m i

pub padded_front : {A : Type 0} (n : ℕ) (z : A) (xs : List A) (k : ℕ) → k < length xs → get_or (padded n z xs) k z ≡ get_or xs k z
unfolding padded
padded_front n z xs k l = get_or-append xs (replicate (n - length xs) z) z k l
