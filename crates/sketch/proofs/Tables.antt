-- Laws of lists made from a table of their places, `from`, and of what is done at each place of a list.
use mathlib.Core.Path.{◌≡◌, refl, ap, ap₂, ◌∙◌}
use mathlib.Core.Bool.{Bool, true, false, cond}
use mathlib.Core.List.{List, ◌∷◌}
use Prim.Native.Nat.{ℕ, zero, suc, ◌+◌, ◌≤◌, ◌<◌}
use native.Mathlib.Nat.{zero-add}
use native.Mathlib.Omega.{arith}
use lib.ListN.{length, get_or, replicate}
use lib.Seq.{ext_get_or}
use Rattle.params.specs.Lists.{map_from, touched, from}
use Rattle.params.proofs.Changes.{length_touched, get_d_touched}

module _ {A : Type 0} where
  pub length_from : (k n : ℕ) (h : ℕ → A) → length (from k n h) ≡ n
  unfolding from
  length_from k zero h = refl
  length_from k (suc n) h = ap suc (length_from (suc k) n h)

  get_d_from : (k n : ℕ) (h : ℕ → A) (j : ℕ) (d : A) → j < n → get_or (from k n h) j d ≡ h (k + j)
  unfolding from
  get_d_from k zero h j d l = absurd (omega arith)
  get_d_from k (suc n) h zero d l = ap h (omega arith)
  get_d_from k (suc n) h (suc j) d l = get_d_from (suc k) n h j d (omega arith) ∙ ap h (omega arith)

  -- from the first place on
  pub from_at : (n : ℕ) (h : ℕ → A) (j : ℕ) (d : A) → j < n → get_or (from 0 n h) j d ≡ h j
  from_at n h j d l = get_d_from 0 n h j d l ∙ ap h (zero-add j)

  -- a table is known by its places
  pub from_same : (k n : ℕ) (g h : ℕ → A) → ((j : ℕ) → k ≤ j → j < k + n → g j ≡ h j) → from k n g ≡ from k n h
  unfolding from
  from_same k zero g h e = refl
  from_same k (suc n) g h e =
      ap₂ {B = List A} ◌∷◌ (e k (omega arith) (omega arith)) (from_same (suc k) n g h (λ j l m. e j (omega arith) (omega arith)))

  pub replicate_from : (k n : ℕ) (a : A) → replicate n a ≡ from k n (λ j. a)
  unfolding from
  replicate_from k zero a = refl
  replicate_from k (suc n) a = ap {B = List A} (λ xs. a ∷ xs) (replicate_from (suc k) n a)

  -- what is done at the places where the test holds is undone there
  pub touched_back : (d : A) (t : ℕ → Bool) (g h : ℕ → A → A) (xs : List A)
      → ((j : ℕ) → j < length xs → t j ≡ true → g j (h j (get_or xs j d)) ≡ get_or xs j d) → touched t g (touched t h xs) ≡ xs
  touched_back d t g h xs e =
      ext_get_or d _ _ (length_touched t g (touched t h xs) ∙ length_touched t h xs)
      (λ j l. at j (rw (length_touched, length_touched) at l) (t j) refl)
    where
      at : (j : ℕ) → j < length xs → (b : Bool) → t j ≡ b → get_or (touched t g (touched t h xs)) j d ≡ get_or xs j d
      at j l true q = rw (get_d_touched t g (touched t h xs) j d (rw length_touched l), q, get_d_touched t h xs j d l, q) (e j l q)
      at j l false q = rw (get_d_touched t g (touched t h xs) j d (rw length_touched l), q, get_d_touched t h xs j d l, q)

module _ {A B : Type 0} where
  pub map_from_lem : (k n : ℕ) (g : ℕ → A → B) (h : ℕ → A) → map_from k g (from k n h) ≡ from k n (λ j. g j (h j))
  unfolding from map_from
  map_from_lem k zero g h = refl
  map_from_lem k (suc n) g h = ap (λ (xs : List B). g k (h k) ∷ xs) (map_from_lem (suc k) n g h)

pub touched_from : {A : Type 0} (n : ℕ) (t : ℕ → Bool) (g : ℕ → A → A) (h : ℕ → A) → touched t g (from 0 n h) ≡ from 0 n (λ j. cond (t j) (g j (h j)) (h j))
unfolding touched
touched_from n t g h = map_from_lem 0 n _ h
