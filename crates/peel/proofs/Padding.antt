-- A slice that is 0 from an index on, as a list filled up with zeros, and the slices of a table that end so; and back.
use mathlib.Core.Path.{◌≡◌, refl, sym, ap, ap₂, ◌∙◌}
use mathlib.Core.List.{List, [], ◌∷◌, ◌++◌}
use Prim.Native.Nat.{ℕ, zero, suc, ◌+◌, ◌-◌, ◌<◌, ◌≤◌}
use native.Mathlib.Omega.{arith}
use lib.IntN.{ℤ, pos}
use lib.ListN.{length, get_or, take, drop, replicate, length-drop, take-append-drop}
use lib.Seq.{length-take-le, get_or-take, get_or-drop, ext_get_or}
use Rattle.params.specs.Lists.{from, padded}
use Rattle.sketch.specs.Sketch.{Entry}
use Rattle.sketch.proofs.Tables.{length_from, from_at}
use Rattle.peel.specs.Table.{row, table_of}
use Rattle.peel.specs.Peel.{flows_of, numbers_of}
use Rattle.peel.proofs.Froms.{from_first}

module _ {A : Type 0} (z : A) where
  -- z everywhere
  pub all_zeros : (l : List A) → ((k : ℕ) → get_or l k z ≡ z) → l ≡ replicate (length l) z
  all_zeros [] h = refl
  all_zeros (x ∷ l) h = ap₂ {B = List A} ◌∷◌ (h 0) (all_zeros l (λ k. h (suc k)))

  -- the first n, and z from there on
  first_positions : (l : List A) (n : ℕ) → n ≤ length l → take n l ≡ from 0 n (λ i. get_or l i z)
  first_positions l n u =
      ext_get_or z _ _ (length-take-le n l u ∙ sym (length_from 0 n _))
      (λ i h. let b : i < n = rw (length-take-le n l u) at h in get_or-take n l i z b ∙ sym (from_at n _ i z b))

  zeros_padded : (l : List A) (n : ℕ) → n ≤ length l → ((k : ℕ) → n ≤ k → get_or l k z ≡ z) → l ≡ padded (length l) z (from 0 n (λ i. get_or l i z))
  unfolding padded
  zeros_padded l n u h =
      sym (take-append-drop n l)
      ∙ ap₂ {B = List A} ◌++◌ (first_positions l n u)
      (all_zeros (drop n l) (λ k. get_or-drop n l k z ∙ h (n + k) (omega arith))
      ∙ ap (λ (k : ℕ). replicate k z) (length-drop n l ∙ ap (λ (k : ℕ). length l - k) (sym (length_from 0 n (λ i. get_or l i z)))))

flows_from_lem : (k n : ℕ) (E : ℕ → Entry) → flows_of (from k n E) ≡ from k n (λ i. (E i).flow)
unfolding from flows_of
flows_from_lem k zero E = refl
flows_from_lem k (suc n) E = ap (λ (l : List ℕ). (E k).flow ∷ l) (flows_from_lem (suc k) n E)

numbers_from_lem : (k n : ℕ) (E : ℕ → Entry) → numbers_of (from k n E) ≡ from k n (λ i. (E i).number)
unfolding from numbers_of
numbers_from_lem k zero E = refl
numbers_from_lem k (suc n) E = ap (λ (l : List ℤ). (E k).number ∷ l) (numbers_from_lem (suc k) n E)

-- two slices that hold the table T in their first n slots
module _ (fs : List ℕ) (ns : List ℤ) (n : ℕ) (T : List Entry) (t : table_of fs ns n ≡ T) where
  pub entries_many : n ≡ length T
  unfolding table_of
  entries_many = sym (length_from 0 n (row fs ns)) ∙ ap length t

  pub padded_flows : (L : ℕ) → length fs ≡ L → n ≤ L → ((k : ℕ) → n ≤ k → get_or fs k 0 ≡ 0) → fs ≡ padded L 0 (flows_of T)
  unfolding table_of
  padded_flows L e u h =
      zeros_padded 0 fs n (omega arith) h
      ∙ ap₂ (λ (m : ℕ) (l : List ℕ). padded m 0 l) e (sym (flows_from_lem 0 n (row fs ns)) ∙ ap flows_of t)

  pub padded_numbers : (L : ℕ) → length ns ≡ L → n ≤ L → ((k : ℕ) → n ≤ k → get_or ns k (pos 0) ≡ pos 0) → ns ≡ padded L (pos 0) (numbers_of T)
  unfolding table_of
  padded_numbers L e u h =
      zeros_padded (pos 0) ns n (omega arith) h
      ∙ ap₂ (λ (m : ℕ) (l : List ℤ). padded m (pos 0) l) e (sym (numbers_from_lem 0 n (row fs ns)) ∙ ap numbers_of t)

pub flows_many : (T : List Entry) → length (flows_of T) ≡ length T
unfolding flows_of
flows_many [] = refl
flows_many (e ∷ es) = ap suc (flows_many es)

pub numbers_many : (T : List Entry) → length (numbers_of T) ≡ length T
unfolding numbers_of
numbers_many [] = refl
numbers_many (e ∷ es) = ap suc (numbers_many es)

-- the table read off its slices, whatever is past it
table_back : (T : List Entry) (xs : List ℕ) (ys : List ℤ) → table_of (flows_of T ++ xs) (numbers_of T ++ ys) (length T) ≡ T
unfolding table_of flows_of numbers_of from
table_back [] xs ys = refl
table_back (e ∷ es) xs ys =
    from_first (length es) (row (flows_of (e ∷ es) ++ xs) (numbers_of (e ∷ es) ++ ys))
    ∙ ap (λ (t : List Entry). e ∷ t) (table_back es xs ys)

pub table_padded : (T : List Entry) (n m : ℕ) → table_of (padded n 0 (flows_of T)) (padded m (pos 0) (numbers_of T)) (length T) ≡ T
unfolding padded
table_padded T n m = table_back T (replicate (n - length (flows_of T)) 0) (replicate (m - length (numbers_of T)) (pos 0))
