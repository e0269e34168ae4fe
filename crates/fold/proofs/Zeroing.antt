-- Laws of a list of which a front is stored anew and the rest is zeroed.
use mathlib.Core.Path.{◌≡◌, sym, ap, ◌∙◌}
use mathlib.Core.Bool.{Bool, cond}
use mathlib.Core.List.{List}
use Prim.Native.Nat.{ℕ, ◌-◌, ◌≤◌, ◌<◌}
use native.Mathlib.Decide.{dec_lt}
use native.Mathlib.Nat.{zero-add}
use native.Mathlib.Omega.{arith}
use borrow.Author.Tests.{lt-ltb, le-ltb}
use lib.Dec.{ltb}
use lib.ListN.{length, get_or, take, replicate, length-replicate, get_or-append}
use lib.Seq.{ext_get_or, get_or-take, length-take-le}
use borrow.Rule.Slice.PartMut.{mid_of, put_mid, same_len_mid, mid_len}
use Rattle.std.proofs.lemmas.List.{get_or-append_right, get_or-replicate}
use Rattle.params.specs.Lists.{map_from, touched, from, padded}
use Rattle.params.proofs.Changes.{up_to, length_map_from, get_d_map_from, length_touched, get_d_touched, padded_long, padded_front, padded_past}
use Rattle.sketch.proofs.Tables.{length_from, from_at}

module _ {A : Type 0} (z : A) (first : ℕ) (xs : List A) where
  -- a place before `first` is as it was, and one from there on is zero
  abbrev pub zeroed : ℕ → A → A
  zeroed k x = cond (ltb k first) x z

  -- the places from `first` on come back as zeros
  pub zeroed_tail : first ≤ length xs → (ys : List A) → ys ≡ replicate (length (mid_of first (length xs - first) xs)) z → put_mid first (length xs - first) xs ys ≡ map_from 0 zeroed xs
  zeroed_tail h ys e =
      ext_get_or z _ _ (long ∙ sym (length_map_from 0 zeroed xs))
      (λ j l. let inside : j < length xs = rw long at l in at j inside (dec_lt j first) ∙ sym (get_d_map_from 0 zeroed xs j z inside ∙ ap (λ (k : ℕ). zeroed k (get_or xs j z)) (zero-add j)))
    where
      zeros : length ys ≡ length xs - first
      zeros = ap length e ∙ length-replicate _ z ∙ mid_len first (length xs) xs (omega arith)

      long : length (put_mid first (length xs - first) xs ys) ≡ length xs
      long = same_len_mid first (length xs - first) xs ys (ap length e ∙ length-replicate _ z)

      before : length (take first xs) ≡ first
      before = length-take-le first xs h

      at : (j : ℕ) → j < length xs → Dec (j < first) → get_or (put_mid first (length xs - first) xs ys) j z ≡ zeroed j (get_or xs j z)
      at j l (yes p) = rw (lt-ltb j first p) (get_or-append (take first xs) _ z j (omega (arith, before)) ∙ get_or-take first xs j z p)
      at j l (no p) =
          rw (le-ltb j first (omega arith))
          (get_or-append_right (take first xs) _ first j z before (omega arith)
          ∙ get_or-append ys _ z (j - first) (omega (arith, zeros))
          ∙ rw e (get_or-replicate _ (j - first) z z (omega (arith, zeros, ap length e ∙ length-replicate _ z))))

-- a front stored anew and zeros behind it
pub front_and_zeros : {A : Type 0} (z : A) (f : ℕ → A) (xs : List A) (first n : ℕ) → length xs ≡ n → first ≤ n
    → map_from 0 (zeroed z first xs) (touched (up_to first) (λ k x. f k) xs) ≡ padded n z (from 0 first f)
front_and_zeros {A} z f xs first n long l =
    ext_get_or z _ _ same_length (λ j e. at j (rw (length_map_from, length_touched) at e) (dec_lt j first))
  where
    stored : List A
    stored = touched (up_to first) (λ k x. f k) xs

    same_length : length (map_from 0 (zeroed z first xs) stored) ≡ length (padded n z (from 0 first f))
    same_length = length_map_from 0 _ stored ∙ length_touched (up_to first) _ xs ∙ long ∙ sym (padded_long n z (from 0 first f) (omega (arith, length_from 0 first f)))

    here : (j : ℕ) → j < length xs → get_or (map_from 0 (zeroed z first xs) stored) j z ≡ cond (ltb j first) (cond (ltb j first) (f j) (get_or xs j z)) z
    here j e =
        get_d_map_from 0 (zeroed z first xs) stored j z (rw length_touched e)
        ∙ ap (λ (k : ℕ). zeroed z first xs k (get_or stored j z)) (zero-add j)
        ∙ ap (zeroed z first xs j) (get_d_touched (up_to first) (λ k x. f k) xs j z e)

    at : (j : ℕ) → j < length xs → Dec (j < first) → get_or (map_from 0 (zeroed z first xs) stored) j z ≡ get_or (padded n z (from 0 first f)) j z
    at j e (yes p) =
        here j e
        ∙ ap (λ (b : Bool). cond b (cond b (f j) (get_or xs j z)) z) (lt-ltb j first p)
        ∙ sym (padded_front n z (from 0 first f) j (omega (arith, length_from 0 first f)) ∙ from_at first f j z p)
    at j e (no p) =
        here j e
        ∙ ap (λ (b : Bool). cond b (cond b (f j) (get_or xs j z)) z) (le-ltb j first (omega arith))
        ∙ sym (padded_past n z (from 0 first f) j (omega (arith, length_from 0 first f)))
