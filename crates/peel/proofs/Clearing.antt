-- What a fill with zeros leaves: of a whole slice, and of one from index n on.
use mathlib.Core.Path.{◌≡◌, refl, ap, ◌∙◌}
use mathlib.Core.List.{List, ◌++◌, append-nil}
use Prim.Native.Nat.{ℕ, zero, suc, ◌+◌, ◌-◌, ◌≤◌}
use native.Mathlib.Omega.{arith}
use lib.ListN.{length, get_or, take, replicate, length-append, length-replicate, get_or-append}
use lib.Seq.{drop-length, length-take-le, get_or-take, get_or-append-add}
use borrow.Rule.Slice.PartMut.{put_mid, mid_of, mid_len, Post-is}
use Rattle.peel.specs.Ring.{Cleared}

module _ {A : Type 0} {z : A} where
  zeros_at : (n k : ℕ) → get_or (replicate n z) k z ≡ z
  zeros_at zero k = refl
  zeros_at (suc n) zero = refl
  zeros_at (suc n) (suc k) = zeros_at n k

  pub all_cleared : (l : List A) (n k : ℕ) → l ≡ replicate n z → get_or l k z ≡ z
  all_cleared l n k e = rw e (zeros_at n k)

  pub cleared_from : (n : ℕ) (l ys : List A) → n ≤ length l → ys ≡ replicate (length (mid_of n (length l - n) l)) z → Cleared z n l (put_mid n (length l - n) l ys)
  cleared_from n l ys h e =
      record {
        long = ap length whole ∙ length-append (take n l) ys ∙ omega (arith, long, front);
        kept = λ k a. ap (λ (x : List A). get_or x k z) whole ∙ get_or-append (take n l) ys z k (omega (arith, front)) ∙ get_or-take n l k z a;
        zeros = λ k a. ap (λ (x : List A). get_or x k z) whole ∙ past k (k - n) (omega arith);
      }
    where
      front : length (take n l) ≡ n
      front = length-take-le n l h

      long : length ys ≡ length l - n
      long = ap length e ∙ length-replicate _ z ∙ mid_len n (length l) l (omega arith)

      whole : put_mid n (length l - n) l ys ≡ take n l ++ ys
      whole = ap (λ (x : List A). take n l ++ x) (ap (λ (x : List A). ys ++ x) (Post-is n (length l) l h ∙ drop-length l) ∙ append-nil ys)

      past : (k j : ℕ) → k ≡ n + j → get_or (take n l ++ ys) k z ≡ z
      past k j a =
          let there : k ≡ length (take n l) + j = omega (arith, front) in
          rw there (get_or-append-add (take n l) ys j z ∙ all_cleared ys _ j e)
