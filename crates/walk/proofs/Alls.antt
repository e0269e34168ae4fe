-- Laws of `all` and of `nothing_remains`, place by place.
use Rattle.std.proofs.Common.{rules}
use mathlib.Core.Path.{◌≡◌, refl}
use mathlib.Core.Bool.{Bool, true, ◌&&◌}
use mathlib.Core.List.{List, [], ◌∷◌}
use Prim.Native.Nat.{ℕ, zero, suc, ◌<◌}
use native.Mathlib.Omega.{arith}
use borrow.Author.Tests.{eq-eqb, eqb-true}
use lib.Dec.{eqb}
use lib.IntN.{pos}
use lib.ListN.{length, get_or, get_or-eq_default}
use Rattle.sketch.specs.Sketch.{Sketch, count_in, idsum_in}
use Rattle.params.proofs.Searches.{and_true}
use Rattle.walk.specs.Walk.{all, nothing_remains}
use Rattle.buckets.specs.Buckets.{is_zero}
use Rattle.buckets.proofs.Zeros.{is_zero_lem, zero_is}

pub both_true : (s t : Bool) → s ≡ true → t ≡ true → (s && t) ≡ true
both_true s t e h = rw (e, h)

module _ {A : Type 0} (t : A → Bool) where
  pub all_at : (xs : List A) (i : ℕ) (d : A) → all t xs ≡ true → i < length xs → t (get_or xs i d) ≡ true
  unfolding all
  all_at [] i d e l = absurd (omega arith)
  all_at (x ∷ xs) zero d e l = (and_true (t x) (all t xs) e).0
  all_at (x ∷ xs) (suc i) d e l = all_at xs i d (and_true (t x) (all t xs) e).1 (omega arith)

  pub all_of : (xs : List A) (d : A) → ((i : ℕ) → i < length xs → t (get_or xs i d) ≡ true) → all t xs ≡ true
  unfolding all
  all_of [] d h = refl
  all_of (x ∷ xs) d h = both_true (t x) (all t xs) (h 0 (omega arith)) (all_of xs d (λ i l. h (suc i) (omega arith)))

-- every count and every idsum is 0
module _ (S : Sketch) where
  pub nothing_count : nothing_remains S ≡ true → (k : ℕ) → count_in S k ≡ pos 0
  unfolding nothing_remains
  nothing_count e k = search (rules, all_at, and_true, get_or-eq_default, zero_is)

  pub nothing_idsum : nothing_remains S ≡ true → (k : ℕ) → idsum_in S k ≡ 0
  unfolding nothing_remains
  nothing_idsum e k = search (rules, all_at, and_true, eqb-true, get_or-eq_default)

  pub all_zero_lem : ((k : ℕ) → count_in S k ≡ pos 0) → ((k : ℕ) → idsum_in S k ≡ 0) → nothing_remains S ≡ true
  unfolding nothing_remains
  all_zero_lem c s =
      both_true _ _
      (all_of is_zero S.counts (pos 0) (λ k l. is_zero_lem _ (c k)))
      (all_of (λ s. eqb s 0) S.idsums 0 (λ k l. eq-eqb _ 0 (s k)))
