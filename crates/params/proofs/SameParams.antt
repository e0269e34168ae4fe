-- Parameters are the same as themselves, and under the same parameters the same is sketched for each flow, and stands in the same buckets.
use mathlib.Core.Path.{◌≡◌, refl, sym, ap, ap₂, ◌∙◌, fun_ext}
use mathlib.Core.Bool.{Bool, true, false, not, ◌&&◌}
use Prim.Native.Nat.{ℕ, ◌*◌, ◌/◌, ◌%◌, ◌<◌}
use native.Mathlib.Omega.{arith}
use borrow.Author.Tests.{ltb-true, eqb-true, eq-eqb}
use lib.Dec.{eqb, ltb}
use lib.ListN.{length, get_or}
use lib.Pointwise.{pointwise, bytes_decides}
use lib.Seq.{ext_get_or}
use Rattle.params.specs.declared.params.Params.{Params}
use Rattle.params.specs.Lists.{below}
use Rattle.params.specs.Params.{size, fingerprinted, resized, good_params, same_pair, same_params}
use Rattle.params.specs.Sketched.{sketched}
use Rattle.params.specs.Positions.{stand, stands_in, sketched_stands, stands}
use Rattle.params.proofs.Searches.{and_true, below_at, all_below}
use Rattle.params.proofs.Rules.{good_dimensions_lem}

-- parameters are the same as themselves
pub same_itself : (P : Params) → same_params P P ≡ true
unfolding same_params same_pair
same_itself P =
    rw (eq-eqb P.d P.d refl, eq-eqb P.m P.m refl, all_below 4 (same_pair P P) (λ i l. rw (eq-eqb (get_or P.a i 0) (get_or P.a i 0) refl, eq-eqb (get_or P.b i 0) (get_or P.b i 0) refl)), eq-eqb P.a5 P.a5 refl, eq-eqb P.b5 P.b5 refl)

-- two sets of parameters that the test finds the same
module _ (P Q : Params) (same : same_params P Q ≡ true) where
  arrays_same : ((eqb P.d Q.d && eqb P.m Q.m) ≡ true) × (below 4 (same_pair P Q) ≡ true)
  unfolding same_params
  arrays_same = and_true (eqb P.d Q.d && eqb P.m Q.m) (below 4 (same_pair P Q)) (and_true (eqb P.d Q.d && eqb P.m Q.m && below 4 (same_pair P Q)) _ same).0

  pub dimensions_same : (P.d ≡ Q.d) × (P.m ≡ Q.m)
  dimensions_same =
      let e = and_true (eqb P.d Q.d) (eqb P.m Q.m) arrays_same.0 in
      (eqb-true P.d Q.d e.0, eqb-true P.m Q.m e.1)

  pub fifth_same : (P.a5 ≡ Q.a5) × (P.b5 ≡ Q.b5)
  unfolding same_params
  fifth_same =
      let e = and_true (eqb P.a5 Q.a5) (eqb P.b5 Q.b5) (and_true (eqb P.d Q.d && eqb P.m Q.m && below 4 (same_pair P Q)) _ same).1 in
      (eqb-true P.a5 Q.a5 e.0, eqb-true P.b5 Q.b5 e.1)

  -- so the same is sketched for each flow
  pub sketched_same : sketched P ≡ sketched Q
  unfolding sketched
  sketched_same = let e = fifth_same in fun_ext (λ f. rw (e.0, e.1))

  pub size_same : size P ≡ size Q
  size_same = ap₂ ◌*◌ dimensions_same.0 dimensions_same.1

  pub pair_same : (i : ℕ) → i < 4 → (get_or P.a i 0 ≡ get_or Q.a i 0) × (get_or P.b i 0 ≡ get_or Q.b i 0)
  unfolding same_pair
  pair_same i l =
      let pairs = arrays_same.1 in
      let e = and_true (eqb (get_or P.a i 0) (get_or Q.a i 0)) (eqb (get_or P.b i 0) (get_or Q.b i 0)) (below_at 4 i (same_pair P Q) pairs l) in
      (eqb-true _ _ e.0, eqb-true _ _ e.1)

  -- and so are they with other buckets in each array
  pub resized_same : (n : ℕ) → same_params (resized P n) (resized Q n) ≡ true
  unfolding same_params same_pair
  resized_same n =
      rw (eq-eqb P.d Q.d dimensions_same.0, eq-eqb n n refl, arrays_same.1, eq-eqb P.a5 Q.a5 fifth_same.0, eq-eqb P.b5 Q.b5 fifth_same.1)

  pub stand_same : (i f : ℕ) → i < 4 → stand P i f ≡ stand Q i f
  unfolding stand
  stand_same i f l = let e = pair_same i l in rw (e.0, e.1, dimensions_same.1)

  -- a bucket is in an array, which is one of the first four, or in none
  stands_at : good_params P ≡ true → (f k : ℕ) (b : Bool) → ltb (k / P.m) P.d ≡ b
      → (b && eqb (stand P (k / P.m) f) (k % P.m)) ≡ (b && eqb (stand Q (k / P.m) f) (k % P.m))
  stands_at g f k true e = ap (λ (j : ℕ). eqb j (k % P.m)) (stand_same (k / P.m) f (omega (arith, ltb-true (k / P.m) P.d e, good_dimensions_lem P g)))
  stands_at g f k false e = refl

  sketched_stands_same : good_params P ≡ true → sketched_stands P ≡ sketched_stands Q
  unfolding stands_in
  sketched_stands_same g =
      fun_ext (λ f. fun_ext (λ k.
      stands_at g f k (ltb (k / P.m) P.d) refl
      ∙ ap₂ (λ (d m : ℕ). ltb (k / m) d && eqb (stand Q (k / m) f) (k % m)) dimensions_same.0 dimensions_same.1))

  pub stands_same : good_params P ≡ true → stands P ≡ stands Q
  stands_same g = ap₂ {C = ℕ → ℕ → Bool} (λ (t : ℕ → ℕ → Bool) (u : ℕ → ℕ) (f : ℕ). t (u f)) (sketched_stands_same g) sketched_same

  -- so they are of the same profile
  pub same_profile : fingerprinted P ≡ fingerprinted Q
  same_profile = ap (λ (n : ℕ). not (eqb n 0)) fifth_same.0

-- what `==` finds, which compares each number and each array: two tests that hold of the same
both_hold : (s t : Bool) → (s ≡ true → t ≡ true) → (t ≡ true → s ≡ true) → s ≡ t
both_hold true t h k = sym (h refl)
both_hold false true h k = k refl
both_hold false false h k = refl

abbrev equal : Params → Params → Bool
equal P Q = eqb P.d Q.d && (eqb P.m Q.m && (pointwise eqb P.a Q.a && (pointwise eqb P.b Q.b && (eqb P.a5 Q.a5 && eqb P.b5 Q.b5))))

all_equal : (P Q : Params) → equal P Q ≡ true → P ≡ Q
all_equal P Q e =
    let h = and_true (eqb P.d Q.d) _ e in
    let k = and_true (eqb P.m Q.m) _ h.1 in
    let l = and_true (pointwise eqb P.a Q.a) _ k.1 in
    let m = and_true (pointwise eqb P.b Q.b) _ l.1 in
    let n = and_true (eqb P.a5 Q.a5) _ m.1 in
    λ i. record { d = eqb-true _ _ h.0 i; m = eqb-true _ _ k.0 i; a = (bytes_decides P.a Q.a).0 l.0 i; b = (bytes_decides P.b Q.b).0 m.0 i; a5 = eqb-true _ _ n.0 i; b5 = eqb-true _ _ n.1 i }

pub equal_same : (P Q : Params) → length P.a ≡ 4 → length Q.a ≡ 4 → length P.b ≡ 4 → length Q.b ≡ 4 → equal P Q ≡ same_params P Q
equal_same P Q h k l m =
    both_hold (equal P Q) (same_params P Q)
    (λ e. ap (same_params P) (sym (all_equal P Q e)) ∙ same_itself P)
    (λ e.
    let n = dimensions_same P Q e in
    let o = fifth_same P Q e in
    let a : P.a ≡ Q.a = ext_get_or 0 _ _ (h ∙ sym k) (λ i u. (pair_same P Q e i (omega arith)).0) in
    let b : P.b ≡ Q.b = ext_get_or 0 _ _ (l ∙ sym m) (λ i u. (pair_same P Q e i (omega arith)).1) in
    rw (eq-eqb _ _ n.0, eq-eqb _ _ n.1, (bytes_decides _ _).1 a, (bytes_decides _ _).1 b, eq-eqb _ _ o.0, eq-eqb _ _ o.1))
