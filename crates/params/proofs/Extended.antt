-- A flow is told from what is sketched for it, and what is sketched is found again from the flow; and both lie below the prime.
use mathlib.Core.Path.{◌≡◌, refl, sym, ap, ap₂, ◌∙◌}
use mathlib.Core.Bool.{Bool, true, false, cond, ◌&&◌}
use Prim.Native.Nat.{ℕ, ◌+◌, ◌-◌, ◌*◌, ◌/◌, ◌%◌, ◌≤◌, ◌<◌}
use native.Mathlib.Nat.{mod-lt, mod-add-div', mod-eq_of_lt}
use native.Mathlib.Omega.{arith}
use borrow.Author.Tests.{eq-eqb, eqb-true, leb-true, le-leb}
use lib.Dec.{eqb, leb}
use Rattle.params.specs.declared.params.Params.{Params}
use Rattle.params.specs.Params.{prime_of, fingerprinted, most_flow, is_flow}
use Rattle.params.specs.Sketched.{fingerprint, sketched, told, is_sketched}
use Rattle.params.proofs.Searches.{and_true}

-- f in the upper bits and a fingerprint in the last eight are told apart again
upper : (f g : ℕ) → g < 256 → (f * 256 + g) / 256 ≡ f
upper f g l =
    let below : (f * 256 + g) % 256 < 256 = mod-lt _ (omega arith) in
    omega (arith, mod-add-div' (f * 256 + g) 256)

lower : (f g : ℕ) → g < 256 → (f * 256 + g) % 256 ≡ g
lower f g l = omega (arith, mod-add-div' (f * 256 + g) 256, upper f g l)

module _ (P : Params) where
  fingerprint_small : (f : ℕ) → fingerprint P f < 256
  fingerprint_small f = mod-lt _ (omega arith)

  -- the flow is told again
  pub told_sketched : (f : ℕ) → told P (sketched P f) ≡ f
  unfolding told sketched
  told_sketched f = go (fingerprinted P)
    where
      go : (b : Bool) → cond b (cond b (f * 256 + fingerprint P f) f / 256) (cond b (f * 256 + fingerprint P f) f) ≡ f
      go true = upper f (fingerprint P f) (fingerprint_small f)
      go false = refl

  -- what is sketched for a flow passes as that
  pub sketched_is : (f : ℕ) → is_flow P f ≡ true → is_sketched P (sketched P f) ≡ true
  unfolding is_sketched sketched
  sketched_is f e = rw (told_sketched f, e) (last_bits (fingerprinted P))
    where
      last_bits : (b : Bool) → cond b (eqb (cond b (f * 256 + fingerprint P f) f % 256) (fingerprint P f)) true ≡ true
      last_bits true = eq-eqb _ _ (lower f (fingerprint P f) (fingerprint_small f))
      last_bits false = refl

  -- it tells a flow
  pub tells_flow : (x : ℕ) → is_sketched P x ≡ true → is_flow P (told P x) ≡ true
  unfolding is_sketched
  tells_flow x e = (and_true (is_flow P (told P x)) _ e).0

  -- and it is what is sketched for that flow
  pub sketched_told : (x : ℕ) → is_sketched P x ≡ true → sketched P (told P x) ≡ x
  unfolding is_sketched sketched told
  sketched_told x e = go (fingerprinted P) (and_true (is_flow P (told P x)) _ e).1
    where
      go : (b : Bool) → cond b (eqb (x % 256) (fingerprint P (cond b (x / 256) x))) true ≡ true
          → cond b (cond b (x / 256) x * 256 + fingerprint P (cond b (x / 256) x)) (cond b (x / 256) x) ≡ x
      go true h = omega (arith, eqb-true (x % 256) (fingerprint P (x / 256)) h, mod-add-div' x 256)
      go false h = refl

  -- so no two of these tell the same flow
  pub told_once : (x y : ℕ) → is_sketched P x ≡ true → is_sketched P y ≡ true → told P x ≡ told P y → x ≡ y
  told_once x y e h q = sym (sketched_told x e) ∙ ap (sketched P) q ∙ sketched_told y h

  -- what is sketched for a flow is below the prime, and is not 0
  pub sketched_below : (f : ℕ) → is_flow P f ≡ true → sketched P f < prime_of P
  unfolding sketched
  sketched_below f e = go (fingerprinted P) (leb-true f (most_flow P) (and_true (leb 1 f) _ e).1)
    where
      go : (b : Bool) → f ≤ cond b 8388606 (prime_of P - 1) → cond b (f * 256 + fingerprint P f) f < prime_of P
      go true h = omega (arith, fingerprint_small f)
      go false h = omega arith

  pub is_sketched_below : (x : ℕ) → is_sketched P x ≡ true → x < prime_of P
  is_sketched_below x e = rw (sketched_told x e) at (sketched_below (told P x) (tells_flow x e))

  pub is_sketched_above : (x : ℕ) → is_sketched P x ≡ true → 1 ≤ x
  unfolding told
  is_sketched_above x e = go (fingerprinted P) (leb-true 1 (told P x) (and_true (leb 1 (told P x)) _ (tells_flow x e)).0)
    where
      go : (b : Bool) → 1 ≤ cond b (x / 256) x → 1 ≤ x
      go true h = omega (arith, mod-add-div' x 256)
      go false h = h

  -- what the code computes for a flow is what is sketched for it
  pub sketched_of : (f x : ℕ) → is_flow P f ≡ true → x ≡ sketched P f % 4294967296 → x ≡ sketched P f
  sketched_of f x e h = h ∙ mod-eq_of_lt (omega (arith, sketched_below f e))

  -- for flow 0, which is none, it is below the prime too
  pub zero_below : sketched P 0 < prime_of P
  unfolding sketched
  zero_below = go (fingerprinted P)
    where
      go : (b : Bool) → cond b (0 * 256 + fingerprint P 0) 0 < prime_of P
      go true = omega (arith, fingerprint_small 0)
      go false = omega arith

  -- 0 tells flow 0
  pub told_zero : told P 0 ≡ 0
  unfolding told
  told_zero = go (fingerprinted P)
    where
      go : (b : Bool) → cond b (0 / 256) 0 ≡ 0
      go true = refl
      go false = refl

  -- in the plain profile a number is what is sketched for a flow where it is a flow, and that is every number from 1 up to the prime
  pub plain_is : (x : ℕ) → fingerprinted P ≡ false → is_sketched P x ≡ is_flow P x
  unfolding is_sketched told
  plain_is x plain =
      ap₂ (λ (f : ℕ) (b : Bool). is_flow P f && cond b (eqb (x % 256) (fingerprint P (told P x))) true) (ap (λ (b : Bool). cond b (x / 256) x) plain) plain
      ∙ alone (is_flow P x)
    where
      alone : (b : Bool) → (b && true) ≡ b
      alone true = refl
      alone false = refl

  pub plain_sketched : (x : ℕ) → fingerprinted P ≡ false → 1 ≤ x → x < prime_of P → is_sketched P x ≡ true
  plain_sketched x plain low high = plain_is x plain ∙ rw (plain, le-leb 1 x low, le-leb x (prime_of P - 1) (omega arith))
