-- The one flow of a bucket: for a prime p, a count c that is no multiple of p and an idsum s below p, exactly one f below p has c * f congruent to s.
use mathlib.Core.Path.{◌≡◌, refl, sym, ap, ◌∙◌}
use Prim.Native.Nat.{ℕ, ◌*◌, ◌/◌, ◌%◌, ◌<◌}
use native.Mathlib.Nat.{mod-eq_of_lt, mod-add-div'}
use native.Mathlib.Omega.{arith}
use lib.IntN.{ℤ, pos, negsuc, nat_abs, ◌*ℤ◌}
use Rattle.field.specs.Prime.{Prime}
use Rattle.field.specs.Residue.{residue}
use Rattle.field.specs.Flow.{inverse_in, inverse, flow}
use Rattle.field.proofs.Remainders.{same_rest, mul_rest_right}
use Rattle.field.proofs.Residues.{residue_pos, residue_below, residue_mul, residue_nonzero}
use Rattle.field.proofs.Inverses.{prime_pos, inverse_solves, mul_rest_cancel}

-- f is below p, c times f has the residue s, and no other number below p is such
pub record TheFlow (p : ℕ) (c : ℤ) (s f : ℕ) : Type 0 where
  pub below : f < p
  pub solves : residue p (c *ℤ pos f) ≡ s
  pub only : (g : ℕ) → g < p → residue p (c *ℤ pos g) ≡ s → g ≡ f

module _ (p : ℕ) (prime : Prime p) (c : ℤ) (some : 0 < residue p c) where
  some_rest : 0 < residue p c % p
  some_rest = rw (mod-eq_of_lt (residue_below p (prime_pos p prime) c)) some

  -- the residue of a product with a flow, by the count's residue
  times : (f : ℕ) → residue p (c *ℤ pos f) ≡ (residue p c * f) % p
  times f =
      residue_mul p (prime_pos p prime) c (pos f)
      ∙ ap (λ (n : ℕ). (residue p c * n) % p) (residue_pos p (prime_pos p prime) f)
      ∙ mul_rest_right (residue p c) f p

  solves_rest : (s : ℕ) → s < p → (residue p c * flow p c s) % p ≡ s
  unfolding flow
  solves_rest s l =
      let i = inverse p (residue p c) in
      ap (λ (n : ℕ). (residue p c * n) % p) (residue_pos p (prime_pos p prime) (s * i))
      ∙ mul_rest_right (residue p c) (s * i) p
      ∙ same_rest p (residue p c * (s * i)) s 0 (residue p c * i / p * s) (omega (arith, ap (λ (n : ℕ). n * s) (mod-add-div' (residue p c * i) p), ap (λ (n : ℕ). n * s) (inverse_solves p prime (residue p c) some_rest)))
      ∙ mod-eq_of_lt l

  pub the_flow : (s : ℕ) → s < p → TheFlow p c s (flow p c s)
  unfolding flow
  the_flow s l =
      record {
        below = residue_below p (prime_pos p prime) _;
        solves = times (flow p c s) ∙ solves_rest s l;
        only = λ g u e.
            sym (mod-eq_of_lt u)
            ∙ mul_rest_cancel p prime (residue p c) g (flow p c s) some_rest (sym (times g) ∙ e ∙ sym (solves_rest s l))
            ∙ mod-eq_of_lt (residue_below p (prime_pos p prime) _);
      }

-- what a bucket that holds one flow gives back: of c packets of f, f
pub flow_of_one : (p : ℕ) → Prime p → (c : ℤ) (f : ℕ) → 0 < nat_abs c → nat_abs c < p → f < p → flow p c (residue p (c *ℤ pos f)) ≡ f
flow_of_one p prime c f h l u =
    let pp = prime_pos p prime in
    sym ((the_flow p prime c (residue_nonzero p pp c h l) (residue p (c *ℤ pos f)) (residue_below p pp (c *ℤ pos f))).only f u refl)

-- a negative count, and both primes
example_first : flow 2147483647 (negsuc 3) 2147483619 ≡ 7
unfolding flow inverse inverse_in residue
example_first = refl

example_second : flow 4294967291 (negsuc 0) 5 ≡ 4294967286
unfolding flow inverse inverse_in residue
example_second = refl
