-- The purity test, and the rule of a sketch's parameters.
use Rattle.std.specs.Prelude.{Bool, cond, ℕ, ℤ, None, Option, Some}
use Rattle.field.specs.Residue.{is_multiple}
use Rattle.field.specs.Flow.{flow}
use Rattle.params.specs.declared.params.Params.{Params}
use Rattle.params.specs.Params.{prime_of, good_dimensions}
use Rattle.params.specs.Sketched.{is_sketched}
use Rattle.params.specs.Positions.{bucket_of, sketched_stands}
use Rattle.walk.specs.Walk.{Rule}

-- what the test found, as two numbers: 0 where the bucket is not pure, and then 0; 1 where it is, with what is sketched for its flow
abbrev pub found_number : Option ℕ → ℕ
found_number None = 0
found_number (Some x) = 1

abbrev pub found_sketched : Option ℕ → ℕ
found_sketched None = 0
found_sketched (Some x) = x

-- a bucket k with count c and idsum s, modulo p: it passes when c is no multiple of p and the one number x with c * x congruent to s stands
-- there. Any count is taken; within the limits 0 is the only multiple, so that there this is the scope's 'c is not 0'
unfoldable pub test_in : ℕ → (ℕ → ℕ → Bool) → ℕ → ℤ → ℕ → Option ℕ
test_in p on k c s =
    cond (is_multiple p c)
    None
    (cond (on (flow p c s) k) (Some (flow p c s)) None)

-- the wide test takes any number that stands in the bucket, whether it is sketched for a flow or not
abbrev pub wide_test : Params → ℕ → ℤ → ℕ → Option ℕ
wide_test P = test_in (prime_of P) (sketched_stands P)

-- pure only where what was found passes `ok`
abbrev pub only_if : (ℕ → Bool) → Option ℕ → Option ℕ
only_if ok None = None
only_if ok (Some x) = cond (ok x) (Some x) None

-- the purity test: the bucket passes the wide test, and its number is what is sketched for a flow. So one whose flow comes out as 0 is not
-- pure, and with fingerprints one whose last eight bits are not the fingerprint of the rest
abbrev pub pure_test : Params → ℕ → ℤ → ℕ → Option ℕ
pure_test P k c s = only_if (is_sketched P) (wide_test P k c s)

-- the same where the dimensions may break a rule: then nothing is pure
abbrev pub guarded_test : Params → ℕ → ℤ → ℕ → Option ℕ
guarded_test P k c s = cond (good_dimensions P) (pure_test P k c s) None

-- what the walk of a sketch with these parameters goes by
abbrev pub rule_of : Params → Rule
rule_of P =
    record {
      prime = prime_of P;
      arrays = P.d;
      index = bucket_of P;
      stands = sketched_stands P;
      test = pure_test P;
    }
