-- Laws of `%` over any modulus p that the library of native numbers lacks. Each goes by `same_rest`, with the multiples of p written out, and `omega`, which multiplies products out.
use mathlib.Core.Path.{◌≡◌, sym, ap, ◌∙◌}
use Prim.Native.Nat.{ℕ, ◌+◌, ◌*◌, ◌/◌, ◌%◌, ◌^◌, ◌<◌}
use native.Mathlib.Nat.{add-mul-mod_self_right, mod-add-div', mod-eq_of_lt, mul-le-mul, le-pred_of_lt}
use native.Mathlib.Omega.{arith}

-- a and b leave one remainder where they differ by multiples of p
pub same_rest : (p a b k l : ℕ) → a + k * p ≡ b + l * p → a % p ≡ b % p
same_rest p a b k l e =
    sym (add-mul-mod_self_right a k p) ∙ ap (λ (n : ℕ). n % p) e ∙ add-mul-mod_self_right b l p

-- and where they leave one remainder, they differ by these multiples
pub rest_same : (p a b : ℕ) → a % p ≡ b % p → a + b / p * p ≡ b + a / p * p
rest_same p a b e = omega (arith, mod-add-div' a p, mod-add-div' b p)

-- the remainder is the number below p that differs by a multiple of p
pub rest_is : (k r x p : ℕ) → r + k * p ≡ x → r < p → r ≡ x % p
rest_is k r x p e l = sym (mod-eq_of_lt l) ∙ same_rest p r x k 0 (omega arith)

-- a summand that both sides have may go
pub add_rest_cancel : (a b c p : ℕ) → (a + c) % p ≡ (b + c) % p → a % p ≡ b % p
add_rest_cancel a b c p e =
    same_rest p a b ((b + c) / p) ((a + c) / p) (omega (arith, rest_same p (a + c) (b + c) e))

-- a factor may be replaced by its remainder
pub mul_rest_left : (a b p : ℕ) → (a % p * b) % p ≡ (a * b) % p
mul_rest_left a b p =
    same_rest p _ _ (a / p * b) 0 (omega (arith, ap (λ (n : ℕ). n * b) (mod-add-div' a p)))

pub mul_rest_right : (a b p : ℕ) → (a * (b % p)) % p ≡ (a * b) % p
mul_rest_right a b p =
    same_rest p _ _ (a * (b / p)) 0 (omega (arith, ap (λ (n : ℕ). a * n) (mod-add-div' b p)))

-- i undoes the product with c where c * i is one more than a multiple of p
pub undo : (c i f p : ℕ) → (c * i) % p ≡ 1 → (i * ((c * f) % p)) % p ≡ f % p
undo c i f p e =
    mul_rest_right i (c * f) p
    ∙ same_rest p (i * (c * f)) f 0 ((c * i) / p * f) (omega (arith, ap (λ (n : ℕ). n * f) (mod-add-div' (c * i) p), ap (λ (n : ℕ). n * f) e))

-- a product of two 32-bit numbers is a 64-bit number
pub product_fits : (a b : ℕ) → a < 2 ^ 32 → b < 2 ^ 32 → a * b < 2 ^ 64
product_fits a b ha hb = omega (arith, mul-le-mul (le-pred_of_lt ha) (le-pred_of_lt hb))
