-- What is sketched for a flow: the flow itself, or, with fingerprints, its extended number; and the flow that an extended number tells.
use Rattle.std.specs.Prelude.{Bool, true, cond, ◌&&◌, ℕ, ◌+◌, ◌*◌, ◌/◌, ◌%◌, eqb}
use Rattle.params.specs.declared.params.Params.{Params}
use Rattle.params.specs.Params.{prime_of, fingerprinted, is_flow}

-- the fingerprint of flow f, by the fifth pair: eight bits
abbrev pub fingerprint : Params → ℕ → ℕ
fingerprint P f = (P.a5 * f + P.b5) % prime_of P % 256

-- what is sketched for flow f, positions included: f, or f * 256 + its fingerprint
unfoldable pub sketched : Params → ℕ → ℕ
sketched P f = cond (fingerprinted P) (f * 256 + fingerprint P f) f

-- the flow that x tells: x, or all but its last eight bits
unfoldable pub told : Params → ℕ → ℕ
told P x = cond (fingerprinted P) (x / 256) x

-- x is what is sketched for a flow: it tells a flow, and with fingerprints its last eight bits are the fingerprint of the rest
unfoldable pub is_sketched : Params → ℕ → Bool
is_sketched P x = is_flow P (told P x) && cond (fingerprinted P) (eqb (x % 256) (fingerprint P (told P x))) true
