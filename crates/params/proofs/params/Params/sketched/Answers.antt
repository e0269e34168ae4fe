-- `params::params::Params::sketched` meets its contract: a flow without a fingerprint, or the extended number modulo 2^32.
use native.Mathlib.Nat.{mod-eq_of_lt}
use native.Mathlib.Omega.{arith}
use mathlib.Core.Path.{sym}
use Rattle.params.specs.Sketched.{sketched}
use Rattle.params.proofs.params.Params.sketched.Goals as goal

pub returns-then-fingerprinted : goal.returns-then-fingerprinted
unfolding sketched
returns-then-fingerprinted c = rw (← c.if-fingerprinted.ensures, ← c.position_by-fingerprint.ensures.0) (omega arith)

pub returns-else-fingerprinted : goal.returns-else-fingerprinted
unfolding sketched
returns-else-fingerprinted c = rw (← c.if-fingerprinted.ensures) (sym (mod-eq_of_lt (omega arith)))
