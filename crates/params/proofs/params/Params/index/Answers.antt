-- `params::params::Params::index` meets its contract: what was asked is right, and the bucket is one of the sketch.
use mathlib.Core.Path.{sym, ap, ◌∙◌}
use Prim.Native.Nat.{ℕ, ◌+◌, ◌-◌, ◌*◌}
use native.Mathlib.Omega.{arith}
use Rattle.params.specs.Positions.{stand}
use Rattle.params.proofs.Extended.{sketched_of}
use Rattle.params.proofs.Judging.{given_done}
use Rattle.params.proofs.Rules.{asked_done, flow_done}
use Rattle.params.proofs.params.Params.index.Goals as goal

pub overflow_sub-result : goal.overflow_sub-result
overflow_sub-result c = grind (arith, asked_done)

pub overflow_mul-result : goal.overflow_mul-result
overflow_mul-result c = grind (arith, asked_done)

pub overflow_sub-i : goal.overflow_sub-i
overflow_sub-i c = grind (arith, asked_done)

pub stand-requires : goal.stand-requires
stand-requires c = let h = asked_done _ _ _ (sym c.in_ok-asked.ensures) in (h.dimensions, omega arith)

pub overflow_add-result : goal.overflow_add-result
overflow_add-result c = grind (arith, c.stand.ensures.1, asked_done)

pub returns : goal.returns
returns c =
    let s = c.args in
    given_done c.asked.ensures c.in_ok-asked.was
    (ap (λ (k : ℕ). (s.i - 1) * s.self.m + k) (c.stand.ensures.0 ∙ ap (stand _ _) (sketched_of _ _ _ (flow_done _ _ _ (sym c.in_ok-asked.ensures)) c.sketched.ensures)))
