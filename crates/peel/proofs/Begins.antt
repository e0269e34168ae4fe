-- From what peeling is lent to the walk's first state.
use mathlib.Core.Path.{◌≡◌}
use mathlib.Core.List.{[]}
use Prim.Native.Nat.{ℕ, ◌*◌, ◌<◌}
use native.Mathlib.Nat.{mul-le-mul}
use native.Mathlib.Omega.{arith}
use Rattle.params.specs.declared.params.Params.{Params}
use Rattle.params.specs.Lists.{from}
use Rattle.params.specs.Params.{Dimensions}
use Rattle.walk.specs.Walk.{State, first_queue}
use Rattle.peel.specs.Slices.{Slices, lent_sketch}
use Rattle.peel.specs.Ring.{ring}
use Rattle.peel.specs.Table.{table_of}
use Rattle.peel.specs.Rep.{state_of}

-- there is a bucket
pub size_some : {P : Params} → Dimensions P → 0 < P.d * P.m
size_some {P} s = omega (arith, mul-le-mul {n₁ = 2} {m₁ = 1} {n₂ = P.d} {m₂ = P.m} s.d_low s.m_low)

-- with an empty table, and every bucket with a count waiting, the slices stand for the first state
pub begins : (L : Slices) (w : ℕ) → ring L.queue 0 w ≡ first_queue 0 L.counts
    → ◌≡◌ {A = State} (state_of L 0 w 0) (record { held = lent_sketch L; queue = first_queue 0 L.counts; table = [] })
unfolding table_of from
begins L w e = λ i. record { held = lent_sketch L; queue = e i; table = [] }
