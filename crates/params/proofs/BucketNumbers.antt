-- Laws of the numbers of buckets.
use Prim.Native.Nat.{ℕ, suc, ◌+◌, ◌*◌, ◌≤◌, ◌<◌}
use native.Mathlib.Omega.{arith}
use native.Mathlib.Nat.{mul-le-mul, mul-le-mul_right, suc-mul}

-- the array that i others stand before ends within the sketch, which is small
pub stretch_within : (d m i : ℕ) → i < d → i * m + m ≤ d * m
stretch_within d m i h = omega (arith, mul-le-mul_right {m = suc i} {n = d} m h, suc-mul i m)

pub small : (d m : ℕ) → d ≤ 4 → m ≤ 16384 → d * m ≤ 65536
small d m h k = mul-le-mul {n₁ = d} {m₁ = m} {n₂ = 4} {m₂ = 16384} h k
