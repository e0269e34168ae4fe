-- `lines::text::put_signed` meets its contract: the size of the number, behind a - where it is below 0.
use Prim.Native.Nat.{ℕ}
use native.Mathlib.Omega.{arith}
use lib.ListN.{length-set}
use mir.Facts.{to_z-of_z}
use Rattle.std.proofs.lemmas.Int.{ints}
use Rattle.lines.proofs.Digits.{length_decimal, signed_below}
use Rattle.lines.proofs.Joining.{byte_written, then}
use Rattle.lines.proofs.text.put_signed.Goals as goal

pub put_decimal-requires : goal.put_decimal-requires
put_decimal-requires c = omega (arith, ints, length-set {A = ℕ}, length_decimal)

pub returns-then-z-lt0 : goal.returns-then-z-lt0
returns-then-z-lt0 c =
    let below = rw (to_z-of_z c.ranges.z) at c.if-z-lt0.true in
    let size = rw (to_z-of_z c.ranges.z) at c.unsigned_abs.ensures.value in
    rw (signed_below c.args.z below) (then (omega arith) (byte_written _ _ 45 (omega arith)) (rw size at c.put_decimal.ensures))

pub put_decimal-requires-2 : goal.put_decimal-requires-2
put_decimal-requires-2 c = omega (arith, ints, length_decimal)
