-- `lines::text::put_decimal` meets its contract: one digit, or the digits of the tenth and then the last one.
use mathlib.Core.Path.{ap}
use native.Mathlib.Omega.{arith}
use lib.ListN.{length}
use Rattle.lines.proofs.Digits.{decimal_one, decimal_last, length_last}
use Rattle.lines.proofs.Joining.{byte_written, then}
use Rattle.lines.proofs.text.+put_decimal.Goals as goal

pub bounds-out-at : goal.bounds-out-at
bounds-out-at t c = omega (arith, ap length (decimal_one c.args.n (omega arith)))

pub returns-then-n-lt10 : goal.returns-then-n-lt10
returns-then-n-lt10 t c = rw (decimal_one c.args.n (omega arith)) (byte_written _ _ _ (bounds-out-at t c))

pub put_decimal-next-requires : goal.put_decimal-next-requires
put_decimal-next-requires t c = omega (arith, length_last)

pub bounds-out-next : goal.bounds-out-next
bounds-out-next t c = omega (arith, length_last)

pub overflow_add-result-2 : goal.overflow_add-result-2
overflow_add-result-2 t c = omega (arith, length_last)

pub returns : goal.returns
returns t c =
    rw (decimal_last c.args.n (omega arith) (omega arith)) (then (omega arith) c.put_decimal-next.ensures (byte_written _ _ _ (omega (arith, length_last))))
