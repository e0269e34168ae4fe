-- `buckets::first_damaged` meets its contract: the buckets passed are undamaged.
use mathlib.Core.Path.{sym}
use native.Mathlib.Omega.{arith}
use borrow.Author.Tests.{eq-eqb}
use Rattle.std.proofs.lemmas.Grind.{common_steps}
use Rattle.params.proofs.Searches.{nothing_found, first_found}
use Rattle.buckets.proofs.first_damaged.Goals as goal

pub returns-then-not-undamaged : goal.returns-then-not-undamaged
returns-then-not-undamaged c = rw (eq-eqb _ _ c.if-counts-idsums.false) (sym (first_found _ c.loop-i.i _ c.loop-i-test.true (grind (arith, common_steps)) c.loop-i.invariant))

pub returns : goal.returns
returns c = grind (arith, common_steps, nothing_found)
