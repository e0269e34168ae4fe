-- `peel::take::count_nonzero` meets its contract. The invariant: what is counted and what is still to be counted make the whole number.
use mathlib.Core.Path.{◌≡◌}
use Prim.Native.Nat.{◌+◌}
use lib.ListN.{length, drop}
use Rattle.peel.specs.Nonzero.{nonzero_buckets}
use Rattle.peel.proofs.take.count_nonzero.Given as goal

abbrev pub invariant-loop-c : goal.invariant-loop-c
invariant-loop-c l = let n = length l.yielded in l.nonzero + nonzero_buckets (drop n l.counts) (drop n l.idsums) ≡ nonzero_buckets l.counts l.idsums
