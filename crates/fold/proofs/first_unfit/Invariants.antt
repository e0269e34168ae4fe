-- `fold::first_unfit` meets its contract. The loops' invariants: no bucket passed is unfit.
use Prim.Native.Nat.{ℕ, ◌+◌, ◌*◌, ◌<◌}
use mathlib.Core.Path.{◌≡◌}
use mathlib.Core.Bool.{false}
use Rattle.sketch.specs.Sketch.{sketch}
use Rattle.fold.specs.Fold.{unfit_at}
use Rattle.fold.proofs.first_unfit.Given as goal

abbrev pub invariant-loop-i : goal.invariant-loop-i
invariant-loop-i l = (k : ℕ) → k < l.i * l.m2 → unfit_at l.d l.m l.m2 (sketch l.counts l.idsums) k ≡ false

abbrev pub invariant-loop-j : goal.invariant-loop-j
invariant-loop-j l = (k : ℕ) → k < l.i * l.m2 + l.j → unfit_at l.d l.m l.m2 (sketch l.counts l.idsums) k ≡ false
