-- `peel::walking::walk` meets its contract: every way through a turn of the loop is one of the definition's.
use mathlib.Core.Path.{◌≡◌}
use mathlib.Core.Bool.{true}
use Prim.Native.Nat.{ℕ, ◌-◌, ◌<◌}
use lib.ListN.{length}
use Rattle.walk.specs.Walk.{run}
use Rattle.walk.specs.Purity.{rule_of}
use Rattle.peel.specs.Slices.{slices}
use Rattle.peel.specs.Rep.{state_of, fits_at}
use Rattle.peel.proofs.Turns.{Inv, Lengths}
use Rattle.peel.proofs.walking.walk.Given as goal

abbrev pub invariant-loop-i : goal.invariant-loop-i
invariant-loop-i l = (j : ℕ) → j < l.i → fits_at l.m l.ks l.counts l.c j ≡ true

abbrev pub invariant-walk : goal.invariant-walk
invariant-walk l = let L₀ = slices l.initial.counts l.initial.idsums l.initial.flows l.initial.numbers l.initial.queue l.initial.marks in
    let L = slices l.counts l.idsums l.flows l.numbers l.queue l.marks in
    Inv l.p (length l.initial.flows) l.allowance (run (rule_of l.p) (length l.initial.flows) l.allowance 0 (state_of L₀ 0 l.first_waiting 0)) L l.head l.waiting l.nonzero l.entries l.pops
    × Lengths L₀ L
    × (length l.ks ≡ 4)

abbrev pub decreases-walk : goal.decreases-walk
decreases-walk l = l.allowance - l.pops
