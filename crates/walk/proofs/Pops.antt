-- A walk makes no more pops than it is allowed, and all of them where it is spent.
use Rattle.std.proofs.Common.{rules}
use mathlib.Core.Path.{◌≡◌}
use mathlib.Core.Bool.{Bool}
use mathlib.Core.List.{List}
use Prim.Native.Nat.{ℕ, zero, suc, ◌+◌, ◌≤◌}
use native.Mathlib.Omega.{arith}
use Rattle.sketch.specs.Sketch.{Sketch}
use Rattle.walk.specs.declared.Ending.{Ending}
use Rattle.walk.specs.declared.Ending.TheVariants.{Spent}
use Rattle.walk.specs.Walk.{Rule, State, Move, Outcome, out, queued, nothing_remains, popped, before, after, run, walk}
use Rattle.walk.proofs.Carried.{Keeps, pop_keeps}

-- all pops: those made before, and those allowed
pub record Made (all : ℕ) (o : Outcome) : Type 0 where
  pub within : o.pops ≤ all
  pub spent : o.ending ≡ Spent → o.pops ≡ all

ended : (e : Ending) (all n : ℕ) (st : State) → n ≤ all → (e ≡ Spent → ⊥) → Made all (out e n st)
ended e all n st l d = record { within = l; spent = λ x. absurd (d x) }

tested : (b : Bool) (q : List ℕ) (all n : ℕ) (st : State) (pop : ℕ → List ℕ → Outcome) → n ≤ all → ((k : ℕ) (r : List ℕ) → Made all (pop k r)) → Made all (before b q n st pop)
unfolding before
tested b q all n st pop l h = search rules

moved : (R : Rule) (slots k : ℕ) (q : List ℕ) (m : Move) (all n : ℕ) (st : State) (next : State → Outcome) → n ≤ all → Keeps R slots k (queued st q) (λ st. Unit {0}) m → ((st : State) → Made all (next st)) → Made all (after m n st next)
unfolding after
moved R slots k q m all n st next l i h = search rules

run_made : (R : Rule) (slots all a n : ℕ) (st : State) → n + a ≡ all → Made all (run R slots a n st)
unfolding run
run_made R slots all zero n st e =
    tested (nothing_remains st.held) st.queue all n st _ (omega arith) (λ k q. record { within = omega arith; spent = λ x. omega arith })
run_made R slots all (suc a) n st e =
    tested (nothing_remains st.held) st.queue all n st _ (omega arith)
    (λ k q.
    moved R slots k q (popped R slots k (queued st q)) all (suc n) st (run R slots a (suc n)) (omega arith)
    (pop_keeps R slots (λ st. Unit {0}) k (queued st q) (λ x. tt) (λ f x. tt))
    (λ st. run_made R slots all a (suc n) st (omega arith)))

pub made : (R : Rule) (slots allowance : ℕ) (S : Sketch) → Made allowance (walk R slots allowance S)
unfolding walk
made R slots allowance S = run_made R slots allowance allowance 0 _ (omega arith)
