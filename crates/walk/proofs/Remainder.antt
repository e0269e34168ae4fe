-- What a walk leaves of a sketch with every count within the limits has every count within the limits, by a rule that places flows by its arrays.
use Rattle.std.proofs.Common.{rules}
use mathlib.Core.Path.{◌≡◌}
use mathlib.Core.Bool.{true}
use Prim.Native.Nat.{ℕ, zero, suc, ◌<◌, ◌≤◌}
use native.Mathlib.Omega.{arith}
use lib.IntN.{ℤ, ◌+ℤ◌, ◌-ℤ◌}
use lib.ListN.{length}
use Rattle.buckets.specs.Buckets.{in_limits}
use Rattle.sketch.specs.Sketch.{Sketch, count_in}
use Rattle.params.proofs.Searches.{and_true, below_at}
use Rattle.walk.specs.Walk.{Rule, State, queued, entry_of, in_range, taken, walk}
use Rattle.walk.proofs.Carried.{Takeable, taken_at, carried}
use Rattle.walk.proofs.Lessened.{less_counts, less_count}
use Rattle.walk.proofs.Stuck.{ByArrays}

-- of f's bucket in array i
bucket_within : (R : Rule) (f : ℕ) (c : ℤ) (st : State) (i : ℕ) → in_range R f c st ≡ true → 1 ≤ i → i ≤ R.arrays → in_limits (count_in st.held (R.index i f) -ℤ c) ≡ true
unfolding in_range
bucket_within R f c st zero e l u = absurd (omega arith)
bucket_within R f c st (suc i) e l u = below_at R.arrays i _ (and_true _ (in_limits (entry_of f st.table +ℤ c)) e).0 (omega arith)

module _ (R : Rule) (size : ℕ) (by_arrays : ByArrays R) where
  pub record Within (S : Sketch) : Type 0 where
    pub long : length S.counts ≡ size
    pub limits : (k : ℕ) → k < size → in_limits (count_in S k) ≡ true

  pub taken_keeps : (slots k f : ℕ) (st : State) → Within st.held → Takeable R slots k f st → Within (taken_at R k f st).held
  unfolding taken
  taken_keeps slots k f st h t = search (rules, bucket_within, less_count, less_counts)

  pub within : (slots allowance : ℕ) (S : Sketch) → Within S → Within (walk R slots allowance S).remainder
  unfolding walk
  within slots allowance S h =
      carried R slots (λ st. Within st.held) (λ o. Within o.remainder) (λ e n st h x. h) (λ k q st h e i. h)
      (λ k f q st h e t. taken_keeps slots k f (queued st q) h t)
      allowance 0 _ h
