-- What holds of the table of every walk: each flow passes what the test asks of a found one, no flow is listed twice, each count is within the limits, and there are no more entries than slots.
use Rattle.std.proofs.Common.{rules}
use mathlib.Core.Path.{◌≡◌, refl}
use mathlib.Core.Bool.{Bool, true}
use mathlib.Core.List.{List}
use Prim.Native.Nat.{ℕ, suc, ◌≤◌}
use native.Mathlib.Omega.{arith}
use lib.IntN.{ℤ, ◌+ℤ◌, ◌-ℤ◌}
use lib.ListN.{length}
use Rattle.params.specs.Lists.{below}
use Rattle.buckets.specs.Buckets.{in_limits}
use Rattle.sketch.specs.Sketch.{Sketch, Entry, count_in}
use Rattle.params.proofs.Searches.{and_true}
use Rattle.walk.specs.Walk.{Rule, State, queued, all, entry_of, in_range, taken, walk}
use Rattle.walk.proofs.Carried.{Takeable, taken_at, carried}
use Rattle.walk.proofs.Entries.{all_credited, credited_fits, once, once_credited}
use Rattle.std.specs.Prelude.{Some}

pub record Listed (ok : ℕ → Bool) (slots : ℕ) (t : List Entry) : Type 0 where
  pub flows : all (λ e. ok e.flow) t ≡ true
  pub limits : all (λ e. in_limits e.number) t ≡ true
  pub apart : once t ≡ true
  pub few : length t ≤ slots

entry_within : (R : Rule) (f : ℕ) (c : ℤ) (st : State) → in_range R f c st ≡ true → in_limits (entry_of f st.table +ℤ c) ≡ true
unfolding in_range
entry_within R f c st e = (and_true (below R.arrays (λ i. in_limits (count_in st.held (R.index (suc i) f) -ℤ c))) _ e).1

-- a found flow passes `ok`
module _ (R : Rule) (ok : ℕ → Bool) (passes : (k : ℕ) (c : ℤ) (s f : ℕ) → R.test k c s ≡ Some f → ok f ≡ true) (slots : ℕ) where
  taken_keeps : (k f : ℕ) (st : State) → Listed ok slots st.table → Takeable R slots k f st → Listed ok slots (taken_at R k f st).table
  unfolding taken
  taken_keeps k f st h t = search (rules, all_credited, credited_fits, entry_within, once_credited)

  pub listed : (allowance : ℕ) (S : Sketch) → Listed ok slots (walk R slots allowance S).table
  unfolding walk all once
  listed allowance S =
      carried R slots (λ st. Listed ok slots st.table) (λ o. Listed ok slots o.table) (λ e n st h x. h) (λ k q st h e i. h)
      (λ k f q st h e t. taken_keeps k f (queued st q) h t)
      allowance 0 _
      (record { flows = refl; limits = refl; apart = refl; few = omega arith })
