-- Laws of a take's range: what the loop over a flow's arrays finds by the positions that it keeps, as the definition's test says it.
use mathlib.Core.Path.{◌≡◌}
use mathlib.Core.Bool.{Bool, true, false}
use mathlib.Core.List.{List}
use Prim.Native.Nat.{ℕ, suc, ◌<◌}
use lib.IntN.{ℤ, ◌+ℤ◌, ◌-ℤ◌}
use Rattle.params.specs.declared.params.Params.{Params}
use Rattle.params.specs.Lists.{below}
use Rattle.params.specs.Positions.{bucket_of, Positioned}
use Rattle.buckets.specs.Buckets.{in_limits}
use Rattle.sketch.specs.Sketch.{count_in}
use Rattle.params.proofs.Searches.{all_below, below_fails}
use Rattle.walk.specs.Walk.{State, entry_of, in_range}
use Rattle.walk.specs.Purity.{rule_of}
use Rattle.walk.proofs.Purity.{index_next}
use Rattle.peel.specs.Rep.{fits_at}

module _ (P : Params) (f : ℕ) (c : ℤ) (st : State) (ks : List ℕ) (p : Positioned P f ks) where
  same_bucket : (i : ℕ) (t : Bool) → i < P.d → fits_at P.m ks st.held.counts c i ≡ t → in_limits (count_in st.held (bucket_of P (suc i) f) -ℤ c) ≡ t
  same_bucket i t h e = rw (index_next P i f) (rw (p.at i h) at e)

  all_fit : ((i : ℕ) → i < P.d → fits_at P.m ks st.held.counts c i ≡ true) → below P.d (λ i. in_limits (count_in st.held (bucket_of P (suc i) f) -ℤ c)) ≡ true
  all_fit h = all_below P.d _ (λ i l. same_bucket i true l (h i l))

  pub leaves_count : (i : ℕ) → i < P.d → fits_at P.m ks st.held.counts c i ≡ false → in_range (rule_of P) f c st ≡ false
  unfolding in_range
  leaves_count i h e = rw (below_fails P.d i (λ i. in_limits (count_in st.held (bucket_of P (suc i) f) -ℤ c)) h (same_bucket i false h e))

  -- where the counts stay within the limits, the entry decides
  pub entry_decides : ((i : ℕ) → i < P.d → fits_at P.m ks st.held.counts c i ≡ true) → (t : Bool) → in_limits (entry_of f st.table +ℤ c) ≡ t → in_range (rule_of P) f c st ≡ t
  unfolding in_range
  entry_decides h t e = rw (all_fit h) e
