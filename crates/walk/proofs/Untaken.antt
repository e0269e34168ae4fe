-- A walk over a sketch of which something remains and no bucket passes the test takes nothing: it pops each bucket with a count once and is stuck, where so many pops are allowed. The sketch of flow 0 alone is such a one.
use Rattle.std.proofs.Common.{rules}
use mathlib.Core.Path.{◌≡◌, sym, ap, ◌∙◌}
use mathlib.Core.Bool.{Bool, true, false, cond}
use mathlib.Core.List.{List, [], ◌∷◌}
use Prim.Native.Nat.{ℕ, zero, suc, ◌+◌, ◌≤◌, ◌<◌}
use native.Mathlib.Decide.{dec_lt}
use native.Mathlib.Nat.{zero-add}
use native.Mathlib.Omega.{arith}
use lib.IntN.{ℤ, pos, ◌+ℤ◌, ◌*ℤ◌, +ℤ_idr}
use lib.ListN.{length, get_or-eq_default}
use Rattle.field.specs.Residue.{residue}
use Rattle.field.proofs.Primes.{prime_31}
use Rattle.field.proofs.Residues.{residue_below}
use Rattle.field.proofs.OneFlow.{the_flow}
use Rattle.params.specs.declared.params.Params.{Params}
use Rattle.params.specs.Lists.{from}
use Rattle.params.specs.Params.{prime_of, size, Dimensions}
use Rattle.params.specs.Sketched.{sketched}
use Rattle.params.specs.Positions.{index, stands}
use Rattle.params.proofs.Searches.{cannot_hold}
use Rattle.params.proofs.Extended.{told_sketched, zero_below}
use Rattle.params.proofs.Indexes.{bucket_below, stands_in_bucket}
use Rattle.sketch.specs.Sketch.{Sketch, by, count_in, idsum_in, count_at, weight_at, sketch_of}
use Rattle.sketch.proofs.Tables.{length_from, from_at}
use Rattle.walk.specs.declared.Ending.TheVariants.{Stuck}
use Rattle.walk.specs.Walk.{Rule, State, out, nothing_remains, follows, popped, before, after, run, first_queue, walk}
use Rattle.walk.specs.Purity.{test_in, pure_test, rule_of}
use Rattle.walk.proofs.Alls.{nothing_count}
use Rattle.buckets.proofs.Idsums.{prime_pos}
use Rattle.walk.proofs.Purity.{some_residue, sound, zero_not_pure}
use Rattle.std.specs.Prelude.{None}

-- something remains of S, and no bucket of it passes the test
module _ (R : Rule) (slots : ℕ) (S : Sketch) (some : nothing_remains S ≡ false) (none : (k : ℕ) → R.test k (count_in S k) (idsum_in S k) ≡ None) where
  abbrev at : List ℕ → State
  at q = record { held = S; queue = q; table = [] }

  run_stuck : (q : List ℕ) (a n : ℕ) → length q ≤ a → run R slots a n (at q) ≡ out Stuck (n + length q) (at [])
  unfolding run before after popped follows
  run_stuck [] zero n l = rw some (ap (λ m. out Stuck m (at [])) (omega arith))
  run_stuck [] (suc a) n l = rw some (ap (λ m. out Stuck m (at [])) (omega arith))
  run_stuck (k ∷ q) zero n l = absurd (omega arith)
  run_stuck (k ∷ q) (suc a) n l = rw (some, none k) (run_stuck q a (suc n) (omega arith) ∙ ap (λ m. out Stuck m (at [])) (omega arith))

  pub untaken : (allowance : ℕ) → length (first_queue 0 S.counts) ≤ allowance → walk R slots allowance S ≡ out Stuck (length (first_queue 0 S.counts)) (at [])
  unfolding walk
  untaken allowance l = run_stuck (first_queue 0 S.counts) allowance 0 l ∙ ap (λ n. out Stuck n (at [])) (zero-add _)

-- a bucket of n packets of flow 0 is not pure: what is sketched for it tells flow 0 again
module _ (P : Params) where
  zero_impure : (k : ℕ) (n : ℤ) → pure_test P k n (residue (prime_of P) (n *ℤ pos (sketched P 0))) ≡ None
  unfolding test_in
  zero_impure k n = search (rules, prime_31, prime_pos, residue_below, some_residue, the_flow, told_sketched, zero_below, zero_not_pure)

-- the sketch of n packets of flow 0
module _ (P : Params) (n : ℤ) where
  abbrev of_flow_zero : Sketch
  of_flow_zero = sketch_of P (by 0 n ∷ [])

  none_pure : (k : ℕ) → pure_test P k (count_in of_flow_zero k) (idsum_in of_flow_zero k) ≡ None
  unfolding sketch_of count_at weight_at
  none_pure k = go (dec_lt k (size P))
    where
      counts : ℕ → ℤ
      counts j = cond (stands P 0 j) n (pos 0) +ℤ pos 0

      idsums : ℕ → ℕ
      idsums j = residue (prime_of P) (cond (stands P 0 j) (n *ℤ pos (sketched P 0)) (pos 0) +ℤ pos 0)

      -- where it stands, and elsewhere
      at : (b : Bool) → pure_test P k (cond b n (pos 0) +ℤ pos 0) (residue (prime_of P) (cond b (n *ℤ pos (sketched P 0)) (pos 0) +ℤ pos 0)) ≡ None
      at true = rw (+ℤ_idr n, +ℤ_idr (n *ℤ pos (sketched P 0))) (zero_impure P k n)
      at false = (sound P).empty k _

      go : Dec (k < size P) → pure_test P k (count_in of_flow_zero k) (idsum_in of_flow_zero k) ≡ None
      go (yes l) = rw (from_at (size P) counts k (pos 0) l, from_at (size P) idsums k 0 l) (at (stands P 0 k))
      go (no l) = rw (get_or-eq_default (from 0 (size P) counts) (pos 0) {n = k} (omega (arith, length_from 0 (size P) counts))) ((sound P).empty k _)

  -- they stand in the bucket of array 1
  first_count : Dimensions P → count_in of_flow_zero (index P 1 0) ≡ n
  unfolding sketch_of count_at
  first_count h =
      from_at (size P) (count_at P (by 0 n ∷ [])) (index P 1 0) (pos 0) (bucket_below P 1 (sketched P 0) h (omega arith) (omega arith))
      ∙ rw (stands_in_bucket P (sketched P 0) 1 h (omega arith) (omega arith)) (+ℤ_idr n)

  remains : Dimensions P → (n ≡ pos 0 → ⊥) → nothing_remains of_flow_zero ≡ false
  remains h nonzero = cannot_hold (nothing_remains of_flow_zero) (λ e. nonzero (sym (first_count h) ∙ nothing_count of_flow_zero e (index P 1 0)))

  -- so its walk is stuck, with an empty table, and all of it remains
  pub flow_zero_untaken : Dimensions P → (n ≡ pos 0 → ⊥) → (slots allowance : ℕ) → length (first_queue 0 of_flow_zero.counts) ≤ allowance
      → walk (rule_of P) slots allowance of_flow_zero ≡ out Stuck (length (first_queue 0 of_flow_zero.counts)) (record { held = of_flow_zero; queue = []; table = [] })
  flow_zero_untaken h nonzero slots allowance l = untaken (rule_of P) slots of_flow_zero (remains h nonzero) none_pure allowance l
