-- What every walk over a sketch with parameters P keeps, by the definition of the walk alone: the promises of peeling.
use Rattle.std.proofs.Common.{rules}
use mathlib.Core.Path.{◌≡◌, sym, ap, ◌∙◌}
use mathlib.Core.Bool.{true, false, not, true≢false}
use mathlib.Core.List.{List, [], ◌∷◌}
use Prim.Native.Nat.{ℕ, ◌+◌, ◌*◌, ◌<◌, ◌≤◌}
use native.Mathlib.Decide.{dec_lt}
use native.Mathlib.Nat.{le_trans}
use native.Mathlib.Omega.{arith}
use borrow.Author.Tests.{not-true}
use lib.IntN.{ℤ, pos, ◌+ℤ◌, ◌-ℤ◌}
use lib.ListN.{length, get_or, length-map, get_or-map, get_or-eq_default}
use Rattle.field.specs.Parts.{up, down}
use Rattle.field.specs.Flow.{flow}
use Rattle.params.specs.declared.params.Params.{Params}
use Rattle.params.specs.Params.{prime_of, size, is_flow, Dimensions}
use Rattle.params.specs.Sketched.{told, is_sketched}
use Rattle.params.specs.Positions.{sketched_stands}
use Rattle.buckets.specs.Buckets.{in_limits}
use Rattle.sketch.specs.Sketch.{Sketch, count_in, idsum_in, Entry, by, sketch_of}
use Rattle.sketch.proofs.Whole.{Whole}
use Rattle.sums.specs.Sums.{combined}
use Rattle.params.proofs.Searches.{cannot_hold}
use Rattle.params.proofs.Rules.{flow_above}
use Rattle.params.proofs.Extended.{tells_flow, told_once, told_zero}
use Rattle.buckets.proofs.Idsums.{prime_pos}
use Rattle.buckets.proofs.Limits.{whole, whole_back}
use Rattle.walk.specs.declared.Ending.TheVariants.{Clean, Stuck, Spent}
use Rattle.walk.specs.Endings.{ending_number}
use Rattle.walk.specs.Walk.{Rule, Outcome, all, nothing_remains, first_queue, walk, close, closed_table, lost_of, extra_of}
use Rattle.buckets.specs.Buckets.{is_zero}
use Rattle.walk.specs.Purity.{wide_test, pure_test, rule_of}
use Rattle.walk.specs.Shown.{tell, shown_table}
use Rattle.walk.proofs.Numbers.{ending_by_number}
use Rattle.buckets.proofs.Zeros.{is_zero_lem, not_zero}
use Rattle.walk.proofs.Alls.{all_at, nothing_count, nothing_idsum, all_zero_lem}
use Rattle.walk.proofs.Balance.{Balanced, balanced, balanced_closed}
use Rattle.walk.proofs.Rebuilt.{count_back, rebuilt, rebuilt_alone}
use Rattle.walk.proofs.Purity.{scope_test, wide_rule, sound, by_arrays, test_within, pure_if_sketched}
use Rattle.walk.proofs.Narrowed.{narrowed, only_if_passes}
use Rattle.walk.proofs.Untaken.{flow_zero_untaken}
use Rattle.walk.proofs.Stuck.{stuck_only as None_passes}
use Rattle.walk.proofs.Remainder.{Within, within}
use Rattle.walk.proofs.Retested.{retested, same_walk}
use Rattle.walk.proofs.Clean.{cleanly}
use Rattle.walk.proofs.Pops.{made}
use Rattle.walk.proofs.Entries.{all_close, close_nonzero, close_fewer, once_close, once_at}
use Rattle.walk.proofs.Figures as figures
use Rattle.walk.proofs.Figures.{all_counts, told_counts}
use Rattle.walk.proofs.ArrayTotals.{array_total, total_balance, same_counts}
use Rattle.walk.proofs.TableFacts.{Listed, listed as table_facts}
use Rattle.std.specs.Prelude.{Some}

-- every count and every idsum is 0
abbrev pub Nothing : Sketch → Type 0
Nothing S = (k : ℕ) → (count_in S k ≡ pos 0) × (idsum_in S k ≡ 0)

idsum_below : (P : Params) (S : Sketch) → Whole P S → (k : ℕ) → Dec (k < length S.idsums) → idsum_in S k < prime_of P
idsum_below P S w k h = search (rules, get_or-eq_default, prime_pos, whole)

counts_within : (P : Params) (S : Sketch) → Whole P S → Within (rule_of P) (size P) (by_arrays P) S
counts_within P S w = record { long = w.counts_long; limits = λ k l. (whole (count_in S k) (idsum_in S k) (w.undamaged k l)).0 }

-- the rule of P with its test in the scope's words, which passes only where the number is what is sketched for a flow
abbrev pub scope_rule : Params → Rule
scope_rule P = narrowed (is_sketched P) (retested (wide_rule P) (scope_test (prime_of P) (sketched_stands P)))

module _ (P : Params) (slots allowance : ℕ) (S : Sketch) where
  -- the walk's outcome, its table after the close, and that table as it is shown
  abbrev pub outcome : Outcome
  outcome = walk (rule_of P) slots allowance S

  abbrev closed : List Entry
  closed = closed_table outcome

  abbrev pub listed : List Entry
  listed = shown_table P outcome

  -- what holds of the table before the close
  before_close : Listed (is_sketched P) slots outcome.table
  before_close = table_facts (rule_of P) (is_sketched P) (λ k c s. only_if_passes (is_sketched P) (wide_test P k c s)) slots allowance S

  closed_sketched : all (λ e. is_sketched P e.flow) closed ≡ true
  closed_sketched = all_close _ outcome.table before_close.flows

  -- the outcome is that of the walk by the scope's test
  pub by_scope_test : Whole P S → outcome ≡ walk (scope_rule P) slots allowance S
  by_scope_test w = search (rules, counts_within, same_walk, test_within)

  in_balance : Whole P S → Balanced (rule_of P) S outcome.remainder closed
  in_balance w = balanced_closed (balanced (rule_of P) (sound P) S slots allowance (λ k. idsum_below P S w k (dec_lt k (length S.idsums))))

  -- the table's sketch, added to the remainder, is the input
  pub balance : Whole P S → combined false outcome.remainder (sketch_of P listed) ≡ S
  balance w = rebuilt P S outcome.remainder closed closed_sketched w.counts_long w.idsums_long (in_balance w)

  -- a clean end, by its number, leaves nothing
  clean_nothing : ending_number outcome.ending ≡ 1 → nothing_remains outcome.remainder ≡ true
  clean_nothing e = (cleanly (rule_of P) slots allowance S).clean (ending_by_number outcome.ending Clean e)

  -- after a clean end, the table's sketch is the input
  pub clean_table : Whole P S → ending_number outcome.ending ≡ 1 → sketch_of P listed ≡ S
  clean_table w e = rebuilt_alone P S outcome.remainder closed closed_sketched w.counts_long w.idsums_long (in_balance w) (clean_nothing e)

  -- the remainder has the size of P, and is within the limits
  pub remainder_whole : Whole P S → Whole P outcome.remainder
  remainder_whole w =
      let b = in_balance w in
      let c = within (rule_of P) (size P) (by_arrays P) slots allowance S (counts_within P S w) in
      record {
        counts_long = c.long;
        idsums_long = b.idsums_long ∙ w.idsums_long;
        undamaged = λ k l. whole_back (count_in outcome.remainder k) (idsum_in outcome.remainder k) (c.limits k l) (b.below k);
      }

  -- clean exactly where nothing remains
  pub clean_only : ending_number outcome.ending ≡ 1 → Nothing outcome.remainder
  clean_only e = λ k. (nothing_count outcome.remainder (clean_nothing e) k, nothing_idsum outcome.remainder (clean_nothing e) k)

  pub clean_if : Nothing outcome.remainder → ending_number outcome.ending ≡ 1
  clean_if n = ap ending_number ((cleanly (rule_of P) slots allowance S).nothing (all_zero_lem outcome.remainder (λ k. (n k).0) (λ k. (n k).1)))

  -- stuck only where something remains, and no bucket of it passes the purity test
  pub stuck_remains : ending_number outcome.ending ≡ 2 → Nothing outcome.remainder → ⊥
  stuck_remains e n = omega (arith, clean_if n)

  pub stuck_only : Whole P S → ending_number outcome.ending ≡ 2 → (k f : ℕ) → k < size P → pure_test P k (count_in outcome.remainder k) (idsum_in outcome.remainder k) ≡ Some f → ⊥
  stuck_only w e = None_passes (rule_of P) (sound P) (size P) (by_arrays P) slots allowance S w.counts_long w.idsums_long (ending_by_number outcome.ending Stuck e)

  -- so where a count remains, the one number of its bucket is not sketched for any flow, or does not stand there
  pub stuck_stands : Whole P S → ending_number outcome.ending ≡ 2 → (k : ℕ) → k < size P → (count_in outcome.remainder k ≡ pos 0 → ⊥)
      → let x = flow (prime_of P) (count_in outcome.remainder k) (idsum_in outcome.remainder k) in is_sketched P x ≡ true → sketched_stands P x k ≡ false
  stuck_stands w e k l d of_flow = cannot_hold _ never
    where
      c : ℤ
      c = count_in outcome.remainder k

      s : ℕ
      s = idsum_in outcome.remainder k

      never : sketched_stands P (flow (prime_of P) c s) k ≡ true → ⊥
      never h =
          let i = (whole c s ((remainder_whole w).undamaged k l)).0 in
          let passes : wide_test P k c s ≡ Some (flow (prime_of P) c s) = test_within (prime_of P) (sketched_stands P) k c s (omega arith) i ∙ rw (not_zero c d, h) in
          stuck_only w e k (flow (prime_of P) c s) l (pure_if_sketched P k c s (flow (prime_of P) c s) passes of_flow)

  -- the sketch of flow 0 alone is stuck where a pop of each bucket with a count is allowed: these are made, nothing is listed, and all of it remains
  pub flow_zero_stuck : Dimensions P → (n : ℤ) → (n ≡ pos 0 → ⊥) → S ≡ sketch_of P (by 0 n ∷ []) → length (first_queue 0 S.counts) ≤ allowance
      → (ending_number outcome.ending ≡ 2) × (outcome.pops ≡ length (first_queue 0 S.counts)) × (listed ≡ []) × (outcome.remainder ≡ S)
  unfolding close
  flow_zero_stuck h n nonzero s l = search (rules, flow_zero_untaken)

  -- never more pops than allowed
  pub pops_within : outcome.pops ≤ allowance
  pops_within = (made (rule_of P) slots allowance S).within

  -- and all of them where the end is spent
  pub spent_only : ending_number outcome.ending ≡ 3 → outcome.pops ≡ allowance
  spent_only e = (made (rule_of P) slots allowance S).spent (ending_by_number outcome.ending Spent e)

  -- entry i of the table, and of the one that it tells the flows of
  abbrev pub entry : ℕ → Entry
  entry i = get_or listed i (by 0 (pos 0))

  abbrev taken : ℕ → Entry
  taken i = get_or closed i (by 0 (pos 0))

  entry_tells : (i : ℕ) → entry i ≡ tell P (taken i)
  entry_tells i = ap (λ (f : ℕ). get_or listed i (by f (pos 0))) (sym (told_zero P)) ∙ get_or-map (tell P) closed i (by 0 (pos 0))

  entry_number : (i : ℕ) → (entry i).number ≡ (taken i).number
  entry_number i = ap (λ (e : Entry). e.number) (entry_tells i)

  entry_flow : (i : ℕ) → (entry i).flow ≡ told P (taken i).flow
  entry_flow i = ap (λ (e : Entry). e.flow) (entry_tells i)

  listed_long : length listed ≡ length closed
  listed_long = length-map closed (tell P)

  taken_sketched : (i : ℕ) → i < length listed → is_sketched P (taken i).flow ≡ true
  taken_sketched i l = all_at (λ e. is_sketched P e.flow) closed i (by 0 (pos 0)) closed_sketched (omega (arith, listed_long))

  pub listed_not_zero : (i : ℕ) → i < length listed → (entry i).number ≡ pos 0 → ⊥
  listed_not_zero i l e =
      let z : is_zero (taken i).number ≡ true = is_zero_lem (taken i).number (sym (entry_number i) ∙ e) in
      let n = all_at (λ e. not (is_zero e.number)) closed i (by 0 (pos 0)) (close_nonzero outcome.table) (omega (arith, listed_long)) in
      true≢false (sym z ∙ not-true _ n)

  -- every listed flow is one, so that none is flow 0
  pub listed_are_flows : (i : ℕ) → i < length listed → is_flow P (entry i).flow ≡ true
  listed_are_flows i l = rw (entry_flow i) (tells_flow P (taken i).flow (taken_sketched i l))

  pub never_flow_zero : (i : ℕ) → i < length listed → (entry i).flow ≡ 0 → ⊥
  never_flow_zero i l e = omega (arith, flow_above P (entry i).flow (listed_are_flows i l))

  -- no flow is listed twice
  pub listed_once : (i j : ℕ) → i < j → j < length listed → (entry i).flow ≡ (entry j).flow → ⊥
  listed_once i j h l e =
      once_at closed i j (by 0 (pos 0)) (once_close outcome.table before_close.apart) h (omega (arith, listed_long))
      (told_once P (taken i).flow (taken j).flow (taken_sketched i (omega arith)) (taken_sketched j l) (sym (entry_flow i) ∙ e ∙ entry_flow j))

  pub listed_within : (i : ℕ) → i < length listed → in_limits (entry i).number ≡ true
  listed_within i l =
      rw (entry_number i) (all_at (λ e. in_limits e.number) closed i (by 0 (pos 0)) (all_close _ outcome.table before_close.limits) (omega (arith, listed_long)))

  pub listed_few : length listed ≤ slots
  listed_few = omega (arith, listed_long, le_trans (close_fewer outcome.table) before_close.few)

  -- lost less extra is the sum of all counts
  pub figures_differ : pos (lost_of outcome) -ℤ pos (extra_of outcome) ≡ all_counts listed
  figures_differ = figures.figures_differ closed ∙ sym (told_counts P closed)

  -- in every array, what the remaining counts add up to, with lost less extra, is what the counts of the input add up to
  pub totals : Whole P S → Dimensions P → (i : ℕ) → 1 ≤ i → i ≤ P.d → array_total P i outcome.remainder +ℤ (pos (lost_of outcome) -ℤ pos (extra_of outcome)) ≡ array_total P i S
  totals w h i l u = search (rules, array_total, closed_sketched, count_back, figures_differ, in_balance, total_balance)

  -- so after a clean end lost less extra is the sum of all numbers of any list whose sketch was peeled
  pub clean_total : Whole P S → Dimensions P → ending_number outcome.ending ≡ 1 → (es : List Entry) → S ≡ sketch_of P es → pos (lost_of outcome) -ℤ pos (extra_of outcome) ≡ all_counts es
  clean_total w h e es s = figures_differ ∙ same_counts P h listed es (clean_table w e ∙ s)

  -- each loss is within lost and each gain within extra, whatever the other entries are
  pub lost_shows : (i : ℕ) → i < length listed → up (entry i).number ≤ lost_of outcome
  lost_shows i l = rw (entry_number i) (figures.shows up closed i (by 0 (pos 0)) (omega (arith, listed_long)))

  pub extra_shows : (i : ℕ) → i < length listed → down (entry i).number ≤ extra_of outcome
  extra_shows i l = rw (entry_number i) (figures.shows down closed i (by 0 (pos 0)) (omega (arith, listed_long)))

  -- both together are at most as many times the limit as there are entries
  pub figures_small : lost_of outcome + extra_of outcome ≤ length listed * 2147483646
  figures_small = rw listed_long (figures.figures_small closed (all_close _ outcome.table before_close.limits))
