-- Laws of records one after the other: how far a reader has come, and which record decides.
use Rattle.std.proofs.Common.{rules}
use mathlib.Core.Path.{◌≡◌, refl, sym, ap, ◌∙◌}
use mathlib.Core.Bool.{Bool, true, false, not}
use mathlib.Core.Logic.{⊎_elim}
use mathlib.Core.List.{List}
use Prim.Native.Nat.{ℕ, zero, suc, ◌+◌, ◌-◌, ◌≤◌, ◌<◌}
use native.Mathlib.Decide.{ℕ_discrete}
use native.Mathlib.Omega.{arith}
use native.Mathlib.Nat.{zero-add, add-zero, suc-add, add-suc}
use borrow.Author.Count.{below_more}
use borrow.Author.Tests.{ltb-true, ltb-false, not-false}
use lib.Dec.{ltb}
use lib.ListN.{length}
use Rattle.params.specs.declared.answers.Refusal.{Refusal}
use Rattle.params.specs.Lists.{least}
use Rattle.params.proofs.Searches.{least_skip, scan_start, scan_next, scan_found, scan_end, none_found, nothing_found}
use Rattle.params.proofs.Judging.{Refuses, first_refused, first_passed, first_done, first_either}
use Rattle.params.proofs.Lowest.{least_lowest}
use Rattle.files.specs.Records.{record_at, is_kind}
use Rattle.files.specs.Turns.{in_turn, records_of}
use Rattle.params.specs.Answers.{Answer, Done, Refused}

-- records in turn: those that pass give way to the next
in_turn_past : (i k n : ℕ) (judge : ℕ → Answer) → ((j : ℕ) → k ≤ j → j < k + i → judge j ≡ Done) → in_turn k (i + n) judge ≡ in_turn (k + i) n judge
unfolding in_turn
in_turn_past zero k n judge h = rw (zero-add n, add-zero k)
in_turn_past (suc i) k n judge h =
    ap (λ (j : ℕ). in_turn k j judge) (suc-add i n)
    ∙ first_passed _ _ (h k (omega arith) (omega arith))
    ∙ in_turn_past i (suc k) n judge (λ j l m. h j (omega arith) (omega arith))
    ∙ ap (λ (j : ℕ). in_turn j n judge) (suc-add k i ∙ sym (add-suc k i))

in_turn_here : (k n : ℕ) (judge : ℕ → Answer) (r : Answer) → r ≡ judge k → Refuses r → r ≡ in_turn k (suc n) judge
unfolding in_turn
in_turn_here k n judge r e h = first_refused r (judge k) (in_turn (suc k) n judge) e h

-- the first that refuses decides
pub in_turn_refused : (n i : ℕ) (judge : ℕ → Answer) (r : Answer) → i < n → ((j : ℕ) → j < i → judge j ≡ Done) → r ≡ judge i → Refuses r → r ≡ in_turn 0 n judge
in_turn_refused n i judge r l passed e h =
    in_turn_here i (n - suc i) judge r e h
    ∙ ap (λ (j : ℕ). in_turn j (suc (n - suc i)) judge) (sym (zero-add i))
    ∙ sym (in_turn_past i 0 (suc (n - suc i)) judge (λ j a b. passed j (omega arith)))
    ∙ ap (λ (j : ℕ). in_turn 0 j judge) {x = i + suc (n - suc i)} {y = n} (omega arith)

-- nothing is refused exactly when no record is
pub in_turn_done : (n : ℕ) (judge : ℕ → Answer) → ((j : ℕ) → j < n → judge j ≡ Done) → in_turn 0 n judge ≡ Done
unfolding in_turn
in_turn_done n judge h = ap (λ (j : ℕ). in_turn 0 j judge) (sym (add-zero n)) ∙ in_turn_past n 0 0 judge (λ j a b. h j (omega arith))

done_from : (k n : ℕ) (judge : ℕ → Answer) → in_turn k n judge ≡ Done → (j : ℕ) → k ≤ j → j < k + n → judge j ≡ Done
unfolding in_turn
done_from k zero judge e j l m = absurd (omega arith)
done_from k (suc n) judge e j l m = at (ℕ_discrete j k) (done_from (suc k) n judge (first_done _ _ e).1 j)
  where
    at : Dec (j ≡ k) → (suc k ≤ j → j < suc k + n → judge j ≡ Done) → judge j ≡ Done
    at (yes p) ih = rw p (first_done _ _ e).0
    at (no q) ih = ih (omega arith) (omega arith)

pub done_in_turn : (n : ℕ) (judge : ℕ → Answer) → in_turn 0 n judge ≡ Done → (j : ℕ) → j < n → judge j ≡ Done
done_in_turn n judge e j l = done_from 0 n judge e j (omega arith) (omega arith)

-- of n records the earliest whose answer is r; those before it were accepted
pub record Earliest (n : ℕ) (judge : ℕ → Answer) (r : Answer) : Type 0 where
  pub which : ℕ
  pub one : which < n
  pub here : judge which ≡ r
  pub before : (j : ℕ) → j < which → judge j ≡ Done

earliest_same : {n m : ℕ} {judge : ℕ → Answer} {r : Answer} → n ≡ m → Earliest n judge r → Earliest m judge r
earliest_same e r = rw (← e) r

earliest_from : (i n : ℕ) (judge : ℕ → Answer) (w : Refusal) (k : ℕ) → ((j : ℕ) → j < i → judge j ≡ Done) → in_turn i n judge ≡ Refused w k → Earliest (i + n) judge (Refused w k)
unfolding in_turn
earliest_from i zero judge w k passed e = absurd (let z : ◌≡◌ {A = ℕ} 0 1 = cc in omega arith)
earliest_from i (suc n) judge w k passed e =
    ⊎_elim
    (λ h. record { which = i; one = omega arith; here = h; before = passed })
    (λ h. earliest_same (omega arith) (earliest_from (suc i) n judge w k (λ j l. below_more (λ j. judge j ≡ Done) i passed h.0 j (omega arith)) h.1))
    (first_either (judge i) (in_turn (suc i) n judge) w k e)

pub in_turn_earliest : (n : ℕ) (judge : ℕ → Answer) (w : Refusal) (k : ℕ) → in_turn 0 n judge ≡ Refused w k → Earliest n judge (Refused w k)
in_turn_earliest n judge w k e = earliest_same (zero-add n) (earliest_from 0 n judge w k (λ j l. absurd (omega arith)) e)

-- a search finds nothing before what it finds
least_from_lem : (n k : ℕ) (t : ℕ → Bool) → k ≤ least k n t
unfolding least
least_from_lem zero k t = omega arith
least_from_lem (suc n) k t = grind (arith, least_from_lem n (suc k) t)

before_least : (n j : ℕ) (t : ℕ → Bool) → j < least 0 n t → t j ≡ false
before_least n j t l = at (ltb (least 0 n t) n) refl
  where
    at : (b : Bool) → ltb (least 0 n t) n ≡ b → t j ≡ false
    at true e = (least_lowest n t (ltb-true _ _ e)).none_lower j l
    at false e = let none = none_found n t e in none j (omega (arith, nothing_found n t none))

module _ (kind : ℕ) (place : ℕ → ℕ) (bs : List ℕ) where
  abbrev other : ℕ → Bool
  other k = not (is_kind kind (record_at bs (place k)))

  -- a reader that has come to record i: the search from there on gives what the whole search gives
  abbrev pub Come : ℕ → Type 0
  Come i = records_of kind place bs ≡ least i (length bs - i) other

  pub come_start : Come 0
  unfolding records_of
  come_start = scan_start (length bs) other

  pub come_next : (i : ℕ) → i < length bs → is_kind kind (record_at bs (place i)) ≡ true → Come i → Come (i + 1)
  come_next i l e q = scan_next (length bs) i _ other l (ap not e) q

  pub come_end : (i : ℕ) → is_kind kind (record_at bs (place i)) ≡ false → Come i → i ≡ records_of kind place bs
  come_end i e q = search (rules, ltb-false, ltb-true, scan_end, scan_found)

  pub come_within : (i : ℕ) → Come i → i ≤ records_of kind place bs
  come_within i q = rw q (least_from_lem (length bs - i) i other)

  -- every record up to the number of them is whole and of the kind
  pub whole_within : (i : ℕ) → i < records_of kind place bs → is_kind kind (record_at bs (place i)) ≡ true
  unfolding records_of
  whole_within i l = not-false _ (before_least (length bs) i other l)

  -- a run of whole records that ends in something else
  come_to : (n : ℕ) → n ≤ length bs → ((k : ℕ) → k < n → is_kind kind (record_at bs (place k)) ≡ true) → Come n
  unfolding records_of
  come_to n h all =
      ap (λ (x : ℕ). least 0 x other) {y = n + (length bs - n)} (omega arith)
      ∙ least_skip n 0 (length bs - n) other (λ k l m. ap not (all k (omega arith)))
      ∙ ap (λ (x : ℕ). least x (length bs - n) other) (zero-add n)

  pub records_are : (n : ℕ) → n ≤ length bs → ((k : ℕ) → k < n → is_kind kind (record_at bs (place k)) ≡ true) → is_kind kind (record_at bs (place n)) ≡ false
      → records_of kind place bs ≡ n
  records_are n h all none = sym (come_end n none (come_to n h all))
