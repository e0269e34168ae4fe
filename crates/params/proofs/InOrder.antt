-- Refusals come in the order of the table: of the faults that apply the first decides the number, and the index is 0 unless a bucket is at fault.
-- The laws for every answer, and what they say of lent lengths, a position and an index.
use mathlib.Core.Path.{◌≡◌, refl, sym, ap, ◌∙◌}
use mathlib.Core.Bool.{Bool, true, false, not, cond, ◌&&◌, ◌||◌}
use mathlib.Core.Logic.{◌⊎◌, inl, inr, ⊎_elim}
use mathlib.Core.List.{List, [], ◌∷◌, ◌++◌}
use Prim.Native.Nat.{ℕ, ◌≤◌}
use native.Mathlib.Omega.{arith}
use borrow.Author.Tests.{ltb-true, leb-true}
use lib.Dec.{eqb, ltb, leb}
use lib.ListN.{take, drop}
use Rattle.params.specs.declared.params.Params.{Params}
use Rattle.params.specs.declared.answers.Refusal.{Refusal}
use Rattle.params.specs.declared.answers.Refusal.TheVariants.{Param, Length, Flow, Count, Damage, Range, Mismatch, Form, Fold}
use Rattle.params.specs.Lists.{least}
use Rattle.params.specs.Answers.{number_of, number_in, index_in, refuse_if, refuse_at, first, given, value_in, Answer, Done, Given}
use Rattle.params.specs.Params.{is_flow, size, good_params, lengths_answer, lent_answer}
use Rattle.params.specs.Faults.{order, first_of, somewhere, lent_fault, position_fault}
use Rattle.params.specs.Positions.{position_answer}
use Rattle.params.proofs.Searches.{and_true, all_below, below_fails, none_found}
use Rattle.params.proofs.Lowest.{least_lowest}
use Rattle.std.specs.Prelude.{Err}

-- where neither Mismatch nor Fold applies that is the lowest number: `rising` has them as the table does
abbrev rising : List Refusal
rising = Param ∷ Length ∷ Flow ∷ Count ∷ Damage ∷ Range ∷ Mismatch ∷ Form ∷ Fold ∷ []

abbrev none_above : ℕ → List Refusal → Bool
none_above n [] = true
none_above n (w ∷ ws) = leb (number_of w) n && none_above n ws

at_most : (b : Bool) (n k m : ℕ) → n ≤ m → k ≤ m → cond b n k ≤ m
at_most true n k m h l = h
at_most false n k m h l = l

before : (us vs : List Refusal) (applies : Refusal → Bool) (n : ℕ) → none_above n us ≡ true → first_of vs applies ≤ n → first_of (us ++ vs) applies ≤ n
before [] vs applies n e h = h
before (u ∷ us) vs applies n e h =
    let q = and_true (leb (number_of u) n) (none_above n us) e in
    at_most (applies u) (number_of u) (first_of (us ++ vs) applies) n (leb-true (number_of u) n q.0) (before us vs applies n q.1 h)

rising_lowest : (applies : Refusal → Bool) (w : Refusal) → applies w ≡ true → first_of rising applies ≤ number_of w
rising_lowest applies Param h = rw h (omega arith)
rising_lowest applies Length h = before (take 1 rising) (drop 1 rising) applies 2 refl (rw h (omega arith))
rising_lowest applies Flow h = before (take 2 rising) (drop 2 rising) applies 3 refl (rw h (omega arith))
rising_lowest applies Count h = before (take 3 rising) (drop 3 rising) applies 4 refl (rw h (omega arith))
rising_lowest applies Damage h = before (take 4 rising) (drop 4 rising) applies 5 refl (rw h (omega arith))
rising_lowest applies Range h = before (take 5 rising) (drop 5 rising) applies 6 refl (rw h (omega arith))
rising_lowest applies Mismatch h = before (take 6 rising) (drop 6 rising) applies 7 refl (rw h (omega arith))
rising_lowest applies Form h = before (take 7 rising) (drop 7 rising) applies 8 refl (rw h (omega arith))
rising_lowest applies Fold h = before (take 8 rising) (drop 8 rising) applies 9 refl (rw h (omega arith))

pub lowest_first : (applies : Refusal → Bool) → applies Mismatch ≡ false → applies Fold ≡ false → (w : Refusal) → applies w ≡ true → first_of order applies ≤ number_of w
lowest_first applies e q w h = rw (e, q) (rw (e, q) at (rising_lowest applies w h))

found_somewhere : (n : ℕ) (t : ℕ → Bool) (b : Bool) → ltb (least 0 n t) n ≡ b → b ≡ somewhere n t
found_somewhere n t true e =
    let l = least_lowest n t (ltb-true _ _ e) in
    sym (ap not (below_fails n (least 0 n t) (λ k. not (t k)) l.inside (ap not l.here)))
found_somewhere n t false e =
    sym (ap not (all_below n (λ k. not (t k)) (λ k l. ap not (none_found n t e k l))))

-- the number of an answer, fault by fault
pub refuse_number : (b : Bool) (w : Refusal) (k : ℕ) (next : Answer) → number_in (refuse_if b w k next) ≡ cond b (number_of w) (number_in next)
refuse_number true w k next = refl
refuse_number false w k next = refl

pub refuse_at_number : (n : ℕ) (t : ℕ → Bool) (w : Refusal) (next : Answer) → number_in (refuse_at n t w next) ≡ cond (somewhere n t) (number_of w) (number_in next)
unfolding refuse_at
refuse_at_number n t w next =
    refuse_number (ltb (least 0 n t) n) w (least 0 n t) next ∙ ap (λ (b : Bool). cond b (number_of w) (number_in next)) (found_somewhere n t _ refl)

pub first_refuse : (b : Bool) (w : Refusal) (k : ℕ) (r next : Answer) → first (refuse_if b w k r) next ≡ refuse_if b w k (first r next)
unfolding first
first_refuse true w k r next = refl
first_refuse false w k r next = refl

-- two tests with the same number
pub cond_either : (s t : Bool) (n k : ℕ) → cond s n (cond t n k) ≡ cond (s || t) n k
cond_either true t n k = refl
cond_either false t n k = refl

pub cond_within : (s t : Bool) (n k : ℕ) → (s ≡ true → t ≡ true) → cond (not s) n (cond (not t) n k) ≡ cond (not s) n k
cond_within true t n k h = rw (h refl)
cond_within false t n k h = refl

pub lent_number : (P : Params) (c s : ℕ) → number_in (lent_answer P c s) ≡ first_of order (lent_fault P c s)
unfolding lent_answer lengths_answer
lent_number P c s = simp refuse_number

-- a position or an index, k, is given, or 0 with the number of the first fault; the index at fault is always 0
pub record LocatedInOrder (P : Params) (i f k : ℕ) (r : Given ℕ) : Type 0 where
  pub number : number_in r ≡ first_of order (position_fault P i f)
  pub index : index_in r ≡ 0
  pub place : value_in r ≡ cond (eqb (number_in r) 0) k 0

pub located_in_order : (P : Params) (i f k : ℕ) → LocatedInOrder P i f k (given (position_answer P i f) k)
unfolding position_answer
located_in_order P i f k = by_tests (not (good_params P && (leb 1 i && leb i P.d))) (not (is_flow P f)) refl refl
  where
    by_tests : (s t : Bool) → s ≡ not (good_params P && (leb 1 i && leb i P.d)) → t ≡ not (is_flow P f) → LocatedInOrder P i f k (given (refuse_if s Param 0 (refuse_if t Flow 0 Done)) k)
    by_tests true t e h = record { number = rw (← e); index = refl; place = refl }
    by_tests false true e h = record { number = rw (← e, ← h); index = refl; place = refl }
    by_tests false false e h = record { number = rw (← e, ← h); index = refl; place = refl }

-- with any number but those of Damage and Range the index is 0
pub record IndexZero (r : Answer) : Type 0 where
  pub zero_else : (number_in r ≡ 5 → ⊥) → (number_in r ≡ 6 → ⊥) → index_in r ≡ 0

pub done_index : IndexZero Done
done_index = record { zero_else = λ d r. refl }

pub refuse_index : (b : Bool) (w : Refusal) (next : Answer) → IndexZero next → IndexZero (refuse_if b w 0 next)
refuse_index true w next h = record { zero_else = λ d r. refl }
refuse_index false w next h = h

pub first_index : (r next : Answer) → IndexZero r → IndexZero next → IndexZero (first r next)
unfolding first
first_index Done next h k = k
first_index (Err r) next h k = h

bucket_index_lem : (b : Bool) (w : Refusal) (k : ℕ) (next : Answer) → (number_of w ≡ 5) ⊎ (number_of w ≡ 6) → IndexZero next → IndexZero (refuse_if b w k next)
bucket_index_lem true w k next e h = record { zero_else = λ d r. absurd (⊎_elim d r e) }
bucket_index_lem false w k next e h = h

pub buckets_index : (n m : ℕ) (t u : ℕ → Bool) → IndexZero (refuse_at n t Damage (refuse_at m u Range Done))
unfolding refuse_at
buckets_index n m t u =
    bucket_index_lem (ltb (least 0 n t) n) Damage _ _ (inl refl) (bucket_index_lem (ltb (least 0 m u) m) Range _ _ (inr refl) done_index)

pub lengths_index : (P : Params) (c s : ℕ) → IndexZero (lengths_answer P c s)
unfolding lengths_answer
lengths_index P c s = refuse_index (not (eqb c (size P) && eqb s (size P))) Length Done done_index

pub lent_index : (P : Params) (c s : ℕ) → IndexZero (lent_answer P c s)
unfolding lent_answer
lent_index P c s = refuse_index (not (good_params P)) Param _ (lengths_index P c s)

-- an answer goes by a table of faults: its number is that of the first that applies, and its index is 0 unless a bucket is at fault
pub record GoesBy (fault : Refusal → Bool) (r : Answer) : Type 0 where
  pub number : number_in r ≡ first_of order fault
  pub index : IndexZero r

pub goes_by : {fault : Refusal → Bool} {answer r : Answer} → r ≡ answer → number_in answer ≡ first_of order fault → IndexZero answer → GoesBy fault r
goes_by e n i = rw e (record { number = n; index = i })
