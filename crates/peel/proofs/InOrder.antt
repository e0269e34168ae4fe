-- Peeling refuses in the order of the table: of the faults that apply the first decides the number, and the index is that of the lowest damaged bucket, or 0.
use mathlib.Core.Path.{◌≡◌, refl, sym, ◌∙◌}
use mathlib.Core.Bool.{Bool, true, false, not, ◌&&◌}
use Prim.Native.Nat.{ℕ, ◌≤◌}
use native.Mathlib.Omega.{arith}
use borrow.Author.Tests.{ltb-true}
use lib.Dec.{eqb, ltb, leb}
use lib.ListN.{length}
use Rattle.params.specs.declared.params.Params.{Params}
use Rattle.params.specs.declared.answers.Refusal.{Refusal}
use Rattle.params.specs.declared.answers.Refusal.TheVariants.{Param, Length, Damage}
use Rattle.params.specs.Lists.{least}
use Rattle.params.specs.Answers.{number_of, number_in, index_in, refuse_if, refuse_at, first, Answer, Done, Given}
use Rattle.params.specs.Params.{size, good_params, lengths_answer, lent_answer}
use Rattle.sketch.specs.Sketch.{Sketch, damaged_at}
use Rattle.params.specs.Faults.{order, first_of}
use Rattle.sketch.specs.Faults.{wrong_length}
use Rattle.peel.specs.Faults.{peel_fault}
use Rattle.params.proofs.InOrder.{lowest_first, refuse_number, refuse_at_number, first_refuse, cond_either}
use Rattle.params.proofs.Lowest.{Lowest, least_lowest}
use Rattle.peel.specs.Slices.{Slices, lent_sketch}
use Rattle.peel.specs.Peel.{walk_lent_answer, peel_answer, judged, Peels}
use Rattle.peel.proofs.Promised.{number_is, index_is}
use Rattle.std.specs.Prelude.{Err}
use Rattle.peel.specs.declared.peeling.Figures.{Figures}

-- an answer's index: with the number 5 the lowest below n that passes the test, else 0
record Index (n : ℕ) (t : ℕ → Bool) (r : Answer) : Type 0 where
  lowest : number_in r ≡ 5 → Lowest n t (index_in r)
  zero_else : (number_in r ≡ 5 → ⊥) → index_in r ≡ 0

module _ {n : ℕ} {t : ℕ → Bool} where
  done_index : Index n t Done
  done_index = record { lowest = λ e. absurd (omega arith); zero_else = λ d. refl }

  refuse_index : (b : Bool) (w : Refusal) (next : Answer) → (number_of w ≡ 5 → ⊥) → Index n t next → Index n t (refuse_if b w 0 next)
  refuse_index true w next d h = record { lowest = λ e. absurd (d e); zero_else = λ d. refl }
  refuse_index false w next d h = h

  first_index : (r next : Answer) → Index n t r → Index n t next → Index n t (first r next)
  unfolding first
  first_index Done next h k = k
  first_index (Err r) next h k = h

  found_index : (b : Bool) → ltb (least 0 n t) n ≡ b → Index n t (refuse_if b Damage (least 0 n t) Done)
  found_index true e = record { lowest = λ d. least_lowest n t (ltb-true _ _ e); zero_else = λ d. absurd (d refl) }
  found_index false e = done_index

module _ (P : Params) (S : Sketch) (flows numbers queue marks : ℕ) where
  judged_number : number_in (peel_answer P S flows numbers queue marks) ≡ first_of order (peel_fault P S flows numbers queue marks)
  unfolding peel_answer walk_lent_answer lent_answer lengths_answer first
  judged_number = simp (first_refuse, refuse_number, refuse_at_number, cond_either)

  judged_index : Index (size P) (damaged_at S) (peel_answer P S flows numbers queue marks)
  unfolding peel_answer walk_lent_answer lent_answer lengths_answer refuse_at
  judged_index =
      first_index _ _
      (first_index _ _
      (refuse_index (not (good_params P)) Param _ (λ e. omega arith) (refuse_index (wrong_length P S) Length Done (λ e. omega arith) done_index))
      (refuse_index (not (eqb queue (size P) && eqb marks (size P) && eqb flows numbers && leb flows 65536)) Length Done (λ e. omega arith) done_index))
      (found_index _ refl)

-- h is what the contract of `peel` gives
module _ {P : Params} {a : ℕ} {L : Slices} {r : Given Figures} {L' : Slices} (h : Peels P a L r L') where
  abbrev pub fault : Refusal → Bool
  fault = peel_fault P (lent_sketch L) (length L.flows) (length L.numbers) (length L.queue) (length L.marks)

  index_of : Index (size P) (damaged_at (lent_sketch L)) (judged P L)
  index_of = judged_index P (lent_sketch L) (length L.flows) (length L.numbers) (length L.queue) (length L.marks)

  -- the number of the first fault that applies, 0 where none does
  pub peel_number : number_in r ≡ first_of order fault
  peel_number = number_is h ∙ judged_number P (lent_sketch L) (length L.flows) (length L.numbers) (length L.queue) (length L.marks)

  -- so no fault that applies has a lower number
  pub peel_least_number : (w : Refusal) → fault w ≡ true → number_in r ≤ number_of w
  peel_least_number w e = rw peel_number (lowest_first fault refl refl w e)

  -- with the number of Damage the index is that of the lowest damaged bucket
  pub peel_lowest : number_in r ≡ 5 → Lowest (size P) (damaged_at (lent_sketch L)) (index_in r)
  peel_lowest e = rw (index_is h) (index_of.lowest (sym (number_is h) ∙ e))

  -- with any other it is 0
  pub peel_index : (number_in r ≡ 5 → ⊥) → index_in r ≡ 0
  peel_index d = index_is h ∙ index_of.zero_else (λ e. d (number_is h ∙ e))
