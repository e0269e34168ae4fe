-- Settling as a caller meets it, by the answer of a call of whatever function meets its contract: which number and index a refusal has, and that what ended is
-- the difference peeled.
use mathlib.Core.Path.{◌≡◌, refl, sym, ap, ◌∙◌}
use mathlib.Core.Bool.{Bool, true, false, not, cond, ◌&&◌, ◌||◌}
use Prim.Native.Nat.{ℕ, suc, ◌*◌, ◌≤◌}
use native.Mathlib.Omega.{arith}
use borrow.Author.Tests.{ne_eqb}
use lib.Dec.{eqb, leb}
use lib.IntN.{◌-ℤ◌}
use lib.ListN.{length}
use Rattle.params.specs.declared.params.Params.{Params}
use Rattle.params.specs.declared.answers.Refusal.{Refusal}
use Rattle.params.specs.declared.answers.Refusal.TheVariants.{Param, Length, Flow, Count, Damage, Range, Mismatch, Form, Fold}
use Rattle.params.specs.Answers.{number_of, number_in, index_in, first, kept, Answer, Done, Refused, Given}
use Rattle.params.specs.Params.{size, good_params, same_params, lengths_answer, lent_answer}
use Rattle.params.specs.Faults.{order, first_of, somewhere}
use Rattle.params.proofs.InOrder.{lowest_first, refuse_number, first_refuse, cond_either, IndexZero, done_index, refuse_index, first_index, lent_index}
use Rattle.params.proofs.Judging.{number_some}
use Rattle.params.proofs.Lowest.{Lowest}
use Rattle.params.proofs.SameParams.{same_itself}
use Rattle.buckets.specs.Buckets.{in_limits, damaged}
use Rattle.sketch.specs.Sketch.{Sketch, count_in, idsum_in}
use Rattle.sketch.specs.Faults.{wrong_length}
use Rattle.sketch.proofs.Lowest.{of_bucket, refuses_bucket, refuse_early, first_early, first_late, lent_early}
use Rattle.sums.specs.Sums.{either_damaged, leaves, combine_answer}
use Rattle.sums.proofs.InOrder.{combine_number, combine_index}
use Rattle.sums.proofs.Lowest.{combine_lowest_damage, combine_lowest_range}
use Rattle.peel.specs.Slices.{Slices, lent_sketch}
use Rattle.peel.specs.Peel.{walk_lent_answer, unless_refused, judged, walked, peeled_of, peel_returns, Peels}
use Rattle.settle.specs.Settling.{settle_answer, settle_judged, less_downstream, Settles}
use Rattle.settle.specs.Faults.{settle_fault}
use Rattle.settle.proofs.Settled.{settled_is_peeled, settled_ends}
use Rattle.std.specs.Prelude.{Err}
use Rattle.peel.specs.declared.peeling.Figures.{Figures}

-- of two answers the first that refuses gives the number
first_number_lem : (r next : Answer) → number_in (first r next) ≡ cond (eqb (number_in r) 0) (number_in next) (number_in r)
unfolding first
first_number_lem Done next = refl
first_number_lem (Err r) next = rw (ne_eqb (number_of r.0) 0 (number_some r.0))

-- what is judged twice counts once: g of the parameters, s of their likeness, u of the upstream's lengths, v of the walk's and w of the downstream's
once : (g s u v w damage range : Bool) → s ≡ true
    → ◌≡◌ {A = ℕ}
    (cond (eqb (cond (not g) 1 (cond (u || v) 2 0)) 0) (cond (not (g && g)) 1 (cond (not s) 7 (cond (u || w) 2 (cond damage 5 (cond range 6 0))))) (cond (not g) 1 (cond (u || v) 2 0)))
    (cond (not g) 1 (cond (u || v || w) 2 (cond damage 5 (cond range 6 0))))
once false s u v w damage range e = refl
once true s true v w damage range e = refl
once true s false true w damage range e = refl
once true s false false w damage range e = rw e refl

-- a refusal of a bucket, by its number
abbrev numbered : ℕ → Refusal
numbered k =
    cond (eqb k 1) Param
    (cond (eqb k 2) Length
    (cond (eqb k 3) Flow
    (cond (eqb k 4) Count
    (cond (eqb k 5) Damage
    (cond (eqb k 6) Range
    (cond (eqb k 7) Mismatch
    (cond (eqb k 8) Form Fold)))))))

by_number : (w : Refusal) → w ≡ numbered (number_of w)
by_number Param = refl
by_number Length = refl
by_number Flow = refl
by_number Count = refl
by_number Damage = refl
by_number Range = refl
by_number Mismatch = refl
by_number Form = refl
by_number Fold = refl

refused_by_number : (x : Answer) (n : ℕ) → number_in x ≡ suc n → x ≡ Refused (numbered (suc n)) (index_in x)
refused_by_number Done n e = absurd (omega arith)
refused_by_number (Err r) n e = ap (λ (w : Refusal). Refused w r.1) (by_number r.0 ∙ ap numbered e)

module _ (P : Params) (S T : Sketch) (flows numbers queue marks : ℕ) where
  abbrev lengths : Answer
  lengths = walk_lent_answer P (length S.counts) (length S.idsums) flows numbers queue marks

  abbrev wrong_walk : Bool
  wrong_walk = not (eqb queue (size P) && eqb marks (size P) && eqb flows numbers && leb flows 65536)

  abbrev some_damaged : Bool
  some_damaged = somewhere (length S.counts) (either_damaged S T)

  abbrev some_leaves : Bool
  some_leaves = somewhere (length S.counts) (leaves true S.counts T.counts)

  lengths_number : number_in lengths ≡ cond (not (good_params P)) 1 (cond (wrong_length P S || wrong_walk) 2 0)
  unfolding walk_lent_answer lent_answer lengths_answer first
  lengths_number = simp (first_refuse, refuse_number, cond_either)

  lengths_index_zero : IndexZero lengths
  unfolding walk_lent_answer
  lengths_index_zero = first_index _ _ (lent_index P _ _) (refuse_index wrong_walk Length Done done_index)

  lengths_of_none : refuses_bucket lengths ≡ false
  unfolding walk_lent_answer
  lengths_of_none = first_early _ _ (lent_early P _ _) (refuse_early wrong_walk Length 0 Done refl refl)

  judged_number : number_in (settle_answer P S T flows numbers queue marks)
      ≡ cond (not (good_params P)) 1 (cond (wrong_length P S || wrong_walk || wrong_length P T) 2 (cond some_damaged 5 (cond some_leaves 6 0)))
  unfolding settle_answer
  judged_number =
      first_number_lem lengths (combine_answer true P P S T)
      ∙ rw (lengths_number, combine_number true P P S T)
      (once (good_params P) (same_params P P) (wrong_length P S) wrong_walk (wrong_length P T) some_damaged some_leaves (same_itself P))

  judged_index : IndexZero (settle_answer P S T flows numbers queue marks)
  unfolding settle_answer
  judged_index = first_index _ _ lengths_index_zero (combine_index true P P S T)

  difference_late : (w : Refusal) (k : ℕ) → of_bucket w ≡ true → settle_answer P S T flows numbers queue marks ≡ Refused w k → combine_answer true P P S T ≡ Refused w k
  unfolding settle_answer
  difference_late w k b e = (first_late _ _ w k lengths_of_none b e).1

-- h is what the contract of `settle` gives
module _ {P : Params} {T : Sketch} {L : Slices} {r : Given Figures} {L' : Slices} (h : Settles P T L r L') where
  abbrev verdict : Answer
  verdict = settle_judged P T L

  abbrev S : Sketch
  S = lent_sketch L

  -- the answer's number and index are what was judged: peeling the difference refuses nothing
  verdict_peeled : (x : Answer) → verdict ≡ x → (number_in (unless_refused x (peel_returns P (8 * size P) (less_downstream P T L))) ≡ number_in x)
      × (index_in (unless_refused x (peel_returns P (8 * size P) (less_downstream P T L))) ≡ index_in x)
  verdict_peeled Done e =
      let ended : judged P (less_downstream P T L) ≡ Done = settled_ends P T L e in
      (ap (λ (x : Answer). number_in (peeled_of x (walked P (8 * size P) (less_downstream P T L)))) ended, ap (λ (x : Answer). index_in (peeled_of x (walked P (8 * size P) (less_downstream P T L)))) ended)
  verdict_peeled (Err r) e = (refl, refl)

  pub number_is : number_in r ≡ number_in verdict
  number_is = ap number_in h.answer ∙ (verdict_peeled verdict refl).0

  index_is : index_in r ≡ index_in verdict
  index_is = ap index_in h.answer ∙ (verdict_peeled verdict refl).1

  -- the number of the first fault that applies, 0 where none does
  pub settle_number : number_in r ≡ first_of order (settle_fault P T L)
  settle_number = number_is ∙ judged_number P S T (length L.flows) (length L.numbers) (length L.queue) (length L.marks)

  -- so no fault that applies has a lower number
  pub settle_least_number : (w : Refusal) → settle_fault P T L w ≡ true → number_in r ≤ number_of w
  settle_least_number w e = rw settle_number (lowest_first (settle_fault P T L) refl refl w e)

  -- with the number of Damage the index is that of the lowest bucket that is damaged in either sketch
  pub settle_lowest_damage : number_in r ≡ 5 → Lowest (size P) (λ j. damaged (count_in S j) (idsum_in S j) || damaged (count_in T j) (idsum_in T j)) (index_in r)
  settle_lowest_damage e =
      rw index_is
      (combine_lowest_damage true P P S T (index_in verdict)
      (difference_late P S T _ _ _ _ Damage (index_in verdict) refl (refused_by_number verdict 4 (sym number_is ∙ e))))

  -- with that of Range, of the lowest whose difference of counts leaves the limits
  pub settle_lowest_range : number_in r ≡ 6 → Lowest (size P) (λ j. not (in_limits (count_in S j -ℤ count_in T j))) (index_in r)
  settle_lowest_range e =
      rw index_is
      (combine_lowest_range true P P S T (index_in verdict)
      (difference_late P S T _ _ _ _ Range (index_in verdict) refl (refused_by_number verdict 5 (sym number_is ∙ e)))).0

  -- with any other it is 0
  pub settle_index : (number_in r ≡ 5 → ⊥) → (number_in r ≡ 6 → ⊥) → index_in r ≡ 0
  settle_index d g =
      index_is
      ∙ (judged_index P S T (length L.flows) (length L.numbers) (length L.queue) (length L.marks)).zero_else (λ e. d (number_is ∙ e)) (λ e. g (number_is ∙ e))

  -- a refusal alters nothing
  pub settle_keeps : (number_in r ≡ 0 → ⊥) → L' ≡ L
  unfolding kept
  settle_keeps refused = go verdict refl
    where
      go : (x : Answer) → verdict ≡ x → L' ≡ L
      go Done e = absurd (refused (number_is ∙ ap number_in e))
      go (Err r) e = h.after ∙ rw e refl

  -- where the number is 0, what is settled is the difference peeled, and all that is promised of peeling holds of it
  pub ended_is_peeled : number_in r ≡ 0 → Peels P (8 * size P) (less_downstream P T L) r L'
  ended_is_peeled ended = settled_is_peeled P T L (done verdict refl) h
    where
      done : (x : Answer) → verdict ≡ x → verdict ≡ Done
      done Done e = e
      done (Err r) e = absurd (number_some r.0 (sym (ap number_in e) ∙ sym number_is ∙ ended))
