-- Refusals as a caller gets them: by the answer of a call, of whatever function meets its contract.
use mathlib.Core.Path.{◌≡◌, refl, sym, ap, subst⁻¹, ◌∙◌}
use mathlib.Core.Bool.{Bool, true, false, not}
use mathlib.Core.List.{List, [], ◌∷◌}
use Prim.Native.Nat.{ℕ, zero, suc, ◌≤◌, ◌<◌}
use native.Mathlib.Omega.{arith}
use borrow.Author.Tests.{eqb-true, not-false}
use lib.Dec.{eqb}
use lib.IntN.{pos}
use lib.ListN.{length, get_or, take}
use Rattle.params.specs.declared.params.Params.{Params}
use Rattle.params.specs.declared.answers.Refusal.TheVariants.{Param, Length, Damage, Range}
use Rattle.params.specs.declared.answers.Refusal.{Refusal}
use Rattle.params.specs.Answers.{number_of, number_in, refuse_if, first, Answer, Done, Refused}
use Rattle.params.specs.Params.{size, good_params, lengths_answer, lent_answer}
use Rattle.params.specs.Positions.{stands}
use Rattle.params.specs.Faults.{order, first_of, lent_fault}
use Rattle.buckets.specs.Buckets.{in_limits, damaged, plus_minus}
use Rattle.sketch.specs.Sketch.{Sketch, count_in, idsum_in, Freshened}
use Rattle.sketch.specs.Packets.{step_answer, move_answer, packets_answer, all_answer, changed, after, Moved, AllInserted, Accepted}
use Rattle.sketch.specs.Faults.{move_fault, all_fault}
use Rattle.params.proofs.Judging.{first_done, first_passed, refuse_done, number_some}
use Rattle.params.proofs.InOrder.{GoesBy, goes_by, IndexZero, refuse_number, first_refuse, cond_either, done_index, refuse_index, first_index, lent_number, lent_index}
use Rattle.sketch.proofs.InOrder.{move_number, move_index, move_lowest}
use Rattle.sketch.proofs.Steps.{move_good}
use Rattle.sketch.proofs.Lowest.{LowestOf, move_lowest_damage, move_lowest_range}
use Rattle.std.specs.Prelude.{Err}

pub fresh_goes_by : {P : Params} {S S' : Sketch} {r : Answer} → Freshened P S r S' → GoesBy (lent_fault P (length S.counts) (length S.idsums)) r
fresh_goes_by h = goes_by h.answer (lent_number _ _ _) (lent_index _ _ _)

-- an insertion, or a withdrawal where `minus` holds
module _ {minus : Bool} {P : Params} {f n : ℕ} {S S' : Sketch} where
  pub move_goes_by : {r : Answer} → Moved minus P f n S r S' → GoesBy (move_fault P minus f n S) r
  move_goes_by h = goes_by h.answer (move_number P minus f n S) (move_index P minus f n S)

  -- no fault that applies has a lower number
  pub move_least_number : {r : Answer} → Moved minus P f n S r S' → (w : Refusal) → move_fault P minus f n S w ≡ true → number_in r ≤ number_of w
  move_least_number h w e = rw h.answer (move_lowest P minus f n S w e)

  -- the index is that of the lowest of the flow's buckets at fault
  pub move_damage : {k : ℕ} → Moved minus P f n S (Refused Damage k) S' → LowestOf (size P) (stands P f) (λ j. damaged (count_in S j) (idsum_in S j)) k
  move_damage {k} h = move_lowest_damage P minus f n S k (sym h.answer)

  pub move_range : {k : ℕ} → Moved minus P f n S (Refused Range k) S' → LowestOf (size P) (stands P f) (λ j. not (in_limits (plus_minus minus (count_in S j) (pos n)))) k
  move_range {k} h = (move_lowest_range P minus f n S k (sym h.answer)).0

-- Many packets: all are accepted, or the answer is that of an insertion of the first that is refused, into the sketch that those before it left.
pub data FirstRefused (P : Params) (fs ns : List ℕ) (S : Sketch) : Answer → Type 0 where
  none_refused : Accepted P fs ns S (length fs) → FirstRefused P fs ns S Done
  refused_at_lem : {w : Refusal} {j : ℕ} (k : ℕ) → k < length fs → Accepted P fs ns S k
      → Refused w j ≡ move_answer P false (get_or fs k 0) (get_or ns k 0) (after P (take k fs) (take k ns) S) → FirstRefused P fs ns S (Refused w j)

accepted_next : (P : Params) (f n : ℕ) (fs ns : List ℕ) (S : Sketch) (i : ℕ) → step_answer P false f n S ≡ Done → Accepted P fs ns (changed P false f n S) i → Accepted P (f ∷ fs) (n ∷ ns) S (suc i)
unfolding after
accepted_next P f n fs ns S i d a zero l = d
accepted_next P f n fs ns S i d a (suc j) l = a j (omega arith)

packets_first : (P : Params) (fs ns : List ℕ) (S : Sketch) → good_params P ≡ true → length fs ≡ length ns → FirstRefused P fs ns S (packets_answer P fs ns S)
unfolding packets_answer first after
packets_first P [] ns S g e = none_refused (λ j l. absurd (omega arith))
packets_first P (f ∷ fs) [] S g e = absurd (omega arith)
packets_first P (f ∷ fs) (n ∷ ns) S g e = go (step_answer P false f n S) refl (packets_first P fs ns (changed P false f n S) g (omega arith))
  where
    next : step_answer P false f n S ≡ Done → (r : Answer) → FirstRefused P fs ns (changed P false f n S) r → FirstRefused P (f ∷ fs) (n ∷ ns) S r
    next d Done (none_refused a) = none_refused (accepted_next P f n fs ns S (length fs) d a)
    next d (Err r) (refused_at_lem k l a q) = refused_at_lem (suc k) (omega arith) (accepted_next P f n fs ns S k d a) q

    go : (r : Answer) → step_answer P false f n S ≡ r → FirstRefused P fs ns (changed P false f n S) (packets_answer P fs ns (changed P false f n S)) → FirstRefused P (f ∷ fs) (n ∷ ns) S (first r (packets_answer P fs ns (changed P false f n S)))
    go Done d ih = next d _ ih
    go (Err r) d ih = refused_at_lem 0 (omega arith) (λ i l. absurd (omega arith)) (sym (move_good P false f n S g ∙ d))

-- the parameters and the lengths are judged before the first packet
pub record AllGoesBy (P : Params) (fs ns : List ℕ) (S : Sketch) (r : Answer) : Type 0 where
  pub before : (first_of order (all_fault P fs ns S) ≡ 0 → ⊥) → GoesBy (all_fault P fs ns S) r
  pub packets : first_of order (all_fault P fs ns S) ≡ 0 → FirstRefused P fs ns S r

module _ (P : Params) (fs ns : List ℕ) (S : Sketch) where
  unequal : Bool
  unequal = not (eqb (length fs) (length ns))

  ahead : Answer
  ahead = first (lent_answer P (length S.counts) (length S.idsums)) (refuse_if unequal Length 0 Done)

  ahead_number : number_in ahead ≡ first_of order (all_fault P fs ns S)
  unfolding ahead unequal lent_answer lengths_answer first
  ahead_number = simp (first_refuse, refuse_number, cond_either)

  ahead_index : IndexZero ahead
  unfolding ahead
  ahead_index = first_index _ _ (lent_index P _ _) (refuse_index unequal Length Done done_index)

  ahead_first : all_answer P fs ns S ≡ first ahead (packets_answer P fs ns S)
  unfolding ahead unequal all_answer first
  ahead_first = go (lent_answer P (length S.counts) (length S.idsums))
    where
      go : (r : Answer) → first r (refuse_if unequal Length 0 (packets_answer P fs ns S)) ≡ first (first r (refuse_if unequal Length 0 Done)) (packets_answer P fs ns S)
      go Done = sym (first_refuse unequal Length 0 Done (packets_answer P fs ns S))
      go (Err r) = refl

  ahead_done : ahead ≡ Done → (good_params P ≡ true) × (length fs ≡ length ns)
  unfolding ahead unequal lent_answer
  ahead_done e =
      let h = first_done _ _ e in
      (not-false _ (refuse_done (not (good_params P)) Param 0 _ h.0).0, eqb-true _ _ (not-false _ (refuse_done unequal Length 0 Done h.1).0))

  pub all_goes_by : {r : Answer} {S' : Sketch} → AllInserted P fs ns S r S' → AllGoesBy P fs ns S r
  unfolding first
  all_goes_by {r} h = go ahead refl
    where
      go : (a : Answer) → ahead ≡ a → AllGoesBy P fs ns S r
      go Done e =
          let g = ahead_done e in
          record {
            before = λ q. absurd (q (sym ahead_number ∙ ap number_in e));
            packets = λ z. subst⁻¹ (FirstRefused P fs ns S) (h.answer ∙ ahead_first ∙ first_passed ahead _ e) (packets_first P fs ns S g.0 g.1);
          }
      go (Err r) e =
          record {
            before = λ q. goes_by (h.answer ∙ ahead_first ∙ ap (λ (a : Answer). first a (packets_answer P fs ns S)) e ∙ sym e) ahead_number ahead_index;
            packets = λ z. absurd (number_some r.0 (sym (ap number_in e) ∙ ahead_number ∙ z));
          }
