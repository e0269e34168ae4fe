-- A fold as a caller gets it, of whatever function meets its contract: the folded sketch and its parameters, folds of folds, and refusals.
use mathlib.Core.Path.{◌≡◌, refl, sym, ap, ap₂, subst, ◌∙◌}
use mathlib.Core.Bool.{Bool, true, false, not, true≢false}
use mathlib.Core.List.{List, ◌++◌, append-nil}
use Prim.Native.Nat.{ℕ, ◌-◌, ◌*◌, ◌≤◌, ◌<◌}
use native.Mathlib.Decide.{dec_lt}
use native.Mathlib.Omega.{arith}
use lib.IntN.{pos}
use lib.ListN.{length, replicate, get_or-eq_default}
use lib.Seq.{take_at}
use Rattle.field.specs.Residue.{residue}
use Rattle.field.proofs.Residues.{residue_below}
use Rattle.std.specs.Prelude.{Ok}
use Rattle.params.specs.declared.params.Params.{Params}
use Rattle.params.specs.declared.answers.Refusal.{Refusal}
use Rattle.params.specs.declared.answers.Refusal.TheVariants.{Damage, Range}
use Rattle.params.specs.Answers.{kept, Answer, Done, Refused, Given, given, answer_of}
use Rattle.params.specs.Params.{prime, size, resized, good_params}
use Rattle.params.specs.Lists.{padded}
use Rattle.params.proofs.Changes.{padded_long, padded_past}
use Rattle.params.proofs.InOrder.{GoesBy, goes_by}
use Rattle.params.proofs.Judging.{answer_given}
use Rattle.params.proofs.Lowest.{Lowest}
use Rattle.params.proofs.Rules.{lent_good, resized_good}
use Rattle.buckets.specs.Buckets.{in_limits, damaged}
use Rattle.buckets.proofs.Idsums.{prime_pos}
use Rattle.buckets.proofs.Limits.{whole, whole_back}
use Rattle.sketch.specs.Sketch.{Sketch, sketch, count_in, idsum_in, damaged_at, Entry, sketch_of}
use Rattle.sketch.specs.Packets.{Moved, AllInserted}
use Rattle.sketch.proofs.Tables.{length_from, from_at}
use Rattle.sketch.proofs.AtTheCall.{move_damage}
use Rattle.sketch.proofs.Whole.{Whole, all_whole}
use Rattle.fold.specs.Fold.{whole_count, whole_idsum, folded, in_slices, front, fold_answer, Folded, folded_to}
use Rattle.fold.specs.Faults.{fold_fault}
use Rattle.fold.proofs.Turns.{short_step, fewer_buckets}
use Rattle.fold.proofs.Accepting.{FoldAccepted, accepted, accepted_done}
use Rattle.fold.proofs.OfLists.{folded_list}
use Rattle.fold.proofs.Again.{foldable_on, count_on, folded_twice, folded_same}
use Rattle.fold.proofs.InOrder.{fold_number, fold_index}
use Rattle.fold.proofs.Lowest.{fold_lowest_damage, fold_lowest_range}

-- what was judged: a refusal goes by the table, and an answer that is done comes with the old parameters and m2 buckets an array
module _ {P : Params} {m2 : ℕ} {S S' : Sketch} {r : Given Params} (f : Folded P m2 S r S') where
  judged_as : answer_of r ≡ fold_answer P m2 S
  judged_as = ap answer_of f.answer ∙ answer_given (fold_answer P m2 S) (resized P m2)

  pub fold_goes_by : GoesBy (fold_fault P m2 S) (answer_of r)
  fold_goes_by = goes_by judged_as (fold_number P m2 S) (fold_index P m2 S)

  -- the index is that of the lowest damaged bucket, or of the lowest bucket of the folded sketch whose whole sum leaves the limits
  pub fold_damage : {k : ℕ} → r ≡ Refused Damage k → Lowest (size P) (λ j. damaged (count_in S j) (idsum_in S j)) k
  fold_damage {k} e = fold_lowest_damage P m2 S k (sym judged_as ∙ ap answer_of e)

  pub fold_range : {k : ℕ} → r ≡ Refused Range k → Lowest (P.d * m2) (λ j. not (in_limits (whole_count P.d P.m m2 S.counts j))) k
  fold_range {k} e = (fold_lowest_range P m2 S k (sym judged_as ∙ ap answer_of e)).0

  pub fold_done : answer_of r ≡ Done → r ≡ folded_to (resized P m2)
  fold_done e = f.answer ∙ ap (λ (a : Answer). given a (resized P m2)) (sym judged_as ∙ e)

  pub fold_refused : {w : Refusal} {k : ℕ} → r ≡ Refused w k → S' ≡ S
  unfolding kept
  fold_refused e = f.after ∙ rw e

-- how many buckets the folded sketch has
module _ (P : Params) (m2 : ℕ) (S : Sketch) where
  pub folded_counts_long : length (folded P m2 S).counts ≡ P.d * m2
  unfolding folded
  folded_counts_long = length_from 0 (P.d * m2) _

  pub folded_idsums_long : length (folded P m2 S).idsums ≡ P.d * m2
  unfolding folded
  folded_idsums_long = length_from 0 (P.d * m2) _

  -- its buckets
  pub folded_count : (k : ℕ) → k < P.d * m2 → count_in (folded P m2 S) k ≡ whole_count P.d P.m m2 S.counts k
  unfolding folded
  folded_count k l = from_at (P.d * m2) _ k (pos 0) l

  pub folded_below : (k : ℕ) → k < P.d * m2 → idsum_in (folded P m2 S) k < prime
  unfolding folded
  folded_below k l = rw (from_at (P.d * m2) (λ j. residue prime (whole_idsum P.d P.m m2 S.idsums j)) k 0 l) (residue_below prime prime_pos _)

module _ {P Q : Params} {m2 : ℕ} {S S' : Sketch} (f : Folded P m2 S (folded_to Q) S') where
  -- nothing was refused, so all that is judged holds
  pub not_refused : fold_answer P m2 S ≡ Done
  not_refused = sym (judged_as f)

  pub all_accepted : FoldAccepted P m2 S
  all_accepted = accepted P m2 S not_refused

  -- the parameters are those that were there, with m2 buckets an array, and keep the rules
  pub params_are : Q ≡ resized P m2
  params_are = let e : Ok Q ≡ Ok (resized P m2) = fold_done f refl in cc

  pub params_good : good_params Q ≡ true
  params_good =
      let h = all_accepted.asked in
      rw params_are (resized_good P m2 (lent_good P _ _ all_accepted.lent) h.m2_low (omega (arith, short_step h, h.m_high)))

  pub size_is : size Q ≡ P.d * m2
  size_is = ap size params_are

  -- the folded sketch stands in front
  padded_is : S' ≡ in_slices (size P) (folded P m2 S)
  unfolding kept
  padded_is = f.after

  pub front_is : front (size Q) S' ≡ folded P m2 S
  unfolding in_slices padded
  front_is =
      rw (padded_is, size_is)
      (ap₂ sketch
      (take_at (folded P m2 S).counts _ (P.d * m2) (folded_counts_long P m2 S))
      (take_at (folded P m2 S).idsums _ (P.d * m2) (folded_idsums_long P m2 S)))

  -- the slices keep their lengths, and the freed room is zeroed
  pub still_long : (length S'.counts ≡ length S.counts) × (length S'.idsums ≡ length S.idsums)
  unfolding in_slices
  still_long =
      let h = all_accepted.asked in
      rw padded_is (
        padded_long (size P) (pos 0) (folded P m2 S).counts (omega (arith, folded_counts_long P m2 S, fewer_buckets h, h.counts_long)) ∙ sym h.counts_long,
        padded_long (size P) 0 (folded P m2 S).idsums (omega (arith, folded_idsums_long P m2 S, fewer_buckets h, h.counts_long)) ∙ sym h.idsums_long,
      )

  pub freed_zero : (k : ℕ) → size Q ≤ k → (count_in S' k ≡ pos 0) × (idsum_in S' k ≡ 0)
  unfolding in_slices
  freed_zero k l =
      rw padded_is (
        padded_past (size P) (pos 0) (folded P m2 S).counts k (omega (arith, folded_counts_long P m2 S, size_is)),
        padded_past (size P) 0 (folded P m2 S).idsums k (omega (arith, folded_idsums_long P m2 S, size_is)),
      )

  -- how long the folded sketch is
  pub front_long : (length (front (size Q) S').counts ≡ size Q) × (length (front (size Q) S').idsums ≡ size Q)
  front_long =
      (ap (λ (X : Sketch). length X.counts) front_is ∙ folded_counts_long P m2 S ∙ sym size_is, ap (λ (X : Sketch). length X.idsums) front_is ∙ folded_idsums_long P m2 S ∙ sym size_is)

  -- no bucket of the folded sketch is damaged, so that it is whole and no later call refuses it for that
  pub folded_undamaged : (k : ℕ) → damaged_at (front (size Q) S') k ≡ false
  unfolding in_limits
  folded_undamaged k = ap (λ (X : Sketch). damaged_at X k) front_is ∙ at (dec_lt k (P.d * m2))
    where
      at : Dec (k < P.d * m2) → damaged_at (folded P m2 S) k ≡ false
      at (yes l) = whole_back (count_in (folded P m2 S) k) (idsum_in (folded P m2 S) k) (ap in_limits (folded_count P m2 S k l) ∙ all_accepted.stays k l) (folded_below P m2 S k l)
      at (no l) =
          rw (get_or-eq_default (folded P m2 S).counts (pos 0) {n = k} (omega (arith, folded_counts_long P m2 S)), get_or-eq_default (folded P m2 S).idsums 0 {n = k} (omega (arith, folded_idsums_long P m2 S)))
          refl

  pub folded_whole : Whole Q (front (size Q) S')
  folded_whole = record { counts_long = front_long.0; idsums_long = front_long.1; undamaged = λ k l. folded_undamaged k }

  -- each refusal for damage names the lowest damaged bucket, and here there is none: packets, and another fold
  pub no_damage : {n k : ℕ} → Lowest n (damaged_at (front (size Q) S')) k → ⊥
  no_damage {n} {k} l = true≢false (sym l.here ∙ folded_undamaged k)

  pub move_after_fold : {minus : Bool} {g n k : ℕ} {T : Sketch} → Moved minus Q g n (front (size Q) S') (Refused Damage k) T → ⊥
  move_after_fold {minus} {g} {n} {k} h = true≢false (sym (move_damage h).at_fault ∙ folded_undamaged k)

  pub all_after_fold : {gs ns : List ℕ} {k : ℕ} {T : Sketch} → AllInserted Q gs ns (front (size Q) S') (Refused Damage k) T → ⊥
  all_after_fold h = all_whole folded_whole h

  pub fold_after_fold : {m3 k : ℕ} {T : Sketch} {r : Given Params} → Folded Q m3 (front (size Q) S') r T → r ≡ Refused Damage k → ⊥
  fold_after_fold h e = no_damage (fold_damage h e)

  -- the sketch of a list becomes the list's sketch with the new parameters, in both fields
  pub fold_of_list : (es : List Entry) → S ≡ sketch_of P es → front (size Q) S' ≡ sketch_of Q es
  fold_of_list es e = front_is ∙ ap (folded P m2) e ∙ folded_list P m2 all_accepted.asked es ∙ ap (λ (R : Params). sketch_of R es) (sym params_are)

  -- and where m2 is m nothing changes
  pub fold_to_same : m2 ≡ P.m → (Q ≡ P) × (S' ≡ S)
  unfolding in_slices padded
  fold_to_same e = (params_are ∙ ap (resized P) e, unchanged)
    where
      a : FoldAccepted P m2 S
      a = all_accepted

      same : folded P m2 S ≡ S
      same =
          ap (λ (n : ℕ). folded P n S) e
          ∙ folded_same P S a.asked.counts_long a.asked.idsums_long (λ k l. (whole (count_in S k) (idsum_in S k) (a.undamaged k l)).1)

      no_room : (n : ℕ) → n ≡ size P → size P - n ≡ 0
      no_room n q = omega arith

      unchanged : S' ≡ S
      unchanged =
          padded_is ∙ ap (in_slices (size P)) same
          ∙ ap₂ sketch
          (ap (λ (n : ℕ). S.counts ++ replicate n (pos 0)) (no_room (length S.counts) a.asked.counts_long) ∙ append-nil S.counts)
          (ap (λ (n : ℕ). S.idsums ++ replicate n 0) (no_room (length S.idsums) a.asked.idsums_long) ∙ append-nil S.idsums)

-- where neither of two steps is refused, the fold at once is not refused either
twice_accepted : (P : Params) (m2 m3 : ℕ) (S : Sketch) → FoldAccepted P m2 S → FoldAccepted (resized P m2) m3 (folded P m2 S) → FoldAccepted P m3 S
unfolding folded
twice_accepted P m2 m3 S a b =
    record {
      lent = a.lent;
      asked = foldable_on P m2 m3 a.asked b.asked;
      undamaged = a.undamaged;
      stays = λ k l. ap in_limits (sym (count_on P m2 m3 a.asked b.asked S.counts k)) ∙ b.stays k l;
    }

-- to m2 and then to m3 is to m3: the fold at once has the same parameters and the same sketch
pub fold_twice : {P Q R : Params} {m2 m3 : ℕ} {S S' S'' T : Sketch} {r : Given Params} → Folded P m2 S (folded_to Q) S' → Folded Q m3 (front (size Q) S') (folded_to R) S''
    → Folded P m3 S r T → (r ≡ folded_to R) × (front (size R) T ≡ front (size R) S'')
unfolding kept
fold_twice {P} {Q} {R} {m2} {m3} {S} {S'} {S''} {T} {r} f g h =
    (returned, front_is (subst (λ (o : Given Params). Folded P m3 S o T) returned h) ∙ sym (folded_twice P m2 m3 (all_accepted f).asked next.asked S) ∙ sym second)
  where
    next : FoldAccepted (resized P m2) m3 (folded P m2 S)
    next = subst (λ (X : Params). FoldAccepted X m3 (folded P m2 S)) (params_are f) (subst (λ (X : Sketch). FoldAccepted Q m3 X) (front_is f) (all_accepted g))

    second : front (size R) S'' ≡ folded (resized P m2) m3 (folded P m2 S)
    second = front_is g ∙ ap₂ (λ (X : Params) (Y : Sketch). folded X m3 Y) (params_are f) (front_is f)

    returned : r ≡ folded_to R
    returned =
        h.answer
        ∙ ap (λ (a : Answer). given a (resized P m3)) (accepted_done P m3 S (twice_accepted P m2 m3 S (all_accepted f) next))
        ∙ ap folded_to (sym (params_are g ∙ ap (λ (X : Params). resized X m3) (params_are f)))
