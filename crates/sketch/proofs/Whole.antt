-- A sketch of the right size with no damaged bucket: packets that are accepted keep it so, and none of a list is refused for damage.
use mathlib.Core.Path.{◌≡◌, refl, sym, ap, ap₂, subst, ◌∙◌}
use mathlib.Core.Bool.{Bool, true, false, not, true≢false}
use mathlib.Core.List.{List, [], ◌∷◌}
use mathlib.Core.Logic.{⊎_elim}
use Prim.Native.Nat.{ℕ, ◌<◌}
use native.Mathlib.Omega.{arith}
use lib.IntN.{ℤ, pos}
use lib.Dec.{eqb}
use lib.ListN.{length}
use Rattle.field.proofs.Residues.{residue_below}
use Rattle.params.specs.declared.params.Params.{Params}
use Rattle.params.specs.declared.answers.Refusal.TheVariants.{Length, Damage}
use Rattle.params.specs.Answers.{kept, Done, Refused}
use Rattle.params.specs.Params.{prime, size}
use Rattle.params.specs.Positions.{stands}
use Rattle.params.proofs.Changes.{untouched}
use Rattle.params.proofs.Judging.{first_either}
use Rattle.buckets.specs.Buckets.{in_limits, damaged}
use Rattle.buckets.proofs.Idsums.{prime_pos}
use Rattle.buckets.proofs.Limits.{whole_back}
use Rattle.sketch.specs.Sketch.{Sketch, count_in, idsum_in, damaged_at, changed_in}
use Rattle.sketch.specs.Packets.{step_answer, changed, packets_answer, all_answer, AllInserted}
use Rattle.sketch.proofs.Steps.{step_done}
use Rattle.sketch.proofs.TakenBack.{count_changed, idsum_changed}
use Rattle.sketch.proofs.ManyPackets.{Long, stepped_long}
use Rattle.sketch.proofs.Lowest.{step_lowest_damage, refuse_late, first_late, lent_early}

-- S has the size of P, and no bucket of it is outside its limits
pub record Whole (P : Params) (S : Sketch) : Type 0 where
  pub counts_long : length S.counts ≡ size P
  pub idsums_long : length S.idsums ≡ size P
  pub undamaged : (k : ℕ) → k < size P → damaged_at S k ≡ false

-- one packet, n times
module _ (P : Params) (f n : ℕ) (S : Sketch) where
  -- where its flow does not stand, a bucket stays
  pub count_stays : (k : ℕ) → k < length S.counts → stands P f k ≡ false → count_in (changed P false f n S) k ≡ count_in S k
  unfolding changed changed_in
  count_stays k l s = untouched (stands P f) _ S.counts k (pos 0) l s

  idsum_stays : (k : ℕ) → k < length S.idsums → stands P f k ≡ false → idsum_in (changed P false f n S) k ≡ idsum_in S k
  unfolding changed changed_in
  idsum_stays k l s = untouched (stands P f) _ S.idsums k 0 l s

  module _ (done : step_answer P false f n S ≡ Done) where
    pub step_long : Long S (changed P false f n S)
    unfolding kept
    step_long = stepped_long {minus = false} {P = P} {f = f} {n = n} {S = S} {S' = changed P false f n S} {r = Done} (record { answer = sym done; after = refl })

    pub step_whole : Whole P S → Whole P (changed P false f n S)
    step_whole w = record { counts_long = step_long.counts ∙ w.counts_long; idsums_long = step_long.idsums ∙ w.idsums_long; undamaged = λ k l. at k l (stands P f k) refl }
      where
        at : (k : ℕ) → k < size P → (b : Bool) → stands P f k ≡ b → damaged_at (changed P false f n S) k ≡ false
        at k l true s =
            whole_back (count_in (changed P false f n S) k) (idsum_in (changed P false f n S) k)
            (ap in_limits (count_changed P false f n S k (omega (arith, w.counts_long)) s) ∙ (step_done P false f n S done).stays k l s)
            (subst (λ (x : ℕ). x < prime) (sym (idsum_changed P false f n S k (omega (arith, w.idsums_long)) s)) (residue_below prime prime_pos _))
        at k l false s =
            ap₂ (λ (c : ℤ) (x : ℕ). damaged c x) (count_stays k (omega (arith, w.counts_long)) s) (idsum_stays k (omega (arith, w.idsums_long)) s)
            ∙ w.undamaged k l

-- packets in turn
packets_whole : (P : Params) (fs ns : List ℕ) (S : Sketch) (k : ℕ) → Whole P S → packets_answer P fs ns S ≡ Refused Damage k → ⊥
unfolding packets_answer
packets_whole P [] ns S k w e = let z : ◌≡◌ {A = ℕ} 0 1 = cc in omega arith
packets_whole P (f ∷ fs) [] S k w e = let z : ◌≡◌ {A = ℕ} 0 1 = cc in omega arith
packets_whole P (f ∷ fs) (n ∷ ns) S k w e =
    ⊎_elim
    (λ refused. let l = step_lowest_damage P false f n S k refused in true≢false (sym l.at_fault ∙ w.undamaged k l.inside))
    (λ next. packets_whole P fs ns (changed P false f n S) k (step_whole P f n S next.0 w) next.1)
    (first_either _ _ Damage k e)

-- and a list of them as a caller hands it over
pub all_whole : {P : Params} {fs ns : List ℕ} {S S' : Sketch} {k : ℕ} → Whole P S → AllInserted P fs ns S (Refused Damage k) S' → ⊥
unfolding all_answer
all_whole {P} {fs} {ns} {S} {k = k} w h =
    let r = first_late _ _ Damage k (lent_early P (length S.counts) (length S.idsums)) refl (sym h.answer) in
    packets_whole P fs ns S k w (refuse_late (not (eqb (length fs) (length ns))) Length Damage 0 k _ refl refl r.1).1
