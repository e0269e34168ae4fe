-- The lowest bucket at fault: the index of an insertion's refusal for Damage or Range is that of the lowest of the flow's buckets.
use mathlib.Core.Path.{◌≡◌, refl, ap}
use mathlib.Core.Bool.{Bool, true, false, not, ◌&&◌}
use mathlib.Core.Logic.{⊎_elim}
use Prim.Native.Nat.{ℕ, ◌<◌}
use native.Mathlib.Omega.{arith}
use lib.Dec.{eqb}
use lib.IntN.{pos}
use lib.ListN.{length}
use Rattle.params.specs.declared.params.Params.{Params}
use Rattle.params.specs.declared.answers.Refusal.{Refusal}
use Rattle.params.specs.declared.answers.Refusal.TheVariants.{Param, Length, Flow, Count, Damage, Range, Mismatch, Form, Fold}
use Rattle.params.specs.Answers.{refuse_if, refuse_at, first, Answer, Done, Refused}
use Rattle.params.specs.Params.{is_flow, size, good_dimensions, good_params, lengths_answer, dimensions_answer, lent_answer}
use Rattle.params.specs.Positions.{stands}
use Rattle.buckets.specs.Buckets.{in_limits, is_number, damaged, plus_minus}
use Rattle.sketch.specs.Sketch.{Sketch, count_in, idsum_in, damaged_in, leaves_in, flow_buckets_answer}
use Rattle.sketch.specs.Packets.{packet_answer, entry_answer, step_answer, move_answer}
use Rattle.params.proofs.Searches.{and_true, and_rest}
use Rattle.params.proofs.Lowest.{Lowest, refuse_at_lem}
use Rattle.std.specs.Prelude.{Err}

-- buckets that are damaged are judged first, then those that would leave their limits
pub damage_lowest : (n m : ℕ) (t u : ℕ → Bool) (k : ℕ) → refuse_at n t Damage (refuse_at m u Range Done) ≡ Refused Damage k → Lowest n t k
damage_lowest n m t u k e =
    ⊎_elim (λ h. h.1)
    (λ h. ⊎_elim (λ g. let z : ◌≡◌ {A = ℕ} 0 1 = cc in absurd (omega arith)) (λ g. let z : ◌≡◌ {A = ℕ} 0 1 = cc in absurd (omega arith))
    (refuse_at_lem m u Range Damage k Done h.1))
    (refuse_at_lem n t Damage Damage k (refuse_at m u Range Done) e)

pub range_lowest : (n m : ℕ) (t u : ℕ → Bool) (k : ℕ) → refuse_at n t Damage (refuse_at m u Range Done) ≡ Refused Range k
    → Lowest m u k × ((j : ℕ) → j < n → t j ≡ false)
range_lowest n m t u k e =
    ⊎_elim (λ h. let z : ◌≡◌ {A = ℕ} 0 1 = cc in absurd (omega arith))
    (λ h. ⊎_elim (λ g. (g.1, h.0)) (λ g. let z : ◌≡◌ {A = ℕ} 0 1 = cc in absurd (omega arith)) (refuse_at_lem m u Range Range k Done h.1))
    (refuse_at_lem n t Damage Range k (refuse_at m u Range Done) e)

-- what is judged before the buckets refuses neither for Damage nor for Range
abbrev pub of_bucket : Refusal → Bool
of_bucket Damage = true
of_bucket Range = true
of_bucket Param = false
of_bucket Length = false
of_bucket Flow = false
of_bucket Count = false
of_bucket Mismatch = false
of_bucket Form = false
of_bucket Fold = false

abbrev pub refuses_bucket : Answer → Bool
refuses_bucket Done = false
refuses_bucket (Err r) = of_bucket r.0

pub refuse_early : (b : Bool) (w : Refusal) (k : ℕ) (next : Answer) → of_bucket w ≡ false → refuses_bucket next ≡ false → refuses_bucket (refuse_if b w k next) ≡ false
refuse_early true w k next e q = e
refuse_early false w k next e q = q

pub first_early : (r next : Answer) → refuses_bucket r ≡ false → refuses_bucket next ≡ false → refuses_bucket (first r next) ≡ false
unfolding first
first_early Done next e q = q
first_early (Err r) next e q = e

-- so a refusal for either comes from the buckets
pub refuse_late : (b : Bool) (w v : Refusal) (j k : ℕ) (next : Answer) → of_bucket w ≡ false → of_bucket v ≡ true → refuse_if b w j next ≡ Refused v k → (b ≡ false) × (next ≡ Refused v k)
refuse_late true w v j k next e q h = let same : of_bucket w ≡ of_bucket v = ap refuses_bucket h in (cc, cc)
refuse_late false w v j k next e q h = (refl, h)

pub first_late : (r next : Answer) (v : Refusal) (k : ℕ) → refuses_bucket r ≡ false → of_bucket v ≡ true → first r next ≡ Refused v k → (r ≡ Done) × (next ≡ Refused v k)
unfolding first
first_late Done next v k e q h = (refl, h)
first_late (Err r) next v k e q h = let same : of_bucket r.0 ≡ of_bucket v = ap refuses_bucket h in (cc, cc)

pub lengths_early : (P : Params) (c s : ℕ) → refuses_bucket (lengths_answer P c s) ≡ false
unfolding lengths_answer
lengths_early P c s = refuse_early (not (eqb c (size P) && eqb s (size P))) Length 0 Done refl refl

pub lent_early : (P : Params) (c s : ℕ) → refuses_bucket (lent_answer P c s) ≡ false
unfolding lent_answer
lent_early P c s = refuse_early (not (good_params P)) Param 0 _ refl (lengths_early P c s)

entry_early : (P : Params) (c s f n : ℕ) → refuses_bucket (entry_answer P c s f n) ≡ false
unfolding entry_answer dimensions_answer packet_answer
entry_early P c s f n =
    first_early _ _ (refuse_early (not (good_dimensions P)) Param 0 _ refl (lengths_early P c s))
    (refuse_early (not (is_flow P f)) Flow 0 _ refl (refuse_early (not (is_number n)) Count 0 Done refl refl))

-- bucket k is at fault and is one of those that are meant, of n in all, and no lower one of them is
pub record LowestOf (n : ℕ) (on fault : ℕ → Bool) (k : ℕ) : Type 0 where
  pub inside : k < n
  pub meant : on k ≡ true
  pub at_fault : fault k ≡ true
  pub none_lower : (j : ℕ) → j < k → on j ≡ true → fault j ≡ false

lowest_of : (n : ℕ) (on fault : ℕ → Bool) (k : ℕ) → Lowest n (λ j. on j && fault j) k → LowestOf n on fault k
lowest_of n on fault k l =
    let h = and_true (on k) (fault k) l.here in
    record { inside = l.inside; meant = h.0; at_fault = h.1; none_lower = λ j m e. and_rest (on j) (fault j) e (l.none_lower j m) }

-- an insertion or a withdrawal: the lowest of the flow's buckets
module _ (P : Params) (minus : Bool) (f n : ℕ) (S : Sketch) (k : ℕ) where
  step_late : (w : Refusal) → of_bucket w ≡ true → step_answer P minus f n S ≡ Refused w k → flow_buckets_answer (size P) (stands P f) minus (pos n) S ≡ Refused w k
  unfolding step_answer
  step_late w q e = (first_late _ _ w k (entry_early P (length S.counts) (length S.idsums) f n) q e).1

  pub step_lowest_damage : step_answer P minus f n S ≡ Refused Damage k → LowestOf (size P) (stands P f) (λ j. damaged (count_in S j) (idsum_in S j)) k
  unfolding flow_buckets_answer damaged_in
  step_lowest_damage e = lowest_of _ (stands P f) _ k (damage_lowest (size P) (size P) _ _ k (step_late Damage refl e))

  move_late : (w : Refusal) → of_bucket w ≡ true → move_answer P minus f n S ≡ Refused w k → flow_buckets_answer (size P) (stands P f) minus (pos n) S ≡ Refused w k
  unfolding move_answer
  move_late w q e = step_late w q (refuse_late (not (good_params P)) Param w 0 k _ refl q e).1

  pub move_lowest_damage : move_answer P minus f n S ≡ Refused Damage k → LowestOf (size P) (stands P f) (λ j. damaged (count_in S j) (idsum_in S j)) k
  unfolding flow_buckets_answer damaged_in
  move_lowest_damage e = lowest_of _ (stands P f) _ k (damage_lowest (size P) (size P) _ _ k (move_late Damage refl e))

  pub move_lowest_range : move_answer P minus f n S ≡ Refused Range k
      → LowestOf (size P) (stands P f) (λ j. not (in_limits (plus_minus minus (count_in S j) (pos n)))) k
      × ((j : ℕ) → j < size P → stands P f j ≡ true → damaged (count_in S j) (idsum_in S j) ≡ false)
  unfolding flow_buckets_answer damaged_in leaves_in
  move_lowest_range e =
      let r = range_lowest (size P) (size P) _ _ k (move_late Range refl e) in
      (lowest_of _ (stands P f) _ k r.0, λ j l s. and_rest (stands P f j) _ s (r.1 j l))
