-- Refusals come in the order of the table: insertions, withdrawals, many packets at once, and arrays.
use mathlib.Core.Path.{◌≡◌, refl}
use mathlib.Core.Bool.{Bool, true, false, not, ◌&&◌}
use mathlib.Core.List.{List, [], ◌∷◌}
use Prim.Native.Nat.{ℕ, ◌≤◌}
use lib.Dec.{eqb, leb}
use lib.ListN.{length}
use Rattle.params.specs.declared.params.Params.{Params}
use Rattle.params.specs.declared.answers.Refusal.{Refusal}
use Rattle.params.specs.declared.answers.Refusal.TheVariants.{Param, Length, Flow, Count}
use Rattle.params.specs.Answers.{number_of, number_in, first, Done}
use Rattle.params.specs.Params.{is_flow, size, good_dimensions, good_params, lengths_answer, dimensions_answer}
use Rattle.buckets.specs.Buckets.{is_number}
use Rattle.sketch.specs.Arrays.{array_answer}
use Rattle.sketch.specs.Sketch.{Sketch, flow_buckets_answer}
use Rattle.sketch.specs.Faults.{move_fault, array_fault}
use Rattle.sketch.specs.Packets.{packet_answer, entry_answer, step_answer, move_answer, packets_answer, all_answer, changed}
use Rattle.params.specs.Faults.{order, first_of}
use Rattle.params.proofs.Rules.{good_has_dimensions}
use Rattle.params.proofs.InOrder.{lowest_first, refuse_number, refuse_at_number, first_refuse, cond_within, IndexZero, done_index, refuse_index, first_index, buckets_index, lengths_index, lent_index}

pub move_number : (P : Params) (minus : Bool) (f n : ℕ) (S : Sketch) → number_in (move_answer P minus f n S) ≡ first_of order (move_fault P minus f n S)
unfolding move_answer step_answer entry_answer dimensions_answer lengths_answer packet_answer flow_buckets_answer first
move_number P minus f n S =
    simp (first_refuse, refuse_number, refuse_at_number) (cond_within (good_params P) (good_dimensions P) 1 _ (good_has_dimensions P))

-- so no fault that applies has a lower number
pub move_lowest : (P : Params) (minus : Bool) (f n : ℕ) (S : Sketch) (w : Refusal) → move_fault P minus f n S w ≡ true → number_in (move_answer P minus f n S) ≤ number_of w
move_lowest P minus f n S w h = rw (move_number P minus f n S) (lowest_first (move_fault P minus f n S) refl refl w h)

-- an array's own stretch
pub array_number : (P : Params) (i n : ℕ) → number_in (array_answer P i n) ≡ first_of order (array_fault P i n)
unfolding array_answer
array_number P i n = simp refuse_number

pub array_index : (P : Params) (i n : ℕ) → IndexZero (array_answer P i n)
unfolding array_answer
array_index P i n =
    refuse_index (not (good_params P && (leb 1 i && leb i P.d))) Param _ (refuse_index (not (eqb n (size P))) Length Done done_index)

step_index : (P : Params) (minus : Bool) (f n : ℕ) (S : Sketch) → IndexZero (step_answer P minus f n S)
unfolding step_answer entry_answer dimensions_answer packet_answer flow_buckets_answer
step_index P minus f n S =
    first_index _ _
    (first_index _ _ (refuse_index (not (good_dimensions P)) Param _ (lengths_index P _ _))
    (refuse_index (not (is_flow P f)) Flow _ (refuse_index (not (is_number n)) Count Done done_index)))
    (buckets_index _ _ _ _)

pub move_index : (P : Params) (minus : Bool) (f n : ℕ) (S : Sketch) → IndexZero (move_answer P minus f n S)
unfolding move_answer
move_index P minus f n S = refuse_index (not (good_params P)) Param _ (step_index P minus f n S)

packets_index : (P : Params) (fs ns : List ℕ) (S : Sketch) → IndexZero (packets_answer P fs ns S)
unfolding packets_answer
packets_index P [] ns S = done_index
packets_index P (f ∷ fs) [] S = done_index
packets_index P (f ∷ fs) (n ∷ ns) S = first_index _ _ (step_index P false f n S) (packets_index P fs ns (changed P false f n S))

pub all_index : (P : Params) (fs ns : List ℕ) (S : Sketch) → IndexZero (all_answer P fs ns S)
unfolding all_answer
all_index P fs ns S =
    first_index _ _ (lent_index P _ _) (refuse_index (not (eqb (length fs) (length ns))) Length _ (packets_index P fs ns S))
