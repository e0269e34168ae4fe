-- Refusals come in the order of the table: the sum and the difference of two sketches.
use mathlib.Core.Path.{◌≡◌}
use mathlib.Core.Bool.{Bool, not, ◌&&◌}
use Rattle.params.specs.declared.params.Params.{Params}
use Rattle.params.specs.declared.answers.Refusal.TheVariants.{Param, Mismatch}
use Rattle.params.specs.Answers.{number_in, first}
use Rattle.params.specs.Params.{good_params, same_params, lengths_answer}
use Rattle.sketch.specs.Sketch.{Sketch}
use Rattle.sums.specs.Sums.{both_lent_answer, buckets_answer, combine_answer}
use Rattle.sums.specs.Faults.{combine_fault}
use Rattle.params.specs.Faults.{order, first_of}
use Rattle.params.proofs.InOrder.{refuse_number, refuse_at_number, first_refuse, cond_either, IndexZero, refuse_index, first_index, buckets_index, lengths_index}

pub combine_number : (minus : Bool) (P Q : Params) (S T : Sketch) → number_in (combine_answer minus P Q S T) ≡ first_of order (combine_fault minus P Q S T)
unfolding combine_answer both_lent_answer lengths_answer buckets_answer first
combine_number minus P Q S T = simp (first_refuse, refuse_number, refuse_at_number, cond_either)

pub combine_index : (minus : Bool) (P Q : Params) (S T : Sketch) → IndexZero (combine_answer minus P Q S T)
unfolding combine_answer both_lent_answer buckets_answer
combine_index minus P Q S T =
    first_index _ _
    (refuse_index (not (good_params P && good_params Q)) Param _
    (refuse_index (not (same_params P Q)) Mismatch _
    (first_index _ _ (lengths_index P _ _) (lengths_index P _ _))))
    (buckets_index _ _ _ _)
