-- Refusals come in the order of the table: the fold of a sketch.
use mathlib.Core.Path.{◌≡◌}
use mathlib.Core.Bool.{not}
use Prim.Native.Nat.{ℕ}
use Rattle.params.specs.declared.params.Params.{Params}
use Rattle.params.specs.declared.answers.Refusal.TheVariants.{Fold}
use Rattle.params.specs.Answers.{number_in, first}
use Rattle.params.specs.Params.{lengths_answer, lent_answer}
use Rattle.params.specs.Faults.{order, first_of}
use Rattle.params.proofs.InOrder.{refuse_number, refuse_at_number, first_refuse, IndexZero, refuse_index, first_index, buckets_index, lent_index}
use Rattle.sketch.specs.Sketch.{Sketch}
use Rattle.fold.specs.Fold.{divides, fold_buckets_answer, fold_answer}
use Rattle.fold.specs.Faults.{fold_fault}

pub fold_number : (P : Params) (m2 : ℕ) (S : Sketch) → number_in (fold_answer P m2 S) ≡ first_of order (fold_fault P m2 S)
unfolding fold_answer lent_answer lengths_answer fold_buckets_answer first
fold_number P m2 S = simp (first_refuse, refuse_number, refuse_at_number)

pub fold_index : (P : Params) (m2 : ℕ) (S : Sketch) → IndexZero (fold_answer P m2 S)
unfolding fold_answer fold_buckets_answer
fold_index P m2 S = first_index _ _ (lent_index P _ _) (refuse_index (not (divides m2 P.m)) Fold _ (buckets_index _ _ _ _))
