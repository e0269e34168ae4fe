-- Refusals of the sum and the difference as a caller gets them: by the answer of a call, of whatever function meets its contract.
use mathlib.Core.Path.{sym}
use mathlib.Core.Bool.{Bool, not, ◌||◌}
use Prim.Native.Nat.{ℕ}
use Rattle.params.specs.declared.params.Params.{Params}
use Rattle.params.specs.declared.answers.Refusal.TheVariants.{Damage, Range}
use Rattle.params.specs.Params.{size}
use Rattle.buckets.specs.Buckets.{in_limits, damaged, plus_minus}
use Rattle.sketch.specs.Sketch.{Sketch, count_in, idsum_in}
use Rattle.sums.specs.Sums.{Combined}
use Rattle.sums.specs.Faults.{combine_fault}
use Rattle.params.proofs.InOrder.{GoesBy, goes_by}
use Rattle.params.proofs.Lowest.{Lowest}
use Rattle.sums.proofs.InOrder.{combine_number, combine_index}
use Rattle.sums.proofs.Lowest.{combine_lowest_damage, combine_lowest_range}
use Rattle.params.specs.Answers.{Answer, Refused}

module _ {minus : Bool} {P Q : Params} {S T S' : Sketch} where
  pub combine_goes_by : {r : Answer} → Combined minus P Q S T r S' → GoesBy (combine_fault minus P Q S T) r
  combine_goes_by h = goes_by h.answer (combine_number minus P Q S T) (combine_index minus P Q S T)

  -- the index is that of the lowest bucket at fault, in either sketch
  pub combine_damage : {k : ℕ} → Combined minus P Q S T (Refused Damage k) S' → Lowest (size P) (λ j. damaged (count_in S j) (idsum_in S j) || damaged (count_in T j) (idsum_in T j)) k
  combine_damage {k} h = combine_lowest_damage minus P Q S T k (sym h.answer)

  pub combine_range : {k : ℕ} → Combined minus P Q S T (Refused Range k) S' → Lowest (size P) (λ j. not (in_limits (plus_minus minus (count_in S j) (count_in T j)))) k
  combine_range {k} h = (combine_lowest_range minus P Q S T k (sym h.answer)).0
