-- Which faults apply to the sum and the difference of two sketches.
use Rattle.std.specs.Prelude.{Bool, false, not, ◌&&◌, ◌||◌, length}
use Rattle.params.specs.declared.params.Params.{Params}
use Rattle.params.specs.declared.answers.Refusal.{Refusal}
use Rattle.params.specs.declared.answers.Refusal.TheVariants.{Param, Length, Flow, Count, Damage, Range, Mismatch, Form, Fold}
use Rattle.params.specs.Params.{good_params, same_params}
use Rattle.params.specs.Faults.{somewhere}
use Rattle.sketch.specs.Sketch.{Sketch}
use Rattle.sketch.specs.Faults.{wrong_length}
use Rattle.sums.specs.Sums.{either_damaged, leaves}

-- adding or subtracting the sketch T: which faults apply
abbrev pub combine_fault : Bool → Params → Params → Sketch → Sketch → Refusal → Bool
combine_fault minus P Q S T Param = not (good_params P && good_params Q)
combine_fault minus P Q S T Mismatch = not (same_params P Q)
combine_fault minus P Q S T Length = wrong_length P S || wrong_length P T
combine_fault minus P Q S T Damage = somewhere (length S.counts) (either_damaged S T)
combine_fault minus P Q S T Range = somewhere (length S.counts) (leaves minus S.counts T.counts)
combine_fault minus P Q S T Flow = false
combine_fault minus P Q S T Count = false
combine_fault minus P Q S T Form = false
combine_fault minus P Q S T Fold = false
