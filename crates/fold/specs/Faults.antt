-- Which faults apply to the fold of a sketch.
use Rattle.std.specs.Prelude.{Bool, false, not, ℕ, ◌*◌}
use Rattle.params.specs.declared.params.Params.{Params}
use Rattle.params.specs.declared.answers.Refusal.{Refusal}
use Rattle.params.specs.declared.answers.Refusal.TheVariants.{Param, Length, Flow, Count, Damage, Range, Mismatch, Form, Fold}
use Rattle.params.specs.Params.{size, good_params}
use Rattle.params.specs.Faults.{somewhere}
use Rattle.sketch.specs.Sketch.{Sketch, damaged_at}
use Rattle.sketch.specs.Faults.{wrong_length}
use Rattle.fold.specs.Fold.{divides, leaves_folded}

-- folding to m2 buckets an array: which faults apply
abbrev pub fold_fault : Params → ℕ → Sketch → Refusal → Bool
fold_fault P m2 S Param = not (good_params P)
fold_fault P m2 S Length = wrong_length P S
fold_fault P m2 S Fold = not (divides m2 P.m)
fold_fault P m2 S Damage = somewhere (size P) (damaged_at S)
fold_fault P m2 S Range = somewhere (P.d * m2) (leaves_folded P.d P.m m2 S.counts)
fold_fault P m2 S Flow = false
fold_fault P m2 S Count = false
fold_fault P m2 S Mismatch = false
fold_fault P m2 S Form = false
