-- Which faults apply to peeling.
use Rattle.std.specs.Prelude.{Bool, false, not, ◌&&◌, ◌||◌, ℕ, eqb, leb}
use Rattle.params.specs.declared.params.Params.{Params}
use Rattle.params.specs.declared.answers.Refusal.{Refusal}
use Rattle.params.specs.declared.answers.Refusal.TheVariants.{Param, Length, Flow, Count, Damage, Range, Mismatch, Form, Fold}
use Rattle.params.specs.Params.{size, good_params}
use Rattle.params.specs.Faults.{somewhere}
use Rattle.sketch.specs.Sketch.{Sketch, damaged_at}
use Rattle.sketch.specs.Faults.{wrong_length}

-- which faults apply: flows, numbers, queue and marks are the lengths of what is lent beside the sketch
abbrev pub peel_fault : Params → Sketch → ℕ → ℕ → ℕ → ℕ → Refusal → Bool
peel_fault P S flows numbers queue marks Param = not (good_params P)
peel_fault P S flows numbers queue marks Length =
    wrong_length P S || not (eqb queue (size P) && eqb marks (size P) && eqb flows numbers && leb flows 65536)
peel_fault P S flows numbers queue marks Damage = somewhere (size P) (damaged_at S)
peel_fault P S flows numbers queue marks Flow = false
peel_fault P S flows numbers queue marks Count = false
peel_fault P S flows numbers queue marks Range = false
peel_fault P S flows numbers queue marks Mismatch = false
peel_fault P S flows numbers queue marks Form = false
peel_fault P S flows numbers queue marks Fold = false
