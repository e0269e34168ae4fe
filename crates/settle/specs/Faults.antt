-- Which faults apply to settling.
use Rattle.std.specs.Prelude.{Bool, true, false, not, ◌&&◌, ◌||◌, eqb, leb, length}
use Rattle.params.specs.declared.params.Params.{Params}
use Rattle.params.specs.declared.answers.Refusal.{Refusal}
use Rattle.params.specs.declared.answers.Refusal.TheVariants.{Param, Length, Flow, Count, Damage, Range, Mismatch, Form, Fold}
use Rattle.params.specs.Params.{size, good_params}
use Rattle.params.specs.Faults.{somewhere}
use Rattle.sketch.specs.Sketch.{Sketch}
use Rattle.sketch.specs.Faults.{wrong_length}
use Rattle.sums.specs.Sums.{either_damaged, leaves}
use Rattle.peel.specs.Slices.{Slices, lent_sketch}

-- L is what the walk is lent, with the upstream's sketch in it; T is the downstream's. The length of any slice may be wrong, a bucket may be damaged in
-- either sketch, and the difference of two counts may leave the limits
abbrev pub settle_fault : Params → Sketch → Slices → Refusal → Bool
settle_fault P T L Param = not (good_params P)
settle_fault P T L Length =
    wrong_length P (lent_sketch L)
    || not (eqb (length L.queue) (size P) && eqb (length L.marks) (size P) && eqb (length L.flows) (length L.numbers) && leb (length L.flows) 65536)
    || wrong_length P T
settle_fault P T L Damage = somewhere (length L.counts) (either_damaged (lent_sketch L) T)
settle_fault P T L Range = somewhere (length L.counts) (leaves true L.counts T.counts)
settle_fault P T L Flow = false
settle_fault P T L Count = false
settle_fault P T L Mismatch = false
settle_fault P T L Form = false
settle_fault P T L Fold = false
