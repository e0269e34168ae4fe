-- Which faults apply: to packets put in or taken out, and to an array's own stretch.
use Rattle.std.specs.Prelude.{Bool, false, not, ◌&&◌, ◌||◌, List, ℕ, eqb, leb, pos, length}
use Rattle.params.specs.declared.params.Params.{Params}
use Rattle.params.specs.declared.answers.Refusal.{Refusal}
use Rattle.params.specs.declared.answers.Refusal.TheVariants.{Param, Length, Flow, Count, Damage, Range, Mismatch, Form, Fold}
use Rattle.params.specs.Params.{is_flow, size, good_params}
use Rattle.params.specs.Positions.{stands}
use Rattle.params.specs.Faults.{somewhere, early}
use Rattle.buckets.specs.Buckets.{is_number}
use Rattle.sketch.specs.Sketch.{Sketch, damaged_in, leaves_in}

-- a slice of the sketch has a length other than stated
abbrev pub wrong_length : Params → Sketch → Bool
wrong_length P S = not (eqb (length S.counts) (size P) && eqb (length S.idsums) (size P))

-- inserting n packets of flow f, or withdrawing them where `minus` holds: which faults apply
abbrev pub move_fault : Params → Bool → ℕ → ℕ → Sketch → Refusal → Bool
move_fault P minus f n S Param = not (good_params P)
move_fault P minus f n S Length = wrong_length P S
move_fault P minus f n S Flow = not (is_flow P f)
move_fault P minus f n S Count = not (is_number n)
move_fault P minus f n S Damage = somewhere (size P) (damaged_in (stands P f) S)
move_fault P minus f n S Range = somewhere (size P) (leaves_in (stands P f) minus (pos n) S.counts)
move_fault P minus f n S Mismatch = false
move_fault P minus f n S Form = false
move_fault P minus f n S Fold = false

-- many packets at once: what is judged before the first of them
abbrev pub all_fault : Params → List ℕ → List ℕ → Sketch → Refusal → Bool
all_fault P fs ns S = early (not (good_params P)) (wrong_length P S || not (eqb (length fs) (length ns))) false

-- an array's own stretch
abbrev pub array_fault : Params → ℕ → ℕ → Refusal → Bool
array_fault P i n = early (not (good_params P && (leb 1 i && leb i P.d))) (not (eqb n (size P))) false
