-- Which faults apply to what is judged before a file's records, and the order in which they are judged.
use Rattle.std.specs.Prelude.{Bool, false, not, ◌&&◌, List, [], ◌∷◌, ℕ, eqb}
use Rattle.params.specs.declared.params.Params.{Params}
use Rattle.params.specs.declared.answers.Refusal.{Refusal}
use Rattle.params.specs.declared.answers.Refusal.TheVariants.{Param, Length, Flow, Count, Damage, Range, Mismatch, Form, Fold}
use Rattle.params.specs.Params.{size, good_params, same_params}
use Rattle.files.specs.Records.{record_at, is_head}
use Rattle.files.specs.Heads.{params_in, good_head}

-- what is judged before the records, in this order: the head, the parameters in it and those that are given, whether they differ, and the lent lengths
abbrev pub opening_order : List Refusal
opening_order = Form ∷ Param ∷ Mismatch ∷ Length ∷ []

abbrev pub opening_fault : Params → List ℕ → ℕ → ℕ → Refusal → Bool
opening_fault P bs c s Form = not (is_head (record_at bs 0))
opening_fault P bs c s Param = not (good_head bs && good_params P)
opening_fault P bs c s Mismatch = not (same_params P (params_in bs))
opening_fault P bs c s Length = not (eqb c (size P) && eqb s (size P))
opening_fault P bs c s Flow = false
opening_fault P bs c s Count = false
opening_fault P bs c s Damage = false
opening_fault P bs c s Range = false
opening_fault P bs c s Fold = false
