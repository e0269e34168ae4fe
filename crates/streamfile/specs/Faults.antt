-- Which faults apply to packets that are written.
use Rattle.std.specs.Prelude.{Bool, false, not, ◌&&◌, ◌||◌, List, ℕ, eqb, leb, ltb, length}
use Rattle.params.specs.declared.params.Params.{Params}
use Rattle.params.specs.declared.answers.Refusal.{Refusal}
use Rattle.params.specs.declared.answers.Refusal.TheVariants.{Param, Length, Flow, Count, Damage, Range, Mismatch, Form, Fold}
use Rattle.params.specs.Lists.{below}
use Rattle.params.specs.Params.{good_params}
use Rattle.streamfile.specs.Writing.{stream_bytes, is_flow_at, is_number_at}

-- which faults apply where packets are written into an output of o bytes
abbrev pub write_fault : Params → List ℕ → List ℕ → ℕ → Refusal → Bool
write_fault P fs ns o Param = not (good_params P)
write_fault P fs ns o Length = not (eqb (length fs) (length ns) && leb (length fs) 65536) || ltb o (length (stream_bytes P fs ns))
write_fault P fs ns o Flow = not (below (length fs) (is_flow_at P fs))
write_fault P fs ns o Count = not (below (length ns) (is_number_at ns))
write_fault P fs ns o Damage = false
write_fault P fs ns o Range = false
write_fault P fs ns o Mismatch = false
write_fault P fs ns o Form = false
write_fault P fs ns o Fold = false
