-- The table that is shown: a walk's table holds what is sketched for each flow, and a caller is told the flow.
use Rattle.std.specs.Prelude.{List, map}
use Rattle.params.specs.declared.params.Params.{Params}
use Rattle.params.specs.Sketched.{told}
use Rattle.sketch.specs.Sketch.{Entry, by}
use Rattle.walk.specs.Walk.{Outcome, closed_table}

-- an entry of what is sketched for a flow, as one of that flow
abbrev pub tell : Params → Entry → Entry
tell P e = by (told P e.flow) e.number

-- the table of an outcome after the close, with its flows told
abbrev pub shown_table : Params → Outcome → List Entry
shown_table P o = map (tell P) (closed_table o)
