-- How peeling ends that surely works, as a caller meets it.
use Rattle.std.specs.Prelude.{◌≡◌, List, length}
use Rattle.params.specs.declared.params.Params.{Params}
use Rattle.sketch.specs.Sketch.{Entry, zeros}
use Rattle.walk.specs.Walk.{lost_by, extra_by}
use Rattle.walk.specs.Sure.{in_rising}
use Rattle.peel.specs.Slices.{Slices, lent_sketch}
use Rattle.peel.specs.Table.{table_of}
use Rattle.peel.specs.Peel.{peeled_ending, peeled_pops, peeled_lost, peeled_extra, peeled_entries}
use Rattle.params.specs.Answers.{Given, number_in}
use Rattle.peel.specs.declared.peeling.Figures.{Figures}

-- not refused, and clean, after a pop for each flow of the list es; the table in the slices L' has the list in rising position in array 1, and nothing of the sketch remains
pub record PeelWorks (P : Params) (es : List Entry) (r : Given Figures) (L' : Slices) : Type 0 where
  pub number : number_in r ≡ 0
  pub ending : peeled_ending r ≡ 1
  pub pops : peeled_pops r ≡ length es
  pub entries : peeled_entries r ≡ length es
  pub lost : peeled_lost r ≡ lost_by es
  pub extra : peeled_extra r ≡ extra_by es
  pub table : table_of L'.flows L'.numbers (peeled_entries r) ≡ in_rising P es
  pub remainder : lent_sketch L' ≡ zeros P
