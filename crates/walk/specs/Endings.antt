-- The endings' numbers and words.
use Rattle.std.specs.Prelude.{List, ℕ}
use Rattle.walk.specs.declared.Ending.{Ending}
use Rattle.walk.specs.declared.Ending.TheVariants.{Clean, Stuck, Spent, Range, Full}
use Rattle.walk.specs.Ascii.{ascii}

-- no ending has the number 4
abbrev pub ending_number : Ending → ℕ
ending_number Clean = 1
ending_number Stuck = 2
ending_number Spent = 3
ending_number Range = 5
ending_number Full = 6

-- the words that a report prints
abbrev pub ending_word : Ending → List ℕ
ending_word Clean = ascii "clean"
ending_word Stuck = ascii "stuck"
ending_word Spent = ascii "spent"
ending_word Range = ascii "range"
ending_word Full = ascii "full"
