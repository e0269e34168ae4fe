-- The lines of the report, as bytes of ASCII: words and numbers with one space between them, and a newline.
use Rattle.std.specs.Prelude.{◌≡◌, Bool, cond, List, ◌++◌, ℕ, ℤ, leb, length}
use Rattle.params.specs.declared.answers.Refusal.{Refusal}
use Rattle.params.specs.Answers.{number_of}
use Rattle.walk.specs.declared.Ending.{Ending}
use Rattle.walk.specs.Ascii.{ascii}
use Rattle.walk.specs.Endings.{ending_word}
use Rattle.files.specs.Bytes.{overwritten}
use Rattle.lines.specs.Decimal.{decimal, signed_decimal}

-- loss FLOW COUNT
unfoldable pub loss_line : ℕ → ℤ → List ℕ
loss_line f c = ascii "loss " ++ (decimal f ++ (ascii " " ++ (signed_decimal c ++ ascii "\n")))

-- left INDEX COUNT IDSUM
unfoldable pub left_line : ℕ → ℤ → ℕ → List ℕ
left_line k c s = ascii "left " ++ (decimal k ++ (ascii " " ++ (signed_decimal c ++ (ascii " " ++ (decimal s ++ ascii "\n")))))

-- end ENDING pops N lost N extra N
unfoldable pub end_line : Ending → ℕ → ℕ → ℕ → List ℕ
end_line e p l x =
    ascii "end " ++ (ending_word e ++ (ascii " pops " ++ (decimal p ++ (ascii " lost " ++ (decimal l ++ (ascii " extra " ++ (decimal x ++ ascii "\n")))))))

-- refused NUMBER at BYTE
unfoldable pub refused_line : Refusal → ℕ → List ℕ
refused_line w k = ascii "refused " ++ (decimal (number_of w) ++ (ascii " at " ++ (decimal k ++ ascii "\n")))

-- a text written at the start of the output, or nothing, and 0 returned
pub record Lined (fits : Bool) (text out : List ℕ) (r : ℕ) (out' : List ℕ) : Type 0 where
  pub long : r ≡ cond fits (length text) 0
  pub bytes : out' ≡ cond fits (overwritten out 0 text) out

-- no line is longer than so many bytes, and so many must be there for each
abbrev pub line_room : ℕ
line_room = 80

abbrev pub line_fits : List ℕ → Bool
line_fits out = leb line_room (length out)
