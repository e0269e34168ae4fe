-- A report's text: the lines of the table, of what is left and of the ending, in this order.
use Rattle.std.specs.Prelude.{Bool, cond, ◌&&◌, List, [], ◌∷◌, ◌++◌, ℕ, zero, suc, ◌+◌, ◌*◌, ℤ, pos, eqb, leb, length, get_or}
use Rattle.params.specs.declared.params.Params.{Params}
use Rattle.buckets.specs.Buckets.{all_zero}
use Rattle.sketch.specs.Sketch.{Entry}
use Rattle.walk.specs.declared.Ending.{Ending}
use Rattle.walk.specs.Walk.{Outcome, lost_of, extra_of}
use Rattle.walk.specs.Shown.{shown_table}
use Rattle.lines.specs.Lines.{loss_line, left_line, end_line, line_room}

-- a line for each of the table's first n entries
unfoldable pub loss_lines : List ℕ → List ℤ → ℕ → List ℕ
loss_lines fs ns zero = []
loss_lines fs ns (suc i) = loss_lines fs ns i ++ loss_line (get_or fs i 0) (get_or ns i (pos 0))

-- a line for a bucket that is not all zero
abbrev pub left_if_any : ℕ → ℤ → ℕ → List ℕ
left_if_any k c s = cond (all_zero c s) [] (left_line k c s)

-- those of the first n buckets, in rising index
unfoldable pub left_lines : List ℤ → List ℕ → ℕ → List ℕ
left_lines cs ss zero = []
left_lines cs ss (suc k) = left_lines cs ss k ++ left_if_any k (get_or cs k (pos 0)) (get_or ss k 0)

-- the table fs and ns with n entries, the buckets cs and ss that are left, and how the walk ended
unfoldable pub report_text : List ℕ → List ℤ → ℕ → List ℤ → List ℕ → Ending → ℕ → ℕ → ℕ → List ℕ
report_text fs ns n cs ss e pops lost extra = loss_lines fs ns n ++ (left_lines cs ss (length cs) ++ end_line e pops lost extra)

-- a line for each entry of a table
unfoldable pub entry_lines : List Entry → List ℕ
entry_lines [] = []
entry_lines (e ∷ es) = loss_line e.flow e.number ++ entry_lines es

-- the report of a walk: the table that is shown, what it left, and its ending
unfoldable pub walk_text : Params → Outcome → List ℕ
walk_text P o =
    entry_lines (shown_table P o)
    ++ (left_lines o.remainder.counts o.remainder.idsums (length o.remainder.counts)
    ++ end_line o.ending o.pops (lost_of o) (extra_of o))

-- whether the entries are within the table, each bucket has both fields, and there is room for a line for each entry, each bucket and the end
abbrev pub report_fits : ℕ → ℕ → ℕ → ℕ → ℕ → ℕ → Bool
report_fits out flows numbers entries counts idsums =
    leb entries flows && leb entries numbers && eqb idsums counts && leb (line_room * (entries + counts + 1)) out
