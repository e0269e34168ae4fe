-- A line written into the rest of the output, how long lines are, and the lines of a report one after another.
use mathlib.Core.Path.{◌≡◌, refl, sym, ap, ◌∙◌}
use mathlib.Core.Bool.{Bool, true, false, cond}
use mathlib.Core.List.{List, [], ◌∷◌, ◌++◌, append-nil, append_assoc}
use Prim.Native.Nat.{ℕ, zero, suc, ◌+◌, ◌-◌, ◌*◌, ◌/◌, ◌^◌, ◌≤◌, ◌<◌}
use native.Mathlib.Nat.{zero-add}
use native.Mathlib.Numerals.{add-one}
use native.Mathlib.Omega.{arith}
use borrow.Author.Tests.{ltb-true, ltb-false, leb-true, le-leb, lt-leb, eqb-true}
use borrow.Rule.Slice.PartMut.{put_mid, post_of, mid_of}
use lib.Dec.{eqb, leb, ltb}
use lib.IntN.{ℤ, pos}
use lib.ListN.{length, get_or, take, drop, length-append, length-drop, drop_of_length-le}
use lib.Seq.{take_all, drop-drop}
use mir.Facts.{sfits_widen}
use mir.Syntax.{w32}
use mir.Val.{SFits}
use Rattle.params.proofs.Searches.{and_true}
use Rattle.files.specs.Bytes.{overwritten}
use Rattle.files.proofs.Overwriting.{overwritten_none}
use Rattle.buckets.specs.Buckets.{all_zero}
use Rattle.walk.specs.declared.Ending.{Ending}
use Rattle.walk.specs.Ascii.{ascii}
use Rattle.walk.specs.Endings.{ending_word}
use Rattle.lines.specs.Decimal.{decimal, signed_decimal}
use Rattle.lines.specs.Lines.{loss_line, left_line, end_line, line_room, line_fits, Lined}
use Rattle.lines.specs.Reports.{loss_lines, left_if_any, left_lines, report_fits}
use Rattle.lines.specs.Texts.{TextWritten}
use Rattle.lines.proofs.Digits.{length_decimal, length_short, length_signed}
use Rattle.lines.proofs.Joining.{then, length_ending}

-- what is written at the start of the rest is written from there on
pub in_the_rest : (xs line : List ℕ) (at r : ℕ) {last : List ℕ} → at + line_room ≤ length xs → Lined (line_fits (mid_of at (length xs - at) xs)) line (mid_of at (length xs - at) xs) r last
    → TextWritten line xs at (at + r) (put_mid at (length xs - at) xs last)
unfolding overwritten
in_the_rest xs line at r {last} h w =
    let rest : List ℕ = drop at xs in
    let k : ℕ = length xs - at in
    let whole : take k rest ≡ rest = take_all k rest (omega (arith, length-drop at xs)) in
    let room : line_fits (take k rest) ≡ true = le-leb line_room (length (take k rest)) (omega (arith, ap length whole, length-drop at xs)) in
    let returned : r ≡ length line = w.long ∙ ap (λ t. cond t (length line) 0) room in
    let there : last ≡ overwritten (take k rest) 0 line = w.bytes ∙ ap (λ t. cond t (overwritten (take k rest) 0 line) (take k rest)) room in
    let after : last ≡ line ++ drop (at + length line) xs =
    there ∙ ap (λ ys. overwritten ys 0 line) whole ∙ ap (λ ys. line ++ ys) (ap (λ n. drop n rest) (zero-add (length line)) ∙ drop-drop (length line) at xs)
    in
    let none : post_of at k xs ≡ [] = drop_of_length-le rest {i = k} (omega (arith, length-drop at xs)) in
    record { next = ap (λ n. at + n) returned; bytes = ap (λ ys. take at xs ++ (last ++ ys)) none ∙ ap (λ ys. take at xs ++ ys) (append-nil last ∙ after) }

-- no line is longer than there must be room for
pub length_loss : (f : ℕ) (c : ℤ) → f < 2 ^ 32 → SFits w32 c → length (loss_line f c) ≤ line_room
unfolding loss_line
length_loss f c h k =
    omega (arith, length-append (decimal f) (ascii " " ++ (signed_decimal c ++ ascii "\n")), length-append (signed_decimal c) (ascii "\n"), length_short f h, length_signed c (sfits_widen tt k))

pub length_left : (i : ℕ) (c : ℤ) (s : ℕ) → i < 2 ^ 64 → SFits w32 c → s < 2 ^ 32 → length (left_line i c s) ≤ line_room
unfolding left_line
length_left i c s h k l =
    omega (arith, length-append (decimal i) (ascii " " ++ (signed_decimal c ++ (ascii " " ++ (decimal s ++ ascii "\n")))), length-append (signed_decimal c) (ascii " " ++ (decimal s ++ ascii "\n")), length-append (decimal s) (ascii "\n"), length_decimal i h, length_signed c (sfits_widen tt k), length_short s l)

pub length_end : (e : Ending) (pops lost extra : ℕ) → pops < 2 ^ 32 → lost < 2 ^ 64 → extra < 2 ^ 64 → length (end_line e pops lost extra) ≤ line_room
unfolding end_line
length_end e n l x h i k =
    let extra : List ℕ = decimal x ++ ascii "\n" in
    let lost : List ℕ = decimal l ++ (ascii " extra " ++ extra) in
    omega (arith, length-append (ending_word e) (ascii " pops " ++ (decimal n ++ (ascii " lost " ++ lost))), length-append (decimal n) (ascii " lost " ++ lost), length-append (decimal l) (ascii " extra " ++ extra), length-append (decimal x) (ascii "\n"), length_ending e, length_short n h, length_decimal l i, length_decimal x k)

-- a line in the rest of the output, and how far it reaches
pub line_in_the_rest : (xs line : List ℕ) (at r : ℕ) {last : List ℕ} → at + line_room ≤ length xs → length line ≤ line_room → Lined (line_fits (mid_of at (length xs - at) xs)) line (mid_of at (length xs - at) xs) r last
    → TextWritten line xs at (at + r) (put_mid at (length xs - at) xs last) × (at + r ≤ at + line_room)
line_in_the_rest xs line at r h short w =
    let p = in_the_rest xs line at r h w in
    (p, omega (arith, p.next))

-- one line more, and how far the lines then reach
pub one_more : {lines line out now last : List ℕ} {at next r : ℕ} (i : ℕ) → at ≤ length out → TextWritten lines out at next now × (next ≤ at + line_room * i) → TextWritten line now next r last × (r ≤ next + line_room)
    → TextWritten (lines ++ line) out at r last × (r ≤ at + line_room * (i + 1))
one_more i h p q = (then h p.0 q.0, omega (arith, p.1, q.1))

-- room for so many lines, by whole lines or by bytes
pub whole_lines : (out n k : ℕ) → n < out / line_room → ltb k (out / line_room - n) ≡ leb (line_room * (n + k + 1)) out
whole_lines out n k h = go (ltb k (out / line_room - n)) refl
  where
    go : (t : Bool) → ltb k (out / line_room - n) ≡ t → t ≡ leb (line_room * (n + k + 1)) out
    go true e = let l = ltb-true k _ e in sym (le-leb _ out (omega arith))
    go false e = let l = ltb-false k _ e in sym (lt-leb _ out (omega arith))

-- the lines of one entry more, and of one bucket more
pub losses_next : (fs : List ℕ) (ns : List ℤ) (i : ℕ) → loss_lines fs ns (i + 1) ≡ loss_lines fs ns i ++ loss_line (get_or fs i 0) (get_or ns i (pos 0))
unfolding loss_lines
losses_next fs ns i = ap (loss_lines fs ns) (add-one i)

pub lefts_next : (cs : List ℤ) (ss : List ℕ) (k : ℕ) → left_lines cs ss (k + 1) ≡ left_lines cs ss k ++ left_if_any k (get_or cs k (pos 0)) (get_or ss k 0)
unfolding left_lines
lefts_next cs ss k = ap (left_lines cs ss) (add-one k)

-- a bucket that is all zero has no line, and any other has one
pub no_left : (k : ℕ) (c : ℤ) (s : ℕ) (out : List ℕ) (at : ℕ) → all_zero c s ≡ true → TextWritten (left_if_any k c s) out at at out × (at ≤ at + line_room)
no_left k c s out at e = rw e (record { next = omega arith; bytes = overwritten_none out at }, omega arith)

-- no lines yet
pub nothing_written : (out : List ℕ) (at : ℕ) → TextWritten [] out at at out × (at ≤ at + line_room * 0)
nothing_written out at = (record { next = omega arith; bytes = overwritten_none out at }, omega arith)

-- what holds where a report fits
pub fitting : (out flows numbers entries counts idsums : ℕ) → report_fits out flows numbers entries counts idsums ≡ true
    → (entries ≤ flows) × (entries ≤ numbers) × (idsums ≡ counts) × (line_room * (entries + counts + 1) ≤ out)
fitting out flows numbers entries counts idsums e =
    let both = and_true _ (leb (line_room * (entries + counts + 1)) out) e in
    let three = and_true _ (eqb idsums counts) both.0 in
    let two = and_true (leb entries flows) (leb entries numbers) three.0 in
    (leb-true _ _ two.0, leb-true _ _ two.1, eqb-true _ _ three.1, leb-true _ _ both.1)

-- the lines of slices whose first slots hold a table are the lines of its entries
pub losses_first : (f : ℕ) (n : ℤ) (fs : List ℕ) (ns : List ℤ) (k : ℕ) → loss_lines (f ∷ fs) (n ∷ ns) (suc k) ≡ loss_line f n ++ loss_lines fs ns k
unfolding loss_lines
losses_first f n fs ns zero = sym (append-nil (loss_line f n))
losses_first f n fs ns (suc k) =
    ap (λ ys. ys ++ loss_line (get_or fs k 0) (get_or ns k (pos 0))) (losses_first f n fs ns k) ∙ append_assoc (loss_line f n) (loss_lines fs ns k) _

pub losses_none : (fs : List ℕ) (ns : List ℤ) → loss_lines fs ns 0 ≡ []
unfolding loss_lines
losses_none fs ns = refl
