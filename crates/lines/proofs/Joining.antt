-- Texts written one after another, the whole line that they make, and how long the word of an ending is.
use mathlib.Core.Path.{◌≡◌, ap, subst, ◌∙◌}
use mathlib.Core.Bool.{Bool, true, false}
use mathlib.Core.List.{List, [], ◌∷◌, ◌++◌, append_assoc}
use Prim.Native.Nat.{ℕ, ◌+◌, ◌≤◌, ◌<◌}
use native.Mathlib.Omega.{arith}
use borrow.Author.Tests.{le-leb, lt-leb}
use lib.ListN.{length, set, length-append}
use Rattle.files.specs.Bytes.{overwritten}
use Rattle.files.proofs.Overwriting.{overwritten_store, overwritten_next}
use Rattle.walk.specs.declared.Ending.{Ending}
use Rattle.walk.specs.declared.Ending.TheVariants.{Clean, Stuck, Spent, Range, Full}
use Rattle.walk.specs.Endings.{ending_word}
use Rattle.lines.specs.Texts.{TextWritten}
use Rattle.lines.specs.Lines.{line_room, line_fits, Lined}

-- one byte, and a text right after another
pub byte_written : (out : List ℕ) (at b : ℕ) → at < length out → TextWritten (b ∷ []) out at (at + 1) (set out at b)
byte_written out at b h = record { next = omega arith; bytes = overwritten_store out at b h }

pub then : {one two out now last : List ℕ} {at next r : ℕ} → at ≤ length out → TextWritten one out at next now → TextWritten two now next r last → TextWritten (one ++ two) out at r last
then {one = one} {two = two} {out = out} {at = at} {next = next} h p q =
    record {
      next = omega (arith, length-append one two);
      bytes = overwritten_next out one two at next p.bytes q.bytes h p.next;
    }

-- a text from the start on, where it fits, and none where it does not
written : {fits : Bool} {text xs last : List ℕ} {r : ℕ} (line : List ℕ) → fits ≡ true → TextWritten text xs 0 r last → text ≡ line → Lined fits line xs r last
written {xs = xs} line t p e = record { long = rw t (omega (arith, ap length e)); bytes = rw t (p.bytes ∙ ap (overwritten xs 0) e) }

pub not_written : {fits : Bool} (xs text : List ℕ) → fits ≡ false → Lined fits text xs 0 xs
not_written xs text t = record { long = rw t; bytes = rw t }

-- one of three parts
pub text_of_three : {fits : Bool} {one two three xs ys zs last : List ℕ} {i j r : ℕ} → fits ≡ true
    → TextWritten one xs 0 i ys → TextWritten two ys i j zs → TextWritten three zs j r last → Lined fits (one ++ (two ++ three)) xs r last
text_of_three {one = one} {two = two} {three = three} t p q s =
    written _ t (then (omega arith) (then (omega arith) p q) s) (append_assoc one two three)

-- the first two parts of a line are taken together or not
regrouped : {fits : Bool} (one two rest : List ℕ) {xs last : List ℕ} {r : ℕ} → Lined fits ((one ++ two) ++ rest) xs r last → Lined fits (one ++ (two ++ rest)) xs r last
regrouped {fits} one two rest {xs} {last} {r} l = subst (λ text. Lined fits text xs r last) (append_assoc one two rest) l

-- a line of three parts, of four or of five, where there is room for a line, and none where there is no room
pub line_of_three : {one two three xs ys zs last : List ℕ} {i j r : ℕ} → line_room ≤ length xs
    → TextWritten one xs 0 i ys → TextWritten two ys i j zs → TextWritten three zs j r last → Lined (line_fits xs) (one ++ (two ++ three)) xs r last
line_of_three {xs = xs} h p q s = text_of_three (le-leb line_room (length xs) h) p q s

pub line_of_four : {one two three four xs ys zs now last : List ℕ} {i j k r : ℕ} → line_room ≤ length xs
    → TextWritten one xs 0 i ys → TextWritten two ys i j zs → TextWritten three zs j k now → TextWritten four now k r last → Lined (line_fits xs) (one ++ (two ++ (three ++ four))) xs r last
line_of_four {one = one} {two = two} {three = three} {four = four} h p q s t =
    regrouped one two (three ++ four) (line_of_three h (then (omega arith) p q) s t)

pub line_of_five : {one two three four five xs ys zs us now last : List ℕ} {i j k l r : ℕ} → line_room ≤ length xs
    → TextWritten one xs 0 i ys → TextWritten two ys i j zs → TextWritten three zs j k us → TextWritten four us k l now → TextWritten five now l r last
    → Lined (line_fits xs) (one ++ (two ++ (three ++ (four ++ five)))) xs r last
line_of_five {one = one} {two = two} {three = three} {four = four} {five = five} h p q s t u =
    regrouped one two (three ++ (four ++ five)) (line_of_four h (then (omega arith) p q) s t u)

pub not_lined : (xs line : List ℕ) → length xs < line_room → Lined (line_fits xs) line xs 0 xs
not_lined xs line h = not_written xs line (lt-leb line_room (length xs) h)

-- the longest word of an ending
pub length_ending : (e : Ending) → length (ending_word e) ≤ 5
length_ending Clean = omega arith
length_ending Stuck = omega arith
length_ending Spent = omega arith
length_ending Range = omega arith
length_ending Full = omega arith
