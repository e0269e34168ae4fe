-- Bytes moved to the front.
use mathlib.Core.Path.{◌≡◌, refl, sym, ap, ◌∙◌}
use mathlib.Core.Bool.{Bool, true, false}
use mathlib.Core.List.{List, [], ◌++◌}
use Prim.Native.Nat.{ℕ, ◌+◌, ◌-◌, ◌≤◌, ◌<◌, min}
use native.Mathlib.Nat.{zero-add}
use native.Mathlib.Omega.{arith}
use borrow.Author.Tests.{leb-true, leb-false}
use lib.Dec.{leb}
use lib.ListN.{length, take, drop, length-take, length-drop, drop_of_length-le}
use lib.Seq.{length-take-le, take_all, drop_at, take-add}
use Rattle.std.specs.List.{copy_within}
use Rattle.intake.specs.Intake.{part, Moves}

-- offsets past the end are the end
pub take_smaller : (n : ℕ) (bs : List ℕ) → take (min n (length bs)) bs ≡ take n bs
take_smaller n bs = at (leb n (length bs)) refl
  where
    at : (b : Bool) → leb n (length bs) ≡ b → take (min n (length bs)) bs ≡ take n bs
    at true e = let h = leb-true n (length bs) e in let same : min n (length bs) ≡ n = omega arith in ap (λ (k : ℕ). take k bs) same
    at false e = let h = leb-false n (length bs) e in take_all (min n (length bs)) bs (omega arith) ∙ sym (take_all n bs (omega arith))

-- a part that lies within the bytes
pub part_is : (from n : ℕ) (bs : List ℕ) → from + n ≤ length bs → drop from (take (from + n) bs) ≡ take n (drop from bs)
part_is from n bs h = ap (drop from) (take-add from n bs) ∙ drop_at (take from bs) (take n (drop from bs)) from (length-take-le from bs (omega arith))

-- what `to_front` leaves where there is nothing to move, and where there is
pub nothing_moved : (from to : ℕ) (bs : List ℕ) → min to (length bs) < from → Moves from to bs 0 bs
nothing_moved from to bs h =
    let none : part from to bs ≡ [] = drop_of_length-le (take to bs) {i = from} (omega (arith, length-take to bs)) in
    record { number = sym (ap length none); bytes = sym (ap (λ (xs : List ℕ). xs ++ drop (length xs) bs) none) }

pub all_moved : (from to end : ℕ) (bs bs' : List ℕ) → end ≡ min to (length bs) → from ≤ end → bs' ≡ copy_within bs from end 0 → Moves from to bs (end - from) bs'
all_moved from to end bs bs' e h is =
    let whole : from + (end - from) ≡ end = omega arith in
    let within : from + (end - from) ≤ length bs = omega (arith, e) in
    let moved : part from to bs ≡ take (end - from) (drop from bs) = sym (ap (drop from) (ap (λ (k : ℕ). take k bs) (whole ∙ e) ∙ take_smaller to bs)) ∙ part_is from (end - from) bs within in
    let long : length (part from to bs) ≡ end - from = ap length moved ∙ length-take-le (end - from) (drop from bs) (omega (arith, within, length-drop from bs)) in
    record {
      number = sym long;
      bytes = is ∙ ap (λ (xs : List ℕ). xs ++ drop (0 + (end - from)) bs) (sym moved) ∙ ap (λ (k : ℕ). part from to bs ++ drop k bs) (zero-add (end - from) ∙ sym long);
    }
