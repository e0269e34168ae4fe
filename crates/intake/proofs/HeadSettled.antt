-- A first head that is settled is judged for the whole input: whatever comes behind the bytes at hand, it is judged alike.
use mathlib.Core.Path.{◌≡◌, refl, ◌∙◌}
use mathlib.Core.Bool.{Bool, true, false, not, ◌||◌, true≢false}
use mathlib.Core.List.{List, ◌++◌}
use Prim.Native.Nat.{ℕ, ◌≤◌, ◌<◌}
use native.Mathlib.Omega.{arith}
use borrow.Author.Tests.{lt-leb, leb-true, leb-false, eqb-false, not-true}
use lib.Dec.{eqb, leb}
use lib.ListN.{length, get_or}
use Rattle.params.specs.declared.params.Params.{Params}
use Rattle.params.proofs.Searches.{and_true}
use Rattle.files.specs.Records.{head_length_in, head_kind, extended_head_kind}
use Rattle.files.specs.Heads.{head_length_of}
use Rattle.files.proofs.RecordTrips.{not_kind}
use Rattle.desk.specs.Desk.{begin_of, due_of, due_head}
use Rattle.desk.proofs.MoreBytes.{not_yet}
use Rattle.desk.proofs.FirstHead.{begin_found, begin_settled}
use Rattle.desk.proofs.Accepted.{begun, begun_length, input_long}
use Rattle.intake.specs.Intake.{head_settled}
use Rattle.std.specs.Prelude.{Ok}

-- where a first byte stands that no head has, none is waited for
no_head_byte : (xs : List ℕ) → 0 < length xs → (eqb (get_or xs 0 0) head_kind || eqb (get_or xs 0 0) extended_head_kind) ≡ false → not_yet (due_head xs) ≡ false
unfolding due_head due_of
no_head_byte xs some = at (eqb (get_or xs 0 0) head_kind) refl (eqb (get_or xs 0 0) extended_head_kind) refl
  where
    at : (x : Bool) → eqb (get_or xs 0 0) head_kind ≡ x → (y : Bool) → eqb (get_or xs 0 0) extended_head_kind ≡ y → (x || y) ≡ false → not_yet (due_head xs) ≡ false
    at true e y f h = absurd (true≢false h)
    at false e true f h = absurd (true≢false h)
    at false e false f h = rw (f, lt-leb (length xs) 0 some, not_kind xs 0 head_kind (eqb-false (get_or xs 0 0) head_kind e), e)

pub head_settled_for_all : (xs ys : List ℕ) → head_settled xs ≡ true → begin_of (xs ++ ys) ≡ begin_of xs
unfolding head_settled
head_settled_for_all xs ys settled = at (leb (head_length_in xs) (length xs)) refl
  where
    some : not (leb (length xs) 0) ≡ true
    some = (and_true (not (leb (length xs) 0)) _ settled).0

    at : (b : Bool) → leb (head_length_in xs) (length xs) ≡ b → begin_of (xs ++ ys) ≡ begin_of xs
    at true e = begin_settled xs ys (leb-true (head_length_in xs) (length xs) e)
    at false e = begin_found xs ys (no_head_byte xs (leb-false (length xs) 0 (not-true _ some)) (not-true _ (rw e at (and_true (not (leb (length xs) 0)) _ settled).1)))

-- a head that is accepted is whole, and so it is that of the whole input
module _ {P : Params} (xs : List ℕ) (e : begin_of xs ≡ Ok P) where
  pub begun_whole : head_length_of P ≤ length xs
  begun_whole = input_long P xs (begun P xs e)

  pub head_begun : (ys : List ℕ) → begin_of (xs ++ ys) ≡ Ok P
  head_begun ys = begin_settled xs ys (omega (arith, begun_length P xs (begun P xs e), begun_whole)) ∙ e
