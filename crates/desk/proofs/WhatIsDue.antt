-- What is due and what stands there: a stage of the reading by what is due, and a record by what was found of it.
use mathlib.Core.Path.{◌≡◌, refl, sym, ◌∙◌}
use mathlib.Core.Bool.{Bool, true, false, not, cond, ◌&&◌, or-true}
use mathlib.Core.Logic.{⊎_elim}
use mathlib.Core.List.{List}
use Prim.Native.Nat.{ℕ, ◌<◌}
use borrow.Author.Tests.{lt-leb}
use lib.Dec.{eqb, leb}
use lib.ListN.{length, get_or}
use Rattle.files.specs.Bytes.{word}
use Rattle.files.specs.Records.{record_at, is_kind, is_head, head_kind, extended_head_kind, packets_kind, end_kind, head_kind_in}
use Rattle.files.specs.Layout.{end_at}
use Rattle.files.specs.Fields.{records_field}
use Rattle.files.proofs.Standing.{kind_stands, head_kinds, head_inside}
use Rattle.files.proofs.Bodies.{end_fields}
use Rattle.desk.specs.declared.stages.Due.TheVariants.{Here, NotYet, Other}
use Rattle.desk.specs.Desk.{due_of, due_end, due_head}
use Rattle.std.specs.Prelude.{Option, Some}

-- a record that was found to be there is whole
here_whole : (kind : ℕ) (bs : List ℕ) → due_of kind bs ≡ Here → is_kind kind (record_at bs 0) ≡ true
unfolding due_of
here_whole kind bs e = at (leb (length bs) 0) (is_kind kind (record_at bs 0)) (eqb (get_or bs 0 0) kind) refl e
  where
    at : (x y z : Bool) → is_kind kind (record_at bs 0) ≡ y → cond x NotYet (cond y Here (cond z NotYet Other)) ≡ Here → is_kind kind (record_at bs 0) ≡ true
    at true y z q h = cc
    at false true z q h = q
    at false false true q h = cc
    at false false false q h = cc

-- and one that is whole is found
pub due_here : (kind : ℕ) (bs : List ℕ) → 0 < length bs → is_kind kind (record_at bs 0) ≡ true → due_of kind bs ≡ Here
unfolding due_of
due_here kind bs l w = rw (lt-leb (length bs) 0 l, w)

pub end_whole : (bs : List ℕ) → due_end bs ≡ Here → is_kind end_kind (record_at bs 0) ≡ true
unfolding due_end
end_whole bs e = at (not (leb (length bs) 0) && eqb (get_or bs 0 0) packets_kind) e
  where
    at : (b : Bool) → cond b NotYet (due_of end_kind bs) ≡ Here → is_kind end_kind (record_at bs 0) ≡ true
    at true h = cc
    at false h = here_whole end_kind bs h

-- a head of either kind: the one that the first byte says
pub either_kind : (A : ℕ → Type 0) (bs : List ℕ) → A head_kind → A extended_head_kind → A (head_kind_in bs)
either_kind A bs plain extended = at (eqb (get_or bs 0 0) extended_head_kind)
  where
    at : (b : Bool) → A (cond b extended_head_kind head_kind)
    at true = extended
    at false = plain

pub head_whole : (bs : List ℕ) → due_head bs ≡ Here → is_head (record_at bs 0) ≡ true
unfolding due_head
head_whole bs =
    either_kind (λ k. due_of k bs ≡ Here → is_head (record_at bs 0) ≡ true) bs
    (λ h. rw (here_whole head_kind bs h))
    (λ h. rw (here_whole extended_head_kind bs h, or-true))

pub head_here : (bs : List ℕ) → is_head (record_at bs 0) ≡ true → due_head bs ≡ Here
unfolding due_head
head_here bs e = due_here (head_kind_in bs) bs (head_inside bs 0 e) (⊎_elim plain extended (head_kinds bs 0 e))
  where
    plain : is_kind head_kind (record_at bs 0) ≡ true → is_kind (head_kind_in bs) (record_at bs 0) ≡ true
    plain h = rw (← (kind_stands head_kind bs 0 h).kind) h

    extended : is_kind extended_head_kind (record_at bs 0) ≡ true → is_kind (head_kind_in bs) (record_at bs 0) ≡ true
    extended h = rw (← (kind_stands extended_head_kind bs 0 h).kind) h

-- what a reader finds of an end that is whole
pub end_said : (bs : List ℕ) (n : ℕ) → is_kind end_kind (record_at bs 0) ≡ true → end_at bs 0 ≡ Some n → n ≡ word bs records_field
end_said bs n w e = let found : Some n ≡ Some (word bs records_field) = rw w at (sym e ∙ end_fields bs 0) in cc

pub end_not_said : (bs : List ℕ) {r : (Option ℕ)} → is_kind end_kind (record_at bs 0) ≡ true → r ≡ end_at bs 0 → ((n : ℕ) → r ≡ Some n → ⊥) → ⊥
end_not_said bs {r} w e h = h _ (rw w at (e ∙ end_fields bs 0))
