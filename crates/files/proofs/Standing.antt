-- What stands at an offset: a whole record by its parts, and what holds where there is none.
use mathlib.Core.Path.{◌≡◌}
use mathlib.Core.Bool.{true, false}
use mathlib.Core.Logic.{◌⊎◌}
use mathlib.Core.List.{List, []}
use Prim.Native.Nat.{ℕ, ◌+◌, ◌≤◌, ◌<◌}
use native.Mathlib.Omega.{arith}
use lib.ListN.{get_or, length}
use Rattle.std.proofs.Common.{rules}
use Rattle.files.specs.declared.records.Record.{Record}
use Rattle.files.specs.declared.records.Record.TheVariants.{Whole, Missing}
use Rattle.files.specs.Records.{body_length, record_length, head_length_in, record_at, is_kind, is_head, body_of, body_start, head_kind, extended_head_kind}

-- a whole record: its kind, and that it ends within the file
pub record Stands (bs : List ℕ) (at k next : ℕ) : Type 0 where
  pub inside : at < length bs
  pub kind : k ≡ get_or bs at 0
  pub ends : next ≡ at + 1 + body_length k
  pub within : next ≤ length bs

pub stands_whole : (bs : List ℕ) (at k next : ℕ) → record_at bs at ≡ Whole k next → Stands bs at k next
unfolding record_at
stands_whole bs at k next e = search rules

-- any record but a whole one, as a `let .. else` has it
abbrev pub NotWhole : Record → Type 0
NotWhole r = (k next : ℕ) → r ≡ Whole k next → ⊥

pub not_whole : (r : Record) (at : ℕ) (bs : List ℕ) → NotWhole r → ((k : ℕ) → is_kind k r ≡ false) × (body_of r at bs ≡ []) × (body_start r at ≡ 0)
unfolding body_of body_start
not_whole r at bs h = search rules

-- a whole record of a kind, as its readers find it
pub kind_stands : (k : ℕ) (bs : List ℕ) (at : ℕ) → is_kind k (record_at bs at) ≡ true → Stands bs at k (at + 1 + body_length k)
kind_stands k bs at e = search (rules, stands_whole)

pub kind_ends : (k : ℕ) (bs : List ℕ) (at : ℕ) → is_kind k (record_at bs at) ≡ true → at + 1 + body_length k ≤ length bs
kind_ends k bs at e = (kind_stands k bs at e).within

pub nothing_stands : (bs : List ℕ) (at : ℕ) → length bs ≤ at → record_at bs at ≡ Missing
unfolding record_at
nothing_stands bs at h = search rules

-- a whole head is of one kind or of the other
module _ (bs : List ℕ) where
  pub head_kinds : (at : ℕ) → is_head (record_at bs at) ≡ true → (is_kind head_kind (record_at bs at) ≡ true) ⊎ (is_kind extended_head_kind (record_at bs at) ≡ true)
  head_kinds at e = search rules

  -- the one that its first byte says
  pub head_is_kind : (at : ℕ) → is_head (record_at bs at) ≡ true → is_kind (get_or bs at 0) (record_at bs at) ≡ true
  unfolding record_at
  head_is_kind at e = search rules

  pub head_inside : (at : ℕ) → is_head (record_at bs at) ≡ true → at < length bs
  unfolding record_at
  head_inside at e = search rules

  -- and ends within the file
  pub head_within : is_head (record_at bs 0) ≡ true → head_length_in bs ≤ length bs
  unfolding head_length_in record_at
  head_within e = grind arith
