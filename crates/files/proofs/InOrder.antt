-- Refusals of a file's opening, of a record and of a file's end, in the order in which they are judged, and what goes with them; and what a writer returns.
use mathlib.Core.Path.{◌≡◌, refl, sym, ap, ◌∙◌}
use mathlib.Core.Bool.{Bool, true, false, not, ◌&&◌}
use mathlib.Core.List.{List}
use Prim.Native.Nat.{ℕ, ◌+◌, ◌<◌}
use Rattle.std.proofs.Common.{rules}
use lib.ListN.{length}
use Rattle.params.specs.declared.params.Params.{Params}
use Rattle.params.specs.declared.answers.Refusal.{Refusal}
use Rattle.params.specs.declared.answers.Refusal.TheVariants.{Param, Mismatch, Form}
use Rattle.params.specs.Answers.{number_in, index_in, refuse_if, first, kept, Answer, Done, Refused, Given, given, value_in}
use Rattle.params.specs.Params.{good_params, same_params, lengths_answer}
use Rattle.params.specs.Faults.{order, first_of}
use Rattle.files.specs.Faults.{opening_order, opening_fault}
use Rattle.params.proofs.InOrder.{refuse_number, first_refuse}
use Rattle.files.specs.declared.records.Record.{Record}
use Rattle.files.specs.declared.records.Record.TheVariants.{Whole}
use Rattle.files.specs.Bytes.{word}
use Rattle.files.specs.Records.{record_at, is_kind, is_head, offset_of, record_number, record_offset, end_kind, end_length}
use Rattle.files.specs.Heads.{params_in, good_head, parameters_answer}
use Rattle.files.specs.Turns.{end_answer}
use Rattle.files.proofs.HeadStages.{opening_answer}
use Rattle.files.specs.Fields.{records_field}
use Rattle.std.specs.Prelude.{Err}

-- a refusal with which 0 goes
pub refuse_start : (b : Bool) (w : Refusal) (next : Answer) → index_in next ≡ 0 → index_in (refuse_if b w 0 next) ≡ 0
refuse_start b w next e = search rules

module _ (P : Params) (bs : List ℕ) (c s : ℕ) where
  -- one after the other
  abbrev in_order : Answer
  in_order =
      refuse_if (not (is_head (record_at bs 0))) Form 0
      (refuse_if (not (good_head bs && good_params P)) Param 0
      (refuse_if (not (same_params P (params_in bs))) Mismatch 0
      (lengths_answer P c s)))

  opening_is : opening_answer P bs c s ≡ in_order
  unfolding parameters_answer first
  opening_is = simp first_refuse

  -- the first that applies decides the number
  pub opening_number : number_in (opening_answer P bs c s) ≡ first_of opening_order (opening_fault P bs c s)
  unfolding lengths_answer
  opening_number = ap number_in opening_is ∙ simp refuse_number

  -- and 0 goes with it
  pub opening_index : index_in (opening_answer P bs c s) ≡ 0
  unfolding parameters_answer first lengths_answer
  opening_index = search rules

  -- so a reader that judges the opening first returns both, if a fault of the opening applies
  pub opening_decides : (next : Answer) {r : Answer} → r ≡ first (opening_answer P bs c s) next → (first_of opening_order (opening_fault P bs c s) ≡ 0 → ⊥)
      → (number_in r ≡ first_of opening_order (opening_fault P bs c s)) × (index_in r ≡ 0)
  unfolding first
  opening_decides next e n = search (rules, opening_answer, opening_index, opening_number)

-- a record that is whole, of whatever kind
pub record IsWhole (r : Record) : Type 0 where
  pub kind : ℕ
  pub next : ℕ
  pub whole : r ≡ Whole kind next

-- the number is 0 exactly where a record is whole
pub whole_exactly : (r : Record) → (record_number r ≡ 0 → IsWhole r) × (IsWhole r → record_number r ≡ 0)
whole_exactly r = search rules

-- and Form's number where it is not
pub form_else : (r : Record) → (IsWhole r → ⊥) → record_number r ≡ 8
form_else r n = search rules

-- with the place of its kind byte, or the file's length where that is due and missing
pub record_place : (bs : List ℕ) (at : ℕ) → (IsWhole (record_at bs at) → ⊥) → record_offset (record_at bs at) at bs ≡ offset_of bs at
unfolding record_at
record_place bs at n = search rules

-- what is at fault where an end is due after n records, and the offset that goes with it
pub data EndFault (bs : List ℕ) (at n k : ℕ) : Type 0 where
  no_end : is_kind end_kind (record_at bs at) ≡ false → k ≡ offset_of bs at → EndFault bs at n k
  wrong_count : is_kind end_kind (record_at bs at) ≡ true → (word bs (at + records_field) ≡ n → ⊥) → k ≡ at → EndFault bs at n k
  byte_after : is_kind end_kind (record_at bs at) ≡ true → word bs (at + records_field) ≡ n → at + end_length < length bs → k ≡ at + end_length → EndFault bs at n k

pub end_fault : (bs : List ℕ) (at n : ℕ) (w : Refusal) (k : ℕ) → end_answer bs at n ≡ Refused w k → (w ≡ Form) × EndFault bs at n k
unfolding end_answer
end_fault bs at n w k e = search (rules, no_end, wrong_count, byte_after)

-- what a writer returns is what was judged, and the length of its file, n, where nothing is refused
module _ (a : Answer) (n : ℕ) {r : Given ℕ} (e : r ≡ given a n) where
  pub written_number_lem : number_in r ≡ number_in a
  written_number_lem = search rules

  pub written_index_lem : index_in r ≡ index_in a
  written_index_lem = search rules

  pub written_length_lem : number_in r ≡ 0 → value_in r ≡ n
  written_length_lem z = search rules

  -- where it returns a refusal, the output is as it was
  pub refused_as_it_was : {w : Refusal} {k : ℕ} (old new : List ℕ) → r ≡ Refused w k → kept a old new ≡ old
  unfolding kept
  refused_as_it_was old new refused = search rules

-- a writer goes by a table of faults: its number is that of the first that applies, 0 where none does, and its index is 0 unless a bucket is damaged
pub record WriterGoesBy (fault : Refusal → Bool) (r : Given ℕ) : Type 0 where
  pub number : number_in r ≡ first_of order fault
  pub index : (number_in r ≡ 5 → ⊥) → index_in r ≡ 0
