-- The numbers that a caller may get, and how several faults make one answer.
use Rattle.std.specs.Prelude.{Bool, true, false, ℕ, ltb, Result, Ok, Err}
use Rattle.params.specs.declared.answers.Refusal.{Refusal}
use Rattle.params.specs.declared.answers.Refusal.TheVariants.{Param, Length, Flow, Count, Damage, Range, Mismatch, Form, Fold}
use Rattle.params.specs.declared.answers.Refused.{Refused as RefusedAt}
use Rattle.params.specs.Lists.{least}

-- the table of refusals
abbrev pub number_of : Refusal → ℕ
number_of Param = 1
number_of Length = 2
number_of Flow = 3
number_of Count = 4
number_of Damage = 5
number_of Range = 6
number_of Mismatch = 7
number_of Form = 8
number_of Fold = 9

-- what a call gives: a value, or the refusal with its index
abbrev pub Given : Type 0 → Type 0
Given A = Result A RefusedAt

abbrev pub Refused : {A : Type 0} → Refusal → ℕ → Given A
Refused w k = Err (w, k)

-- what a call answers that gives no value
abbrev pub Answer : Type 0
Answer = Given (Unit {0})

pattern abbrev pub Done : Answer
Done = Ok tt

-- the answer alone, without the value
abbrev pub answer_of : {A : Type 0} → Given A → Answer
answer_of (Ok x) = Done
answer_of (Err r) = Err r

-- the number and the index of a refusal, both 0 where nothing was refused
abbrev pub number_in : {A : Type 0} → Given A → ℕ
number_in (Ok x) = 0
number_in (Err r) = number_of r.0

abbrev pub index_in : {A : Type 0} → Given A → ℕ
index_in (Ok x) = 0
index_in (Err r) = r.1

-- a refusal where the test holds, else what is judged next
abbrev pub refuse_if : Bool → Refusal → ℕ → Answer → Answer
refuse_if true w k next = Refused w k
refuse_if false w k next = next

-- a refusal where the test holds at a number below n, with the lowest such number
unfoldable pub refuse_at : ℕ → (ℕ → Bool) → Refusal → Answer → Answer
refuse_at n t w next = refuse_if (ltb (least 0 n t) n) w (least 0 n t) next

-- the first of two answers that refuses
unfoldable pub first : Answer → Answer → Answer
first Done next = next
first (Err r) next = Err r

-- nothing changes where a call refuses
unfoldable pub kept : {A B : Type 0} → Given B → A → A → A
kept (Ok x) old new = new
kept (Err r) old new = old

-- a value unless the answer refuses
abbrev pub given : {A : Type 0} → Answer → A → Given A
given Done x = Ok x
given (Err r) x = Err r

-- the number that a call gives, 0 where it is refused
abbrev pub value_in : Given ℕ → ℕ
value_in (Ok n) = n
value_in (Err r) = 0
