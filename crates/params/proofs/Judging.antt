-- Laws of answers: what a refusal keeps and where it comes from, what holds where nothing is refused, and answers with the same number.
use mathlib.Core.Path.{◌≡◌, refl, sym, ap, ◌∙◌}
use mathlib.Core.Bool.{Bool, true, false, true≢false}
use mathlib.Core.Logic.{◌⊎◌, inl, inr}
use Prim.Native.Nat.{ℕ, ◌≤◌, ◌<◌}
use native.Mathlib.Omega.{arith}
use borrow.Author.Tests.{lt-ltb, le-ltb}
use lib.Dec.{ltb}
use Rattle.params.specs.declared.answers.Refusal.{Refusal}
use Rattle.params.specs.declared.answers.Refused.{Refused as RefusedAt}
use Rattle.params.specs.declared.answers.Refusal.TheVariants.{Param, Length, Flow, Count, Damage, Range, Mismatch, Form, Fold}
use Rattle.params.specs.Lists.{least, found}
use Rattle.params.specs.Answers.{number_of, number_in, refuse_if, refuse_at, first, kept, given, answer_of, Answer, Done, Given, Refused}
use Rattle.params.proofs.Searches.{none_found, nothing_found, found_some, found_none}
use Rattle.std.specs.Prelude.{Some, None, Ok, Err, IsErr, IsErrAnd}

-- an answer other than Done
abbrev pub Refuses : Answer → Type 0
Refuses r = IsErr r

done_not : Refuses Done → ⊥
done_not h = true≢false (sym h)

-- every refusal has a number
pub number_some : (w : Refusal) → number_of w ≡ 0 → ⊥
number_some Param e = omega arith
number_some Length e = omega arith
number_some Flow e = omega arith
number_some Count e = omega arith
number_some Damage e = omega arith
number_some Range e = omega arith
number_some Mismatch e = omega arith
number_some Form e = omega arith
number_some Fold e = omega arith

-- the first of two answers: a refusal, or the second
refused_first : (r next : Answer) → Refuses r → r ≡ first r next
unfolding first
refused_first Done next h = absurd (done_not h)
refused_first (Err r) next h = refl

pub first_refused : (r judged next : Answer) → r ≡ judged → Refuses r → r ≡ first judged next
first_refused r judged next e h = refused_first r next h ∙ ap (λ (x : Answer). first x next) e

pub first_passed : (r next : Answer) → r ≡ Done → first r next ≡ next
unfolding first
first_passed r next e = rw e

pub first_done : (r next : Answer) → first r next ≡ Done → (r ≡ Done) × (next ≡ Done)
unfolding first
first_done Done next e = (refl, e)
first_done (Err r) next e = (e, cc)

-- a refusal keeps what was there
pub kept_old : {A B : Type 0} (r : Given B) (old new : A) → IsErr r → old ≡ kept r old new
unfolding kept
kept_old (Ok x) old new h = absurd (true≢false (sym h))
kept_old (Err r) old new h = refl

pub kept_new : {A : Type 0} (r : Answer) (old new : A) → r ≡ Done → new ≡ kept r old new
unfolding kept
kept_new r old new e = rw e

-- a test that did not refuse
pub refuse_done : (b : Bool) (w : Refusal) (k : ℕ) (next : Answer) → refuse_if b w k next ≡ Done → (b ≡ false) × (next ≡ Done)
refuse_done true w k next e = (cc, cc)
refuse_done false w k next e = (refl, e)

-- where no number passes the test nothing is refused
pub refuse_none : (n : ℕ) (t : ℕ → Bool) (w : Refusal) (next : Answer) → ((k : ℕ) → k < n → t k ≡ false) → refuse_at n t w next ≡ next
unfolding refuse_at
refuse_none n t w next none = rw (nothing_found n t none, le-ltb n n (omega arith))

-- a search for the lowest index at fault, by what it found
pub refuse_some : (n : ℕ) {k : ℕ} (t : ℕ → Bool) (w : Refusal) (next : Answer) → Some k ≡ found n t → Refused w k ≡ refuse_at n t w next
unfolding refuse_at
refuse_some n t w next e =
    let h = found_some n t (sym e) in
    rw (lt-ltb (least 0 n t) n h.1, h.0)

pub refuse_nothing : (n : ℕ) (t : ℕ → Bool) (w : Refusal) (next : Answer) → None ≡ found n t → next ≡ refuse_at n t w next
refuse_nothing n t w next e = sym (refuse_none n t w next (found_none n t (sym e)))

pub refuse_at_done : (n : ℕ) (t : ℕ → Bool) (w : Refusal) (next : Answer) → refuse_at n t w next ≡ Done → ((k : ℕ) → k < n → t k ≡ false) × (next ≡ Done)
unfolding refuse_at
refuse_at_done n t w next e =
    let h = refuse_done (ltb (least 0 n t) n) w (least 0 n t) next e in
    (none_found n t h.0, h.1)

-- where a refusal comes from
pub first_either : (r next : Answer) (w : Refusal) (k : ℕ) → first r next ≡ Refused w k → (r ≡ Refused w k) ⊎ ((r ≡ Done) × (next ≡ Refused w k))
unfolding first
first_either Done next w k e = inr (refl, e)
first_either (Err r) next w k e = inl e

-- the first of two answers where the second refuses nothing, or has the same number as another
pub first_end : (r next : Answer) → next ≡ Done → first r next ≡ r
unfolding first
first_end Done next e = e
first_end (Err r) next e = refl

pub first_number_lem : (r next later : Answer) → number_in next ≡ number_in later → number_in (first r next) ≡ number_in (first r later)
unfolding first
first_number_lem Done next later e = e
first_number_lem (Err r) next later e = refl

-- no refusal has the number 0
pub number_done : (r : Answer) → number_in r ≡ 0 → r ≡ Done
number_done Done e = refl
number_done (Err r) e = absurd (number_some r.0 e)

-- so answers with the same number keep the same
pub kept_number : {A : Type 0} (r q : Answer) (old new : A) → number_in r ≡ number_in q → kept r old new ≡ kept q old new
unfolding kept
kept_number Done q old new e = kept_new q old new (number_done q (sym e))
kept_number (Err r) Done old new e = sym (kept_new (Err r) old new (number_done (Err r) e))
kept_number (Err r) (Err x) old new e = refl

-- a refusal that `?` hands on is the one that came
pub handed_on : {A : Type 0} {r : Given A} {w : RefusedAt} → IsErrAnd r (λ x. x ≡ w) → r ≡ Err w
handed_on {r = Ok x} h = absurd h
handed_on {r = Err x} h = ap Err h

-- a value as it is given, and a refusal
pub given_done : {A : Type 0} {r answer : Answer} {x y : A} → r ≡ answer → r ≡ Done → x ≡ y → Ok x ≡ given answer y
given_done e h q = rw (← e, h, q)

pub given_refused : {A : Type 0} {r answer : Answer} {w : RefusedAt} (y : A) → r ≡ answer → r ≡ Err w → Err w ≡ given answer y
given_refused y e h = rw (← e, h)

-- the answer of what is given
pub answer_given : {A : Type 0} (answer : Answer) (x : A) → answer_of (given answer x) ≡ answer
answer_given Done x = refl
answer_given (Err r) x = refl
