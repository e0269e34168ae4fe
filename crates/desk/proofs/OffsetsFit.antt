-- 64 bits hold all that the bytes at hand can lead to: what follows where the test holds, and the other way.
use mathlib.Core.Path.{◌≡◌}
use mathlib.Core.Bool.{true}
use mathlib.Core.List.{List}
use Prim.Native.Nat.{ℕ, ◌+◌, ◌-◌, ◌<◌}
use borrow.Author.Tests.{ltb-true, lt-ltb}
use lib.Dec.{ltb}
use lib.ListN.{length}
use Rattle.params.proofs.Searches.{and_true}
use Rattle.desk.specs.declared.states.State.{State}
use Rattle.desk.specs.Desk.{offsets_fit}

-- 64 bits hold the offset and the number of records after these bytes
pub record Bounded (bs : List ℕ) (s : State) : Type 0 where
  pub offset : s.at + length bs < 18446744073709551616
  pub counted : s.records + length bs < 18446744073709551616

pub bounded : (bs : List ℕ) (s : State) → offsets_fit bs s ≡ true → Bounded bs s
unfolding offsets_fit
bounded bs s e =
    let h = and_true (ltb (s.at + length bs) 18446744073709551616) _ e in
    record { offset = ltb-true _ _ h.0; counted = ltb-true _ _ h.1 }

pub offsets_fit_lem : (bs : List ℕ) (s : State) → Bounded bs s → offsets_fit bs s ≡ true
unfolding offsets_fit
offsets_fit_lem bs s r = rw (lt-ltb (s.at + length bs) 18446744073709551616 r.offset) (lt-ltb (s.records + length bs) 18446744073709551616 r.counted)
