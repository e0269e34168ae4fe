-- Which faults apply to a call, and the order in which they are judged: the first that applies gives the number. What is judged of each call
-- is one flat table, a line for each refusal; proofs/InOrder.antt shows that the answers go by it.
use Rattle.std.specs.Prelude.{Bool, false, not, cond, ◌&&◌, List, [], ◌∷◌, ℕ, eqb, leb}
use Rattle.params.specs.declared.params.Params.{Params}
use Rattle.params.specs.declared.answers.Refusal.{Refusal}
use Rattle.params.specs.declared.answers.Refusal.TheVariants.{Param, Length, Flow, Count, Damage, Range, Mismatch, Form, Fold}
use Rattle.params.specs.Lists.{below}
use Rattle.params.specs.Answers.{number_of}
use Rattle.params.specs.Params.{is_flow, size, good_params}

-- the order in which faults are judged: that of their numbers, save that Mismatch comes after Param and Fold after Length
abbrev pub order : List Refusal
order = Param ∷ Mismatch ∷ Length ∷ Fold ∷ Flow ∷ Count ∷ Damage ∷ Range ∷ Form ∷ []

-- the number of the first that applies, 0 where none does
abbrev pub first_of : List Refusal → (Refusal → Bool) → ℕ
first_of [] applies = 0
first_of (w ∷ ws) applies = cond (applies w) (number_of w) (first_of ws applies)

-- a fault of buckets or of entries: the test holds at some number below n
abbrev pub somewhere : ℕ → (ℕ → Bool) → Bool
somewhere n t = not (below n (λ k. not (t k)))

-- the table of a call that judges no more than the parameters, a length and a flow
abbrev pub early : (param length flow : Bool) → Refusal → Bool
early p l f Param = p
early p l f Length = l
early p l f Flow = f
early p l f Count = false
early p l f Damage = false
early p l f Range = false
early p l f Mismatch = false
early p l f Form = false
early p l f Fold = false

-- the parameters, and the lengths of the counts and of the idsums
abbrev pub lent_fault : Params → ℕ → ℕ → Refusal → Bool
lent_fault P c s = early (not (good_params P)) (not (eqb c (size P) && eqb s (size P))) false

-- the position or the index of flow f in array i
abbrev pub position_fault : Params → ℕ → ℕ → Refusal → Bool
position_fault P i f = early (not (good_params P && (leb 1 i && leb i P.d))) false (not (is_flow P f))
