-- Fourteen numbers as parameters, and an answer as the numbers that a caller in C is returned.
use Rattle.std.specs.Prelude.{◌≡◌, cond, ◌&&◌, List, [], ◌∷◌, ℕ, eqb, get_or, replicate, Ok, Err}
use Rattle.params.specs.declared.params.Params.{Params}
use Rattle.params.specs.Answers.{number_in, index_in, Answer, Given, value_in}
use Rattle.params.specs.Params.{no_params}
use Rattle.peel.specs.declared.peeling.Figures.{Figures}
use Rattle.peel.specs.Peel.{peeled_ending, peeled_entries, peeled_lost, peeled_extra, peeled_pops}

-- the number of the prime; there is one
abbrev pub first_prime : ℕ
first_prime = 1

-- d, m, the four multipliers, the four offsets, the prime's number, the fifth pair, and a number that is kept free and is 0. With another
-- prime's number or another last number there are no such parameters: those that stand for none break a rule, so that every call refuses them
unfoldable pub params_of : List ℕ → Params
params_of ns =
    cond (eqb (get_or ns 10 0) first_prime && eqb (get_or ns 13 0) 0)
    (record {
      d = get_or ns 0 0;
      m = get_or ns 1 0;
      a = get_or ns 2 0 ∷ get_or ns 3 0 ∷ get_or ns 4 0 ∷ get_or ns 5 0 ∷ [];
      b = get_or ns 6 0 ∷ get_or ns 7 0 ∷ get_or ns 8 0 ∷ get_or ns 9 0 ∷ [];
      a5 = get_or ns 11 0;
      b5 = get_or ns 12 0;
    })
    no_params

-- the same fourteen numbers of parameters
unfoldable pub param_numbers : Params → List ℕ
param_numbers P =
    P.d ∷ P.m
    ∷ get_or P.a 0 0 ∷ get_or P.a 1 0 ∷ get_or P.a 2 0 ∷ get_or P.a 3 0
    ∷ get_or P.b 0 0 ∷ get_or P.b 1 0 ∷ get_or P.b 2 0 ∷ get_or P.b 3 0
    ∷ first_prime ∷ P.a5 ∷ P.b5 ∷ 0 ∷ []

-- those of parameters that a call returns: all 0 where it is refused
abbrev pub obtained_numbers : Given Params → List ℕ
obtained_numbers (Ok P) = param_numbers P
obtained_numbers (Err r) = replicate 14 0

-- the ending's number, the entries, the packets lost, those extra and the pops
abbrev pub figures_in : Given Figures → List ℕ
figures_in x = peeled_ending x ∷ peeled_entries x ∷ peeled_lost x ∷ peeled_extra x ∷ peeled_pops x ∷ []

-- What a caller is returned of an answer, its number and its place, where `Contract` is what the library promises of a call that
-- gives this answer; and the same with the length that a writer gives and with the figures of a walk.
pub record AnswerReturned (answer : Answer) (Contract : Answer → Type 0) (number place : ℕ) : Type 0 where
  pub number_returned : number ≡ number_in answer
  pub place_returned : place ≡ index_in answer
  pub call : Contract answer

pub record WrittenReturned (written : Given ℕ) (Contract : Given ℕ → Type 0) (number place bytes : ℕ) : Type 0 where
  pub number_returned : number ≡ number_in written
  pub place_returned : place ≡ index_in written
  pub length_returned : bytes ≡ value_in written
  pub call : Contract written

pub record PeeledReturned (peeled : Given Figures) (Contract : Given Figures → Type 0) (number place : ℕ) (figures : List ℕ) : Type 0 where
  pub number_returned : number ≡ number_in peeled
  pub place_returned : place ≡ index_in peeled
  pub figures_returned : figures ≡ figures_in peeled
  pub call : Contract peeled

-- What a caller is returned of a position or an index, and of parameters: the number and the place, with what was found or with their
-- fourteen numbers.
pub record LocatedReturned (located : Given ℕ) (number place found : ℕ) : Type 0 where
  pub number_returned : number ≡ number_in located
  pub place_returned : place ≡ index_in located
  pub found_returned : found ≡ value_in located

pub record ParamsReturned (obtained : Given Params) (number place : ℕ) (numbers : List ℕ) : Type 0 where
  pub number_returned : number ≡ number_in obtained
  pub place_returned : place ≡ index_in obtained
  pub numbers_returned : numbers ≡ obtained_numbers obtained
