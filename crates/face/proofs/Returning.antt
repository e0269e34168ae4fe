-- What a caller in C is returned of a call: the library's contract holds of the answer that came back, which is the one of the definition.
use mathlib.Core.Path.{◌≡◌, refl, ap, subst, ◌∙◌}
use mathlib.Core.Bool.{Bool, true, false, cond, ◌&&◌}
use mathlib.Core.List.{List, [], ◌∷◌}
use Prim.Native.Nat.{ℕ, ◌≤◌}
use native.Mathlib.Omega.{arith}
use lib.Dec.{eqb}
use lib.ListN.{get_or}
use Rattle.params.specs.declared.params.Params.{Params}
use Rattle.params.specs.Answers.{number_in, index_in, Answer, Done, Given, given, value_in}
use Rattle.params.specs.Params.{good_params, no_params, resized}
use Rattle.params.proofs.Rules.{good_dimensions_lem, none_bad}
use Rattle.sketch.specs.Sketch.{Sketch}
use Rattle.fold.specs.Fold.{fold_answer, fold_returns, Folded}
use Rattle.fold.proofs.Turns.{short_step}
use Rattle.fold.proofs.Accepting.{accepted}
use Rattle.files.specs.Heads.{params_in_body, params_in, head_answer, head_of}
use Rattle.files.proofs.HeadStages.{good_parts}
use Rattle.files.proofs.HeadTrips.{head_accepted}
use Rattle.face.specs.Returned.{first_prime, params_of, param_numbers, obtained_numbers, figures_in, AnswerReturned, WrittenReturned, PeeledReturned, LocatedReturned, ParamsReturned}
use Rattle.std.specs.Prelude.{Err, IfOk}
use Rattle.std.specs.Result.{result_unwrap_or}
use Rattle.peel.specs.declared.peeling.Figures.{Figures}

pub returned : {answer : Answer} {Contract : Answer → Type 0} {number place : ℕ} (x : Answer)
    → x ≡ answer → Contract x → (number ≡ number_in x) × (place ≡ index_in x) → AnswerReturned answer Contract number place
returned {Contract} x e held t =
    record {
      number_returned = t.0 ∙ ap number_in e;
      place_returned = t.1 ∙ ap index_in e;
      call = subst Contract e held;
    }

pub written_returned : {written : Given ℕ} {Contract : Given ℕ → Type 0} {number place long : ℕ} (x : Given ℕ)
    → x ≡ written → Contract x → (number ≡ number_in x) × (place ≡ index_in x) × (long ≡ value_in x)
    → WrittenReturned written Contract number place long
written_returned {Contract} x e held t =
    record {
      number_returned = t.0 ∙ ap number_in e;
      place_returned = t.1 ∙ ap index_in e;
      length_returned = t.2 ∙ ap value_in e;
      call = subst Contract e held;
    }

pub peeled_returned : {peeled : Given Figures} {Contract : Given Figures → Type 0} {number place : ℕ} {figures : List ℕ} (x : Given Figures)
    → x ≡ peeled → Contract x → (number ≡ number_in x) × (place ≡ index_in x) × (figures ≡ figures_in x)
    → PeeledReturned peeled Contract number place figures
peeled_returned {Contract} x e held t =
    record {
      number_returned = t.0 ∙ ap number_in e;
      place_returned = t.1 ∙ ap index_in e;
      figures_returned = t.2 ∙ ap figures_in e;
      call = subst Contract e held;
    }

pub located_returned : {located : Given ℕ} {number place found : ℕ} (x : Given ℕ)
    → x ≡ located → (number ≡ number_in x) × (place ≡ index_in x) × (found ≡ value_in x) → LocatedReturned located number place found
located_returned x e t =
    record {
      number_returned = t.0 ∙ ap number_in e;
      place_returned = t.1 ∙ ap index_in e;
      found_returned = t.2 ∙ ap value_in e;
    }

pub params_returned : {obtained : Given Params} {number place : ℕ} {numbers : List ℕ} (x : Given Params)
    → x ≡ obtained → (number ≡ number_in x) × (place ≡ index_in x) × (numbers ≡ obtained_numbers x)
    → ParamsReturned obtained number place numbers
params_returned x e t =
    record {
      number_returned = t.0 ∙ ap number_in e;
      place_returned = t.1 ∙ ap index_in e;
      numbers_returned = t.2 ∙ ap obtained_numbers e;
    }

pub fold_returned : {P : Params} {m2 : ℕ} {S S' : Sketch} {x : Given Params} {number place : ℕ} {numbers : List ℕ}
    → Folded P m2 S x S' → (number ≡ number_in x) × (place ≡ index_in x) × (numbers ≡ obtained_numbers x)
    → ParamsReturned (fold_returns P m2 S) number place numbers × Folded P m2 S (fold_returns P m2 S) S'
fold_returned {P} {m2} {S} {S'} {x} held t = (params_returned x held.answer t, subst (λ (o : Given Params). Folded P m2 S o S') held.answer held)

-- parameters that are returned have small dimensions: they keep the rules
abbrev pub Small : Params → Type 0
Small P = (P.d ≤ 4) × (P.m ≤ 16384)

given_small : (r : Answer) (P : Params) → (r ≡ Done → Small P) → IfOk (given r P) Small
given_small Done P h = h refl
given_small (Err r) P h = tt

pub head_small : (bs : List ℕ) → IfOk (head_of bs) Small
head_small bs =
    given_small (head_answer bs) (params_in bs)
    (λ e. let s = good_dimensions_lem (params_in bs) (good_parts bs (head_accepted bs e).1).0 in (s.d_high, s.m_high))

pub fold_small : (P : Params) (m2 : ℕ) (S : Sketch) → IfOk (fold_returns P m2 S) Small
fold_small P m2 S =
    given_small (fold_answer P m2 S) (resized P m2) (λ e. let h = (accepted P m2 S e).asked in (h.d_high, omega (arith, short_step h, h.m_high)))

-- the fourteen numbers that are returned give the parameters to every other call, and where there are none those that every call refuses
back : (r : Answer) (P : Params) → params_of (param_numbers P) ≡ P → params_of (obtained_numbers (given r P)) ≡ result_unwrap_or (given r P) no_params
unfolding params_of
back Done P e = e
back (Err r) P e = refl

pub head_back : (bs : List ℕ) → params_of (obtained_numbers (head_of bs)) ≡ result_unwrap_or (head_of bs) no_params
unfolding params_in params_in_body params_of param_numbers
head_back bs = back (head_answer bs) (params_in bs) refl

pub fold_back : (ns : List ℕ) (m2 : ℕ) (S : Sketch) → params_of (obtained_numbers (fold_returns (params_of ns) m2 S)) ≡ result_unwrap_or (fold_returns (params_of ns) m2 S) no_params
unfolding params_of param_numbers
fold_back ns m2 S = back (fold_answer (params_of ns) m2 S) (resized (params_of ns) m2) (go (eqb (get_or ns 10 0) first_prime && eqb (get_or ns 13 0) 0))
  where
    read : Params
    read =
        record {
          d = get_or ns 0 0;
          m = get_or ns 1 0;
          a = get_or ns 2 0 ∷ get_or ns 3 0 ∷ get_or ns 4 0 ∷ get_or ns 5 0 ∷ [];
          b = get_or ns 6 0 ∷ get_or ns 7 0 ∷ get_or ns 8 0 ∷ get_or ns 9 0 ∷ [];
          a5 = get_or ns 11 0;
          b5 = get_or ns 12 0;
        }

    go : (t : Bool) → params_of (param_numbers (resized (cond t read no_params) m2)) ≡ resized (cond t read no_params) m2
    go true = refl
    go false = refl

-- with another prime's number, or another last number, the parameters break a rule, so that every call refuses them
pub others_refused : (ns : List ℕ) → (eqb (get_or ns 10 0) first_prime && eqb (get_or ns 13 0) 0) ≡ false → good_params (params_of ns) ≡ false
unfolding params_of
others_refused ns e = rw e none_bad
