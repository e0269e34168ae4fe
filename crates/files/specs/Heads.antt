-- The head of a file: d (1 byte), m (4), then four pairs of a multiplier (4) and an offset (4), and with fingerprints the fifth; and what is judged with it.
use Rattle.std.specs.Prelude.{Bool, not, cond, ◌&&◌, List, [], ◌∷◌, ℕ, eqb, get_or}
use Rattle.params.specs.declared.params.Params.{Params}
use Rattle.params.specs.declared.answers.Refusal.TheVariants.{Param, Mismatch, Form}
use Rattle.params.specs.Answers.{refuse_if, Answer, Done, Given, given}
use Rattle.params.specs.Params.{fingerprinted, good_params, same_params}
use Rattle.files.specs.Bytes.{word}
use Rattle.files.specs.Records.{head_kind, extended_head_kind, record_length, record_at, is_head, body_from}
use Rattle.files.specs.Fields.{arrays_in_body, buckets_in_body, multiplier_in_body, offset_in_body}

-- the kind of the head that a profile has, and its length
abbrev pub head_kind_of : Params → ℕ
head_kind_of P = cond (fingerprinted P) extended_head_kind head_kind

abbrev pub head_length_of : Params → ℕ
head_length_of P = record_length (head_kind_of P)

-- the parameters in a head's body; in one of kind 1 there is no fifth pair, and so both of its numbers are 0
unfoldable pub params_in_body : List ℕ → Params
params_in_body xs =
    record {
      d = get_or xs arrays_in_body 0;
      m = word xs buckets_in_body;
      a = word xs (multiplier_in_body 0) ∷ word xs (multiplier_in_body 1) ∷ word xs (multiplier_in_body 2) ∷ word xs (multiplier_in_body 3) ∷ [];
      b = word xs (offset_in_body 0) ∷ word xs (offset_in_body 1) ∷ word xs (offset_in_body 2) ∷ word xs (offset_in_body 3) ∷ [];
      a5 = word xs (multiplier_in_body 4);
      b5 = word xs (offset_in_body 4);
    }

-- and in a head that stands at the start of the file
unfoldable pub params_in : List ℕ → Params
params_in bs = params_in_body (body_from (get_or bs 0 0) bs 0)

-- the parameters keep the rules, and are of the profile that the head's kind says: one of kind 10 has a fifth pair in use
unfoldable pub good_head : List ℕ → Bool
good_head bs = good_params (params_in bs) && eqb (get_or bs 0 0) (head_kind_of (params_in bs))

-- a whole head stands there, and is good
unfoldable pub head_answer : List ℕ → Answer
head_answer bs =
    refuse_if (not (is_head (record_at bs 0))) Form 0
    (refuse_if (not (good_head bs)) Param 0
    Done)

abbrev pub head_of : List ℕ → Given Params
head_of bs = given (head_answer bs) (params_in bs)

-- what is judged first of a file: the head, the parameters in it and those that are given, and whether they are the same. The
-- lengths of the lent counts and idsums come after them.
unfoldable pub parameters_answer : Params → List ℕ → Answer
parameters_answer P bs =
    refuse_if (not (is_head (record_at bs 0))) Form 0
    (refuse_if (not (good_head bs && good_params P)) Param 0
    (refuse_if (not (same_params P (params_in bs))) Mismatch 0
    Done))
