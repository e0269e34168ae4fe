-- E11 of the bench, record by record, and its head; and heads with the fifth pair.
use mathlib.Core.Path.{◌≡◌, refl}
use mathlib.Core.List.{List, [], ◌∷◌, ◌++◌, map}
use Prim.Native.Nat.{ℕ}
use lib.ListN.{take}
use Rattle.params.specs.declared.params.Params.{Params}
use Rattle.params.specs.declared.answers.Refusal.TheVariants.{Param, Mismatch, Form}
use Rattle.params.specs.Lists.{below}
use Rattle.params.specs.Answers.{kept, Done, Refused}
use Rattle.params.specs.Params.{pair_at, twins, good_dimensions, good_params, same_pair, same_params}
use Rattle.files.specs.declared.records.Record.TheVariants.{Whole, Unknown, Cut, Missing}
use Rattle.files.specs.Bytes.{word, word_bytes}
use Rattle.files.specs.Records.{head_length_in, record_at, body_of, body_from}
use Rattle.files.specs.Heads.{params_in_body, params_in, good_head, head_answer, head_of, parameters_answer}
use Rattle.files.specs.Layout.{arrays_bytes, head_bytes}
use Rattle.std.specs.Prelude.{Ok}

-- the body of a head of two arrays of five buckets, up to its fourth pair; the head of both streams, and packets or an end
abbrev arrays : List ℕ
arrays =
    2 ∷ 0 ∷ 0 ∷ 0 ∷ 5 ∷ 0 ∷ 0 ∷ 0 ∷ 1 ∷ 0 ∷ 0 ∷ 0 ∷ 0 ∷ 64 ∷ 0 ∷ 0 ∷ 0 ∷ 0 ∷ 0 ∷ 0 ∷ 0 ∷ 0 ∷ 0 ∷ 0 ∷ 0 ∷ 0 ∷ 0 ∷ 0 ∷ 0 ∷ 0 ∷ 0 ∷ 0 ∷ 0 ∷ 0 ∷ 0 ∷ 0 ∷ 0 ∷ []

abbrev head : List ℕ
head = 1 ∷ arrays

abbrev packets : ℕ → ℕ → List ℕ
packets f n = 2 ∷ 0 ∷ 0 ∷ 0 ∷ f ∷ 0 ∷ 0 ∷ 0 ∷ n ∷ []

abbrev end : ℕ → List ℕ
end n = 4 ∷ 0 ∷ 0 ∷ 0 ∷ n ∷ []

abbrev pub e11 : List ℕ
e11 =
    head ++ (packets 7 3 ++ (packets 12 2 ++ (packets 11 1 ++ (end 3
    ++ (head ++ (packets 7 2 ++ (packets 11 1 ++ end 2)))))))

-- the parameters of that head, with a fifth pair
abbrev K : ℕ → ℕ → Params
K x y = record { d = 2; m = 5; a = 1 ∷ 1073741824 ∷ 0 ∷ 0 ∷ []; b = 0 ∷ 0 ∷ 0 ∷ 0 ∷ []; a5 = x; b5 = y }

-- what stands at each record's offset, at the file's end, at the first byte of a flow, which is no kind, and at the last byte, a 2, which is a kind without its body
pub e11_records :
    map (record_at e11) (0 ∷ 38 ∷ 47 ∷ 56 ∷ 65 ∷ 70 ∷ 108 ∷ 117 ∷ 126 ∷ 131 ∷ 39 ∷ 130 ∷ [])
    ≡ (Whole 1 38 ∷ Whole 2 47 ∷ Whole 2 56 ∷ Whole 2 65 ∷ Whole 4 70 ∷ Whole 1 108 ∷ Whole 2 117 ∷ Whole 2 126 ∷ Whole 4 131 ∷ Missing ∷ Unknown ∷ Cut ∷ [])
unfolding record_at
e11_records = refl

pub e11_head : head_of e11 ≡ Ok (K 0 0)
unfolding record_at body_from word params_in_body params_in head_answer kept below pair_at twins good_dimensions good_params good_head
e11_head = refl

-- the plain profile's head is written as it was before there was another
pub e11_written : head_bytes (K 0 0) ≡ head
unfolding head_bytes arrays_bytes word_bytes
e11_written = refl

-- the body at offset 47: flow 12 by 2
pub e11_body : body_of (record_at e11 47) 47 e11 ≡ (0 ∷ 0 ∷ 0 ∷ 12 ∷ 0 ∷ 0 ∷ 0 ∷ 2 ∷ [])
unfolding record_at body_of
e11_body = refl

-- a head of kind 10, whose fifth pair is (40503, x)
abbrev extended : ℕ → List ℕ
extended x = 10 ∷ arrays ++ (0 ∷ 0 ∷ 158 ∷ 55 ∷ 0 ∷ 0 ∷ 0 ∷ x ∷ [])

pub extended_head : head_of (extended 7) ≡ Ok (K 40503 7)
unfolding record_at body_from word params_in_body params_in head_answer kept below pair_at twins good_dimensions good_params good_head
extended_head = refl

-- it is the one that is written, and the records follow it at offset 46
pub extended_written : head_bytes (K 40503 7) ≡ extended 7
unfolding head_bytes arrays_bytes word_bytes
extended_written = refl

pub extended_ends : record_at (extended 7 ++ packets 7 3) 0 ≡ Whole 10 46
unfolding record_at
extended_ends = refl

pub extended_length : head_length_in (extended 7 ++ packets 7 3) ≡ 46
unfolding head_length_in
extended_length = refl

-- with the fifth pair (0, 0) a head of kind 10 is refused, and one whose offset alone is not 0 too
pub fifth_unused : map (λ (x : ℕ). head_answer (10 ∷ arrays ++ (0 ∷ 0 ∷ 0 ∷ 0 ∷ 0 ∷ 0 ∷ 0 ∷ x ∷ []))) (0 ∷ 7 ∷ []) ≡ (Refused Param 0 ∷ Refused Param 0 ∷ [])
unfolding record_at body_from word params_in_body params_in head_answer below pair_at twins good_dimensions good_params good_head
fifth_unused = refl

-- so is one whose fifth multiplier is the prime
pub fifth_beyond : head_answer (10 ∷ arrays ++ (127 ∷ 255 ∷ 255 ∷ 255 ∷ 0 ∷ 0 ∷ 0 ∷ 0 ∷ [])) ≡ Refused Param 0
unfolding record_at body_from word params_in_body params_in head_answer below pair_at twins good_dimensions good_params good_head
fifth_beyond = refl

-- without its last byte it is no head, and neither is a head of kind 1 with the kind byte 10
pub extended_cut : map (λ (bs : List ℕ). head_answer bs) (take 45 (extended 7) ∷ (10 ∷ arrays) ∷ []) ≡ (Refused Form 0 ∷ Refused Form 0 ∷ [])
unfolding record_at head_answer
extended_cut = refl

-- MISMATCH across the profiles
pub profiles_differ : map (λ (P : Params). parameters_answer P (extended 7)) (K 40503 7 ∷ K 0 0 ∷ K 40503 8 ∷ []) ≡ (Done ∷ Refused Mismatch 0 ∷ Refused Mismatch 0 ∷ [])
unfolding record_at body_from word params_in_body params_in parameters_answer below pair_at twins good_dimensions good_params good_head same_pair same_params
profiles_differ = refl
