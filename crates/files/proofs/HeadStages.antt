-- A head: one that is good, and what is judged with it.
use mathlib.Core.Path.{◌≡◌}
use mathlib.Core.Bool.{true}
use mathlib.Core.Logic.{◌⊎◌}
use mathlib.Core.List.{List}
use Prim.Native.Nat.{ℕ}
use Rattle.std.proofs.Common.{rules}
use Rattle.std.proofs.lemmas.Grind.{common_steps}
use native.Mathlib.Omega.{arith}
use lib.ListN.{get_or, length}
use Rattle.params.specs.declared.params.Params.{Params}
use Rattle.params.specs.Answers.{first, Answer}
use Rattle.params.specs.Params.{good_params, lengths_answer}
use Rattle.params.proofs.Judging.{Refuses}
use Rattle.files.specs.Records.{body_length, record_at, is_head, body_of, body_from, Body, head_kind, extended_head_kind}
use Rattle.files.specs.Heads.{head_kind_of, params_in_body, params_in, good_head, head_answer, head_of, parameters_answer}
use Rattle.std.specs.Prelude.{Ok}

module _ (bs : List ℕ) where
  pub good_head_lem : is_head (record_at bs 0) ≡ true → good_head bs ≡ true → Ok (params_in bs) ≡ head_of bs
  unfolding head_answer
  good_head_lem e g = rw (e, g)

  -- a good head keeps the rules, and its kind is that of its profile
  pub rules_kept : good_params (params_in bs) ≡ true → get_or bs 0 0 ≡ head_kind_of (params_in bs) → good_head bs ≡ true
  unfolding good_head
  rules_kept g e = search rules

  pub good_parts : good_head bs ≡ true → (good_params (params_in bs) ≡ true) × (get_or bs 0 0 ≡ head_kind_of (params_in bs))
  unfolding good_head
  good_parts e = search rules

  -- the body of a whole head, h being what the contract of `body` gives: how long it is, and that its parameters are the file's
  module _ {whole part : ℕ × ℕ} {xs : List ℕ} (h : Body 0 whole bs part xs) (e : is_head (record_at bs 0) ≡ true) where
    pub head_body_long : (length xs ≡ body_length head_kind) ⊎ (length xs ≡ body_length extended_head_kind)
    unfolding body_of record_at
    head_body_long = grind (arith, common_steps)

    pub body_params : params_in_body xs ≡ params_in bs
    unfolding params_in body_of body_from record_at
    body_params = grind (arith, common_steps)

-- a head that is refused decides what is judged first
module _ (P : Params) (bs : List ℕ) where
  pub head_refused : (r : Answer) → r ≡ head_answer bs → Refuses r → r ≡ parameters_answer P bs
  unfolding head_answer parameters_answer
  head_refused r e h = search rules

-- then the lengths of the lent counts and idsums
abbrev pub opening_answer : Params → List ℕ → ℕ → ℕ → Answer
opening_answer P bs c s = first (parameters_answer P bs) (lengths_answer P c s)

pub opening_first : (P : Params) (bs : List ℕ) (c s : ℕ) (next : Answer) → first (parameters_answer P bs) (first (lengths_answer P c s) next) ≡ first (opening_answer P bs c s) next
unfolding first
opening_first P bs c s next = search rules
