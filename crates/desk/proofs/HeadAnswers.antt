-- The two heads of the input: one that is refused as any file's is, one with too many buckets, one that differs from the first.
use mathlib.Core.Path.{◌≡◌, refl, sym, ap, ◌∙◌}
use mathlib.Core.Bool.{true, not, ◌&&◌}
use mathlib.Core.List.{List}
use Prim.Native.Nat.{ℕ, ◌≤◌}
use native.Mathlib.Omega.{arith}
use borrow.Author.Tests.{not-false}
use lib.ListN.{get_or, length}
use Rattle.params.specs.declared.params.Params.{Params}
use Rattle.params.specs.declared.answers.Refusal.{Refusal}
use Rattle.params.specs.declared.answers.Refusal.TheVariants.{Param, Mismatch}
use Rattle.params.specs.declared.answers.Refused.{Refused as RefusedAt}
use Rattle.params.specs.Answers.{Answer, Done, Refused, given}
use Rattle.params.specs.Params.{good_params, same_params}
use Rattle.params.proofs.Judging.{refuse_done, first_passed, first_done}
use Rattle.params.proofs.Searches.{and_true, cannot_hold}
use Rattle.files.specs.Records.{record_at, is_head, head_length_in}
use Rattle.files.specs.Heads.{head_kind_of, head_length_of, params_in, good_head, head_answer, head_of}
use Rattle.files.proofs.Standing.{head_within}
use Rattle.files.proofs.Profiles.{kind_long}
use Rattle.files.proofs.HeadStages.{good_parts, good_head_lem}
use Rattle.files.proofs.HeadTrips.{same_kind, head_accepted}
use Rattle.desk.specs.Desk.{few_enough, begin_answer, begin_of, downstream_head_answer}
use Rattle.std.specs.Prelude.{Ok, Err}

-- what was judged where a value is given, and where it is refused
pub done_given : {A : Type 0} (a : Answer) (x y : A) → Ok x ≡ given a y → (a ≡ Done) × (x ≡ y)
done_given Done x y e = (refl, cc)
done_given (Err r) x y e = (cc, cc)

pub refused_given : {A : Type 0} (a : Answer) (y : A) {r : RefusedAt} → given a y ≡ Err r → a ≡ Err r
refused_given Done y e = cc
refused_given (Err q) y e = cc

-- the same refusal, by its parts
pub refused_same : {w v : Refusal} {k j : ℕ} → ◌≡◌ {A = Answer} (Refused w k) (Refused v j) → (w ≡ v) × (k ≡ j)
refused_same {w} {v} {k} {j} e =
    let parts : ◌≡◌ {A = RefusedAt} (w, k) (v, j) = cc in
    (ap (λ (r : RefusedAt). r.0) parts, ap (λ (r : RefusedAt). r.1) parts)

module _ (bs : List ℕ) where
  pub head_good : head_answer bs ≡ Done → good_params (params_in bs) ≡ true
  head_good e = (good_parts bs (head_accepted bs e).1).0

  -- what a reader of heads gives where it refuses nothing
  pub head_says : {p : Params} → Ok p ≡ head_of bs → (head_answer bs ≡ Done) × (p ≡ params_in bs)
  head_says e = done_given (head_answer bs) _ _ e

  -- what the reader of first heads gives where it refuses nothing, and when that is
  pub begin_says : {p : Params} → Ok p ≡ begin_of bs → (good_head bs ≡ true) × (few_enough (params_in bs) ≡ true) × (p ≡ params_in bs)
  unfolding begin_answer
  begin_says e =
      let g = done_given (begin_answer bs) _ _ e in
      let h = first_done _ _ g.0 in
      ((head_accepted bs h.0).1, not-false _ (refuse_done (not (few_enough (params_in bs))) Param 0 Done h.1).0, g.1)

  begun : is_head (record_at bs 0) ≡ true → (good_head bs && few_enough (params_in bs)) ≡ true → begin_of bs ≡ Ok (params_in bs)
  unfolding begin_answer
  begun whole g =
      let h = and_true (good_head bs) _ g in
      rw (first_passed (head_answer bs) _ (head_says (good_head_lem bs whole h.0)).0, h.1)

  -- the second head, which is whole
  module _ (P : Params) where
    pub second_refused : is_head (record_at bs 0) ≡ true → ((p : Params) → begin_of bs ≡ Ok p → ⊥) → Refused Param 0 ≡ downstream_head_answer P bs
    unfolding downstream_head_answer
    second_refused whole refused = rw (cannot_hold (good_head bs && few_enough (params_in bs)) (λ g. refused _ (begun whole g)))

    -- where it is accepted, it is good and says the same
    module _ (done : downstream_head_answer P bs ≡ Done) where
      pub second_good : good_head bs ≡ true
      unfolding downstream_head_answer
      second_good = (and_true (good_head bs) _ (not-false _ (refuse_done (not (good_head bs && few_enough (params_in bs))) Param 0 _ done).0)).0

      pub second_same : same_params P (params_in bs) ≡ true
      unfolding downstream_head_answer
      second_same =
          let h = refuse_done (not (good_head bs && few_enough (params_in bs))) Param 0 _ done in
          not-false _ (refuse_done (not (same_params P (params_in bs))) Mismatch 0 Done h.1).0

      -- so it is of the same profile, and as long as the first
      second_kind : get_or bs 0 0 ≡ head_kind_of P
      second_kind = (good_parts bs second_good).1 ∙ same_kind P (params_in bs) second_same

      pub second_length : head_length_in bs ≡ head_length_of P
      second_length = kind_long P bs second_kind

      pub second_within : is_head (record_at bs 0) ≡ true → head_length_of P ≤ length bs
      second_within whole = omega (arith, second_length, head_within bs whole)

    -- a good head of the other profile is MISMATCH
    pub other_profile : good_head bs ≡ true → few_enough (params_in bs) ≡ true → (get_or bs 0 0 ≡ head_kind_of P → ⊥) → downstream_head_answer P bs ≡ Refused Mismatch 0
    unfolding downstream_head_answer
    other_profile g f other = rw (g, f, cannot_hold (same_params P (params_in bs)) (λ s. other (second_kind (rw (g, f, s)))))
