-- The first head is settled by its own bytes: whoever judges it with those at hand judges it for the whole input. It is refused as the stream's reader
-- refuses it, or for its size.
use mathlib.Core.Path.{◌≡◌, refl, sym}
use mathlib.Core.Bool.{Bool, true, false, not}
use mathlib.Core.Logic.{◌⊎◌, inl, inr, ⊎_elim}
use mathlib.Core.List.{List, ◌++◌}
use Prim.Native.Nat.{ℕ, ◌≤◌}
use lib.ListN.{length}
use Rattle.params.specs.declared.params.Params.{Params}
use Rattle.params.specs.declared.answers.Refusal.{Refusal}
use Rattle.params.specs.declared.answers.Refusal.TheVariants.{Param}
use Rattle.params.specs.Answers.{refuse_if, first, Done, Refused}
use Rattle.params.proofs.Judging.{first_refused, first_either}
use Rattle.sketch.specs.Sketch.{Sketch}
use Rattle.files.specs.Records.{record_at, is_head, head_length_in}
use Rattle.files.specs.Heads.{params_in, head_answer}
use Rattle.files.proofs.HeadStages.{head_refused}
use Rattle.streamfile.specs.Streams.{stream_answer}
use Rattle.desk.specs.Desk.{few_enough, due_head, begin_answer, begin_of}
use Rattle.desk.proofs.HeadAnswers.{refused_given, refused_same}
use Rattle.desk.proofs.MoreBytes.{not_yet, head_long, head_stays, params_more, good_more, no_head_more}

module _ (xs ys : List ℕ) where
  -- a whole head, or a byte of another kind
  pub begin_found : not_yet (due_head xs) ≡ false → begin_of (xs ++ ys) ≡ begin_of xs
  unfolding begin_answer head_answer first
  begin_found h = at (is_head (record_at xs 0)) refl
    where
      at : (b : Bool) → is_head (record_at xs 0) ≡ b → begin_of (xs ++ ys) ≡ begin_of xs
      at true w = rw (head_stays xs ys w, w, good_more xs ys w, params_more xs ys w)
      at false w = rw (no_head_more xs ys h w, w)

  pub begin_settled : head_length_in xs ≤ length xs → begin_of (xs ++ ys) ≡ begin_of xs
  begin_settled long = begin_found (head_long xs long)

-- Where the first head is refused: that is the answer of any reader of a stream on the input, with whatever parameters and sketch; or its parameters
-- keep the rules and have too many buckets for a desk, which is PARAM.
pub begin_refused : (bs : List ℕ) (w : Refusal) (k : ℕ) → begin_of bs ≡ Refused w k
    → ((P : Params) (S : Sketch) → stream_answer P bs S ≡ Refused w k) ⊎ ((head_answer bs ≡ Done) × (few_enough (params_in bs) ≡ false) × (w ≡ Param) × (k ≡ 0))
unfolding begin_answer stream_answer
begin_refused bs w k e =
    ⊎_elim (λ h. inl (as_read h)) (λ h. let q = too_large (few_enough (params_in bs)) refl h.1 in inr (h.0, q.0, q.1, q.2))
    (first_either (head_answer bs) _ w k (refused_given (begin_answer bs) _ e))
  where
    as_read : head_answer bs ≡ Refused w k → (P : Params) (S : Sketch) → stream_answer P bs S ≡ Refused w k
    as_read h P S = sym (first_refused (Refused w k) _ _ (head_refused P bs (Refused w k) (sym h) refl) refl)

    too_large : (b : Bool) → few_enough (params_in bs) ≡ b → refuse_if (not b) Param 0 Done ≡ Refused w k → (few_enough (params_in bs) ≡ false) × (w ≡ Param) × (k ≡ 0)
    too_large true e q = absurd (cc)
    too_large false e q = let same = refused_same q in (e, sym same.0, sym same.1)
