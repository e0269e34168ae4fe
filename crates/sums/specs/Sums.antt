-- What the sum and the difference of two sketches answer and leave.
use Rattle.std.specs.Prelude.{Bool, not, ◌&&◌, ◌||◌, ◌≡◌, List, ℕ, ℤ, pos, length, get_or}
use Rattle.field.specs.Residue.{residue}
use Rattle.params.specs.declared.params.Params.{Params}
use Rattle.params.specs.declared.answers.Refusal.TheVariants.{Param, Damage, Range, Mismatch}
use Rattle.params.specs.Lists.{map_from}
use Rattle.params.specs.Answers.{refuse_if, refuse_at, first, kept, Answer, Done}
use Rattle.params.specs.Params.{prime, good_params, same_params, lengths_answer}
use Rattle.buckets.specs.Buckets.{plus_minus}
use Rattle.sketch.specs.Sketch.{Sketch, sketch, count_in, idsum_in, damaged_at, leaves_at}

-- the parameters of both sketches, whether they are the same, and the four lengths
unfoldable pub both_lent_answer : Params → Params → ℕ → ℕ → ℕ → ℕ → Answer
both_lent_answer P Q c s e t =
    refuse_if (not (good_params P && good_params Q)) Param 0
    (refuse_if (not (same_params P Q)) Mismatch 0
    (first (lengths_answer P c s) (lengths_answer P e t)))

-- bucket k is outside its limits in either sketch; the sum or difference of its counts leaves them
unfoldable pub either_damaged : Sketch → Sketch → ℕ → Bool
either_damaged S T k = damaged_at S k || damaged_at T k

unfoldable pub leaves : Bool → List ℤ → List ℤ → ℕ → Bool
leaves minus cs es k = leaves_at minus (get_or es k (pos 0)) cs k

unfoldable pub buckets_answer : Bool → Sketch → Sketch → Answer
buckets_answer minus S T =
    refuse_at (length S.counts) (either_damaged S T) Damage
    (refuse_at (length S.counts) (leaves minus S.counts T.counts) Range
    Done)

unfoldable pub combine_answer : Bool → Params → Params → Sketch → Sketch → Answer
combine_answer minus P Q S T =
    first (both_lent_answer P Q (length S.counts) (length S.idsums) (length T.counts) (length T.idsums))
    (buckets_answer minus S T)

-- bucket by bucket, idsums modulo p
unfoldable pub combined : Bool → Sketch → Sketch → Sketch
combined minus S T =
    sketch
    (map_from 0 (λ k x. plus_minus minus x (count_in T k)) S.counts)
    (map_from 0 (λ k x. residue prime (plus_minus minus (pos x) (pos (idsum_in T k)))) S.idsums)

-- S with T added, or taken away where `minus` holds: the answer, and the first sketch before and after
pub record Combined (minus : Bool) (P Q : Params) (S T : Sketch) (r : Answer) (S' : Sketch) : Type 0 where
  pub answer : r ≡ combine_answer minus P Q S T
  pub after : S' ≡ kept r S (combined minus S T)
