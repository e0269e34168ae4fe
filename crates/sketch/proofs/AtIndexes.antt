-- Packets by indexes: a call that was not refused changes the flow's buckets, whose indexes `index` gives for the arrays from 1 to d, and no other.
use mathlib.Core.Path.{◌≡◌, sym, ◌∙◌}
use mathlib.Core.Bool.{Bool, false}
use Prim.Native.Nat.{ℕ, ◌≤◌, ◌<◌}
use native.Mathlib.Omega.{arith}
use lib.IntN.{pos}
use lib.ListN.{length}
use Rattle.field.specs.Residue.{residue}
use Rattle.params.specs.declared.params.Params.{Params}
use Rattle.params.specs.Answers.{kept, Done}
use Rattle.params.specs.Params.{prime_of, size}
use Rattle.params.specs.Sketched.{sketched}
use Rattle.params.specs.Positions.{index, stands}
use Rattle.buckets.specs.Buckets.{plus_minus, weight}
use Rattle.sketch.specs.Sketch.{Sketch, count_in, idsum_in, changed_in}
use Rattle.sketch.specs.Packets.{changed, Moved}
use Rattle.params.proofs.Searches.{cannot_hold}
use Rattle.params.proofs.Changes.{get_d_touched, untouched}
use Rattle.params.proofs.Indexes.{bucket_below, stands_in_bucket, bucket_where_stands}
use Rattle.sketch.proofs.Steps.{Let, move_done, step_done}

-- n packets of f went in, or came out where `minus` holds
module _ {minus : Bool} {P : Params} {f n : ℕ} {S S' : Sketch} (h : Moved minus P f n S Done S') where
  let_in : Let P (length S.counts) (length S.idsums) f n
  let_in = (step_done P minus f n S (move_done P minus f n S (sym h.answer)).1).let_in

  changes : S' ≡ changed P minus f n S
  unfolding kept
  changes = h.after

  module _ (i : ℕ) (low : 1 ≤ i) (high : i ≤ P.d) where
    inside : index P i f < size P
    inside = bucket_below P i (sketched P f) let_in.dimensions low high

    pub count_at_index : count_in S' (index P i f) ≡ plus_minus minus (count_in S (index P i f)) (pos n)
    unfolding changed changed_in
    count_at_index =
        rw changes
        (get_d_touched (stands P f) (λ k x. plus_minus minus x (pos n)) S.counts (index P i f) (pos 0) (omega (arith, inside, let_in.counts))
        ∙ rw (stands_in_bucket P (sketched P f) i let_in.dimensions low high))

    pub idsum_at_index : idsum_in S' (index P i f) ≡ residue (prime_of P) (plus_minus minus (pos (idsum_in S (index P i f))) (pos (weight (sketched P f) n)))
    unfolding changed changed_in
    idsum_at_index =
        rw changes
        (get_d_touched (stands P f) (λ k x. residue (prime_of P) (plus_minus minus (pos x) (pos (weight (sketched P f) n)))) S.idsums (index P i f) 0 (omega (arith, inside, let_in.idsums))
        ∙ rw (stands_in_bucket P (sketched P f) i let_in.dimensions low high))

  module _ (k : ℕ) (bucket : k < size P) (other : (i : ℕ) → 1 ≤ i → i ≤ P.d → k ≡ index P i f → ⊥) where
    not_there : stands P f k ≡ false
    not_there = cannot_hold (stands P f k) (λ e. let w = bucket_where_stands P (sketched P f) k e in other w.0 w.1 w.2 w.3)

    pub count_elsewhere : count_in S' k ≡ count_in S k
    unfolding changed changed_in
    count_elsewhere = rw changes (untouched (stands P f) _ S.counts k (pos 0) (omega (arith, bucket, let_in.counts)) not_there)

    pub idsum_elsewhere : idsum_in S' k ≡ idsum_in S k
    unfolding changed changed_in
    idsum_elsewhere = rw changes (untouched (stands P f) _ S.idsums k 0 (omega (arith, bucket, let_in.idsums)) not_there)
