-- A sketch, what may be done with its buckets, and the sketch of a list of entries.
use Rattle.std.specs.Prelude.{Bool, not, cond, ◌&&◌, ◌≡◌, List, [], ◌∷◌, ℕ, ℤ, pos, ◌+ℤ◌, ◌*ℤ◌, get_or, length, replicate}
use Rattle.field.specs.Residue.{residue}
use Rattle.params.specs.declared.params.Params.{Params}
use Rattle.params.specs.declared.answers.Refusal.TheVariants.{Damage, Range}
use Rattle.params.specs.Lists.{touched, from}
use Rattle.params.specs.Answers.{refuse_at, kept, Answer, Done}
use Rattle.params.specs.Params.{prime, prime_of, size, lent_answer}
use Rattle.params.specs.Sketched.{sketched}
use Rattle.params.specs.Positions.{stands}
use Rattle.buckets.specs.Buckets.{in_limits, damaged_of, is_small, plus_minus}

pub record Sketch : Type 0 where
  pub counts : List ℤ
  pub idsums : List ℕ

abbrev pub sketch : List ℤ → List ℕ → Sketch
sketch cs ss = record { counts = cs; idsums = ss }

-- the count and the idsum of bucket k
abbrev pub count_in : Sketch → ℕ → ℤ
count_in S k = get_or S.counts k (pos 0)

abbrev pub idsum_in : Sketch → ℕ → ℕ
idsum_in S k = get_or S.idsums k 0

-- bucket k is outside its limits; n more, or n less, would bring its count outside
abbrev pub damaged_at : Sketch → ℕ → Bool
damaged_at S = damaged_of S.counts S.idsums

abbrev pub leaves_at : Bool → ℤ → List ℤ → ℕ → Bool
leaves_at minus n cs k = not (in_limits (plus_minus minus (get_or cs k (pos 0)) n))

-- bucket k is small
abbrev pub small_at : Sketch → ℕ → Bool
small_at S k = is_small (count_in S k) (idsum_in S k)

-- a list of (flow, signed number) entries
pub record Entry : Type 0 where
  pub flow : ℕ
  pub number : ℤ

abbrev pub by : ℕ → ℤ → Entry
by f z = record { flow = f; number = z }

-- the sum of the numbers of all entries whose flow stands in bucket k, and of number times what is sketched for the flow over them
unfoldable pub count_at : Params → List Entry → ℕ → ℤ
count_at P [] k = pos 0
count_at P (e ∷ es) k = cond (stands P e.flow k) e.number (pos 0) +ℤ count_at P es k

unfoldable pub weight_at : Params → List Entry → ℕ → ℤ
weight_at P [] k = pos 0
weight_at P (e ∷ es) k = cond (stands P e.flow k) (e.number *ℤ pos (sketched P e.flow)) (pos 0) +ℤ weight_at P es k

-- the sketch of a list of entries
unfoldable pub sketch_of : Params → List Entry → Sketch
sketch_of P es =
    sketch (from 0 (size P) (count_at P es)) (from 0 (size P) (λ k. residue (prime_of P) (weight_at P es k)))

-- a fresh sketch: zeros everywhere
unfoldable pub zeros : Params → Sketch
zeros P = sketch (replicate (size P) (pos 0)) (replicate (size P) 0)

pub record Freshened (P : Params) (S : Sketch) (r : Answer) (S' : Sketch) : Type 0 where
  pub answer : r ≡ lent_answer P (length S.counts) (length S.idsums)
  pub after : S' ≡ kept r S (zeros P)

-- Below, `on` tells which buckets are meant.

-- one of them is outside its limits; n more, or n less, would bring the count of one outside
unfoldable pub damaged_in : (ℕ → Bool) → Sketch → ℕ → Bool
damaged_in on S k = on k && damaged_at S k

unfoldable pub leaves_in : (ℕ → Bool) → Bool → ℤ → List ℤ → ℕ → Bool
leaves_in on minus n cs k = on k && leaves_at minus n cs k

-- what is refused of them, in a sketch of N buckets
unfoldable pub flow_buckets_answer : ℕ → (ℕ → Bool) → Bool → ℤ → Sketch → Answer
flow_buckets_answer N on minus n S =
    refuse_at N (damaged_in on S) Damage
    (refuse_at N (leaves_in on minus n S.counts) Range
    Done)

-- n added to their counts and w to their idsums, or taken away
unfoldable pub changed_in : (ℕ → Bool) → Bool → ℤ → ℕ → Sketch → Sketch
changed_in on minus n w S =
    sketch
    (touched on (λ k x. plus_minus minus x n) S.counts)
    (touched on (λ k x. residue prime (plus_minus minus (pos x) (pos w))) S.idsums)
