-- An array's own stretch of the counts or of the idsums.
use Rattle.std.specs.Prelude.{◌≡◌, not, ◌&&◌, List, [], ℕ, ◌+◌, ◌-◌, ◌*◌, leb, eqb, length, take, drop, Err}
use Rattle.params.specs.declared.params.Params.{Params}
use Rattle.params.specs.declared.answers.Refusal.TheVariants.{Param, Length}
use Rattle.params.specs.Answers.{refuse_if, Answer, Done}
use Rattle.params.specs.Params.{size, good_params}

-- array i of a slice of this length
unfoldable pub array_answer : Params → ℕ → ℕ → Answer
array_answer P i n =
    refuse_if (not (good_params P && (leb 1 i && leb i P.d))) Param 0
    (refuse_if (not (eqb n (size P))) Length 0
    Done)

-- the stretch of array i, or an empty one where it is refused
unfoldable pub stretch : {A : Type 0} → Answer → Params → ℕ → List A → List A
stretch Done P i xs = take P.m (drop ((i - 1) * P.m) xs)
stretch (Err r) P i xs = []

-- how many numbers of the slice stand before it
unfoldable pub stretch_start : Answer → Params → ℕ → ℕ
stretch_start Done P i = (i - 1) * P.m
stretch_start (Err r) P i = 0

-- array i of a slice of numbers of so many bytes each, which is at `whole` and has the content xs, is lent on: the stretch is at `part` and
-- has the content ys. A place in memory is a block and an offset in it.
pub record Lent {A : Type 0} (bytes : ℕ) (P : Params) (i : ℕ) (whole : ℕ × ℕ) (xs : List A) (part : ℕ × ℕ) (ys : List A) : Type 0 where
  pub content : ys ≡ stretch (array_answer P i (length xs)) P i xs
  pub block : part.0 ≡ whole.0
  pub offset : part.1 ≡ whole.1 + bytes * stretch_start (array_answer P i (length xs)) P i
