-- Laws of an array's own stretch of a slice.
use mathlib.Core.Path.{◌≡◌, refl, sym}
use mathlib.Core.Bool.{true, false, not, ◌&&◌}
use mathlib.Core.List.{List, []}
use Prim.Native.Nat.{ℕ, ◌+◌, ◌-◌, ◌*◌}
use native.Mathlib.Omega.{arith}
use native.Mathlib.Nat.{mul_comm}
use borrow.Author.Tests.{not-false, eqb-true}
use lib.Dec.{leb, eqb}
use lib.ListN.{length, take, drop}
use Rattle.params.specs.declared.params.Params.{Params}
use Rattle.params.specs.declared.answers.Refusal.TheVariants.{Param, Length}
use Rattle.params.specs.Answers.{Answer, Done}
use Rattle.params.specs.Params.{size, good_params}
use Rattle.sketch.specs.Arrays.{array_answer, stretch, stretch_start, Lent}
use Rattle.params.proofs.Judging.{refuse_done}
use Rattle.params.proofs.Rules.{Asked, asked}
use Rattle.std.specs.Prelude.{Err, is_err}

-- what is lent where the answer is a refusal, and where it is not
module _ {A : Type 0} {P : Params} {i bytes : ℕ} {whole : ℕ × ℕ} {xs : List A} where
  pub refused_stretch : (r : Answer) → r ≡ array_answer P i (length xs) → true ≡ is_err r → Lent bytes P i whole xs whole []
  unfolding stretch stretch_start
  refused_stretch Done e h = cc
  refused_stretch (Err r) e h = record { content = rw (← e) refl; block = refl; offset = rw (← e) (omega arith) }

  pub done_stretch : (r : Answer) → r ≡ array_answer P i (length xs) → false ≡ is_err r
      → Lent bytes P i whole xs (whole.0, (i - 1) * P.m * bytes + whole.1) (take ((i - 1) * P.m + P.m - (i - 1) * P.m) (drop ((i - 1) * P.m) xs))
  unfolding stretch stretch_start
  done_stretch Done e h =
      let long : (i - 1) * P.m + P.m - (i - 1) * P.m ≡ P.m = omega arith in
      record { content = rw (← e, long) refl; block = refl; offset = rw (← e) (omega (arith, mul_comm ((i - 1) * P.m) bytes)) }
  done_stretch (Err r) e h = cc

pub array_done : (P : Params) (i n : ℕ) (r : Answer) → r ≡ array_answer P i n → false ≡ is_err r → Asked P i × (n ≡ size P)
unfolding array_answer
array_done P i n Done e h =
    let t = refuse_done (not (good_params P && (leb 1 i && leb i P.d))) Param 0 _ (sym e) in
    (asked P i t.0, eqb-true _ _ (not-false _ (refuse_done (not (eqb n (size P))) Length 0 _ t.1).0))
array_done P i n (Err r) e h = cc
