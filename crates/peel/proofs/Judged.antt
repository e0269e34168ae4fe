-- Laws of what peeling judges: the stages of its answer, and what holds where nothing is refused.
use mathlib.Core.Path.{◌≡◌, sym, ◌∙◌}
use mathlib.Core.Bool.{true}
use Prim.Native.Nat.{ℕ, ◌*◌, ◌≤◌, ◌<◌}
use native.Mathlib.Decide.{dec_lt}
use native.Mathlib.Omega.{arith}
use borrow.Author.Tests.{eq-eqb, le-leb, not-false}
use borrow.Author.Rules.{rules}
use lib.IntN.{pos}
use lib.ListN.{length, get_or-eq_default}
use Rattle.params.specs.declared.params.Params.{Params}
use Rattle.params.specs.declared.answers.Refusal.TheVariants.{Length, Damage}
use Rattle.params.specs.Params.{prime, size, Dimensions, lent_answer}
use Rattle.buckets.specs.Buckets.{in_limits}
use Rattle.sketch.specs.Sketch.{Sketch, count_in, idsum_in}
use Rattle.params.proofs.Judging.{first_passed, first_done, refuse_done, refuse_at_done}
use Rattle.params.proofs.Rules.{lent_done}
use Rattle.sketch.proofs.Whole.{Whole}
use Rattle.peel.specs.Slices.{Slices, lent_sketch}
use Rattle.peel.specs.Rep.{Peelable}
use Rattle.peel.specs.Peel.{walk_lent_answer, peel_answer, judged}
use Rattle.params.specs.Answers.{Done}

-- the lengths of all that is lent beside the sketch
pub record Lent (P : Params) (flows numbers queue marks : ℕ) : Type 0 where
  pub queue_long : queue ≡ P.d * P.m
  pub marks_long : marks ≡ P.d * P.m
  pub same : flows ≡ numbers
  pub few : flows ≤ 65536

module _ (P : Params) (flows numbers queue marks counts idsums : ℕ) where
  pub well_lent : lent_answer P counts idsums ≡ Done → Lent P flows numbers queue marks → Done ≡ walk_lent_answer P counts idsums flows numbers queue marks
  unfolding walk_lent_answer
  well_lent e l = sym (first_passed _ _ e ∙ rw (eq-eqb queue (size P) l.queue_long, eq-eqb marks (size P) l.marks_long, eq-eqb flows numbers l.same, le-leb flows 65536 l.few))

  pub lent_passed : walk_lent_answer P counts idsums flows numbers queue marks ≡ Done → Dimensions P × ((counts ≡ size P) × (idsums ≡ size P)) × Lent P flows numbers queue marks
  unfolding walk_lent_answer
  lent_passed e =
      let h = first_done (lent_answer P counts idsums) _ e in
      let k = lent_done P counts idsums h.0 in
      let lent = not-false _ (refuse_done _ Length 0 Done h.1).0 in (
        k.0,
        (k.1, k.2),
        record {
          queue_long = search rules;
          marks_long = search rules;
          same = search rules;
          few = search rules;
        },
      )

-- a bucket that is not damaged is within its limits, and so is what stands past the end
module _ {P : Params} {S : Sketch} (w : Whole P S) where
  count_within : (k : ℕ) → Dec (k < size P) → in_limits (count_in S k) ≡ true
  unfolding in_limits
  count_within k (yes h) = let d = w.undamaged k h in search rules
  count_within k (no h) = rw (get_or-eq_default S.counts (pos 0) {n = k} (omega (arith, w.counts_long)))

  idsum_within : (k : ℕ) → Dec (k < size P) → idsum_in S k < prime
  idsum_within k (yes h) = let d = w.undamaged k h in search rules
  idsum_within k (no h) = rw (get_or-eq_default S.idsums 0 {n = k} (omega (arith, w.idsums_long))) (omega arith)

-- where nothing is refused
passed : (P : Params) (L : Slices) → judged P L ≡ Done → Dimensions P × Whole P (lent_sketch L) × Lent P (length L.flows) (length L.numbers) (length L.queue) (length L.marks)
unfolding peel_answer
passed P L e =
    let h = first_done (walk_lent_answer P _ _ _ _ _ _) _ e in
    let k = lent_passed P _ _ _ _ _ _ h.0 in
    (k.0, record { counts_long = k.1.0; idsums_long = k.1.1; undamaged = (refuse_at_done (size P) _ Damage Done h.1).0 }, k.2)

pub judged_whole : (P : Params) (L : Slices) → judged P L ≡ Done → Whole P (lent_sketch L)
judged_whole P L e = (passed P L e).1

pub judged_peelable : (P : Params) (L : Slices) → judged P L ≡ Done → Peelable P L
judged_peelable P L e =
    let h = passed P L e in
    let w = h.1 in
    let l = h.2 in
    record {
      dimensions = h.0;
      sane = record {
        long = w.counts_long;
        long_ids = w.idsums_long;
        counts = λ k. count_within w k (dec_lt k (size P));
        idsums = λ k. idsum_within w k (dec_lt k (size P));
      };
      slots = sym l.same;
      few_slots = l.few;
      long = l.queue_long;
      long_marks = l.marks_long;
    }
