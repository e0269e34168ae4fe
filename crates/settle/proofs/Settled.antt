-- Laws of settling: the stages of its answer, and what is settled where nothing is refused.
use mathlib.Core.Path.{◌≡◌, sym, ap, ap₂, ◌∙◌}
use mathlib.Core.Bool.{true}
use Prim.Native.Nat.{ℕ, ◌*◌, ◌≤◌}
use native.Mathlib.Omega.{arith}
use lib.ListN.{length}
use Rattle.params.specs.declared.params.Params.{Params}
use Rattle.params.specs.declared.answers.Refusal.TheVariants.{Damage}
use Rattle.params.specs.Answers.{Answer, Done, Given}
use Rattle.params.specs.Params.{size}
use Rattle.params.proofs.Judging.{first_passed, first_done, kept_new, refuse_none}
use Rattle.params.proofs.Rules.{dimensions_small}
use Rattle.sketch.specs.Sketch.{Sketch, damaged_at}
use Rattle.sums.proofs.TwoSketches.{combined_long, combined_undamaged}
use Rattle.sums.specs.Sums.{combine_answer, combined}
use Rattle.peel.specs.Slices.{Slices, lent_sketch}
use Rattle.peel.specs.Peel.{walk_lent_answer, peel_answer, unless_refused, judged, peel_returns, Peels}
use Rattle.peel.proofs.Judged.{lent_passed}
use Rattle.settle.specs.Settling.{settle_answer, settle_judged, less_downstream, Settles}
use Rattle.peel.specs.declared.peeling.Figures.{Figures}

module _ (P : Params) (S T : Sketch) (flows numbers queue marks : ℕ) where
  abbrev lengths : Answer
  lengths = walk_lent_answer P (length S.counts) (length S.idsums) flows numbers queue marks

  abbrev settling : Answer
  settling = settle_answer P S T flows numbers queue marks

  -- the stages of settling: the lengths, then the difference
  pub lent_first : (r : Answer) → lengths ≡ Done → r ≡ combine_answer true P P S T → r ≡ settling
  unfolding settle_answer
  lent_first r e h = h ∙ sym (first_passed _ _ e)

  -- where it refuses nothing, peeling the difference refuses nothing
  module _ (done : settling ≡ Done) where
    both : (lengths ≡ Done) × (combine_answer true P P S T ≡ Done)
    unfolding settle_answer
    both = first_done _ _ done

    pub settled_small : size P ≤ 65536
    settled_small = dimensions_small (lent_passed P flows numbers queue marks _ _ both.0).0

    settled_peels : peel_answer P (combined true S T) flows numbers queue marks ≡ Done
    unfolding peel_answer
    settled_peels =
        let long = (lent_passed P flows numbers queue marks _ _ both.0).1 in
        first_passed _ _ (ap₂ (λ (c s : ℕ). walk_lent_answer P c s flows numbers queue marks) (combined_long true S T).0 (combined_long true S T).1 ∙ both.0)
        ∙ refuse_none (size P) (damaged_at (combined true S T)) Damage Done (λ k l. combined_undamaged true S T P P both.1 k (omega (arith, long.0)))

module _ (P : Params) (T : Sketch) (L : Slices) where
  abbrev verdict : Answer
  verdict = settle_judged P T L

  -- where nothing is refused, what is settled is the difference peeled, and all that is promised of peeling holds of it
  pub settled_is_peeled : {x : Given Figures} {L' : Slices} → verdict ≡ Done → Settles P T L x L' → Peels P (8 * size P) (less_downstream P T L) x L'
  settled_is_peeled done s =
      record {
        answer = s.answer ∙ ap (λ (x : Answer). unless_refused x (peel_returns P (8 * size P) (less_downstream P T L))) done;
        after = s.after ∙ sym (kept_new verdict L _ done);
      }

  -- and peeling it refuses nothing
  pub settled_ends : verdict ≡ Done → judged P (less_downstream P T L) ≡ Done
  settled_ends done = settled_peels P (lent_sketch L) T (length L.flows) (length L.numbers) (length L.queue) (length L.marks) done
