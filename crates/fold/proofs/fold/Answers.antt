-- `fold::fold` meets its contract: a refusal alters nothing, and where nothing is refused the folded sketch stands in front, with zeros behind it.
use mathlib.Core.Path.{sym, ap, ap₂, ◌∙◌}
use native.Mathlib.Omega.{arith}
use borrow.Author.Rules.{rules}
use lib.IntN.{pos}
use Rattle.params.specs.Lists.{map_from}
use Rattle.params.specs.Answers.{kept}
use Rattle.params.proofs.Changes.{length_touched}
use Rattle.sketch.specs.Sketch.{sketch}
use Rattle.fold.specs.Fold.{folded, in_slices}
use Rattle.fold.proofs.Turns.{few_buckets, fewer_buckets}
use Rattle.fold.proofs.Zeroing.{front_and_zeros}
use Rattle.fold.proofs.Accepting.{accepted}
use Rattle.fold.proofs.fold.Goals as goal

pub returns-in_err-judge : goal.returns-in_err-judge
unfolding kept
returns-in_err-judge c = search rules

pub gather-requires : goal.gather-requires
gather-requires c = let d = accepted _ _ _ (sym c.in_ok-judge.ensures) in record { foldable = d.asked; by_index = d.stays }

pub overflow_mul-p : goal.overflow_mul-p
overflow_mul-p c = let h = (accepted _ _ _ (sym c.in_ok-judge.ensures)).asked in omega (arith, fewer_buckets h, few_buckets h)

pub clear_rest-requires : goal.clear_rest-requires
clear_rest-requires c =
    let h = (accepted _ _ _ (sym c.in_ok-judge.ensures)).asked in
    grind (arith, length_touched, h.counts_long, h.idsums_long, fewer_buckets h)

pub returns : goal.returns
unfolding folded in_slices kept
returns c =
    let h = (accepted _ _ _ (sym c.in_ok-judge.ensures)).asked in
    let few = rw h.counts_long at (fewer_buckets h) in
    let counts = front_and_zeros (pos 0) _ _ _ _ h.counts_long few in
    let idsums = front_and_zeros 0 _ _ _ _ h.idsums_long few in
    record {
      answer = rw (c.resized.ensures, ← c.in_ok-judge.ensures);
      after =
          ap₂ sketch
          (c.clear_rest.ensures.counts_after ∙ ap (map_from 0 _) c.gather.ensures.counts_after ∙ counts)
          (c.clear_rest.ensures.idsums_after ∙ ap (map_from 0 _) c.gather.ensures.idsums_after ∙ idsums);
    }
