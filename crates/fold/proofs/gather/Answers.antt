-- `fold::gather` meets its contract. The loops' invariants: the buckets passed are those of the folded sketch, and no other has changed.
use native.Mathlib.Nat.{zero-mul}
use native.Mathlib.Omega.{arith}
use mathlib.Core.Path.{◌≡◌, refl, sym, ap, ◌∙◌}
use Prim.Native.Nat.{◌+◌, ◌*◌}
use mathlib.Core.Bool.{true}
use lib.IntN.{pos}
use Rattle.field.specs.Residue.{residue}
use Rattle.field.proofs.Residues.{residue_pos}
use Rattle.params.specs.Params.{prime}
use Rattle.params.proofs.Changes.{each_none, store_next}
use Rattle.std.proofs.lemmas.Int.{ints, to_z-of_z}
use Rattle.std.proofs.lemmas.Bool.Decides.{nat_tests}
use Rattle.buckets.specs.Buckets.{in_limits}
use Rattle.buckets.proofs.Idsums.{prime_pos}
use Rattle.fold.specs.Fold.{whole_count, whole_idsum}
use Rattle.fold.proofs.Turns.{bucket_inside, whole_count_lem, whole_idsum_lem, unspoilt}
use Rattle.fold.proofs.gather.Goals as goal
use Rattle.fold.proofs.gather.Goals.{After-sum_of-sums}

pub loop-i-init : goal.loop-i-init
loop-i-init c = (rw (zero-mul c.args.m2) (each_none (pos 0) _ _), rw (zero-mul c.args.m2) (each_none 0 _ _))

-- the sums of this turn are the whole sums, though the buckets before have changed
count_is : (c : After-sum_of-sums) → let a = c.args in
    c.sum_of-sums.result.count ≡ whole_count a.d a.m a.m2 a.counts.now (c.loop-i.i * a.m2 + c.loop-j.j)
count_is c =
    let h = c.requires.foldable in
    c.sum_of-sums.ensures.count_value
    ∙ unspoilt h c.loop-i-test.true c.loop-j-test.true (pos 0) _ (λ z. z) c.args.counts.now refl _ c.loop-j.invariant.0
    ∙ whole_count_lem h c.loop-i-test.true c.loop-j-test.true c.args.counts.now

idsum_is : (c : After-sum_of-sums) → let a = c.args in
    pos c.sum_of-sums.result.idsum ≡ whole_idsum a.d a.m a.m2 a.idsums.now (c.loop-i.i * a.m2 + c.loop-j.j)
idsum_is c =
    let h = c.requires.foldable in
    c.sum_of-sums.ensures.idsum_value
    ∙ unspoilt h c.loop-i-test.true c.loop-j-test.true 0 _ pos c.args.idsums.now (h.idsums_long ∙ sym h.counts_long) _ c.loop-j.invariant.1
    ∙ whole_idsum_lem h c.loop-i-test.true c.loop-j-test.true c.args.idsums.now

-- and the count stays within its limits
stays : (c : After-sum_of-sums) → let a = c.args in
    in_limits (whole_count a.d a.m a.m2 a.counts.now (c.loop-i.i * a.m2 + c.loop-j.j)) ≡ true
stays c = c.requires.by_index _ (bucket_inside c.requires.foldable c.loop-i-test.true c.loop-j-test.true)

pub overflow_cast-counts : goal.overflow_cast-counts
unfolding in_limits
overflow_cast-counts c = let s = (goal.at.overflow_cast-counts c).After-sum_of-sums in grind (arith, ints, to_z-of_z, nat_tests, count_is s, stays s)

pub loop-j-preserved : goal.loop-j-preserved
unfolding in_limits
loop-j-preserved c =
    let s = (goal.at.loop-j-preserved c).After-sum_of-sums in
    let next : c.loop-i.i * c.args.m2 + (c.loop-j.j + 1) ≡ c.loop-i.i * c.args.m2 + c.loop-j.j + 1 = omega arith in (
      rw next (store_next (pos 0) _ _ _ _ c.loop-j.invariant.0 (grind (arith, ints, to_z-of_z, nat_tests, count_is s, stays s))),
      rw next (store_next 0 _ _ _ _ c.loop-j.invariant.1 (sym (residue_pos prime prime_pos c.sum_of-sums.result.idsum) ∙ ap (residue prime) (idsum_is s))),
    )
