-- `peel::take::take_one` meets its contract.
use mathlib.Core.Path.{◌≡◌, ap, ◌∙◌}
use mathlib.Core.Bool.{true}
use Prim.Native.Nat.{◌+◌}
use native.Mathlib.Omega.{arith}
use lib.IntN.{pos, ◌-ℤ◌}
use lib.ListN.{get_or, set}
use Rattle.std.proofs.lemmas.Int.{ints, to_z-of_z}
use borrow.Author.Rules.{rules}
use Rattle.buckets.proofs.Idsums.{idsum_plus_minus_is}
use Rattle.buckets.proofs.Limits.{limits_fit}
use Rattle.peel.specs.Nonzero.{nonzero_buckets}
use Rattle.peel.proofs.Nonzero.{one_most, nonzero_most, nonzero_set}
use Rattle.peel.proofs.take.take_one.Goals as goal
use Rattle.peel.proofs.take.take_one.Goals.{After-one_if_nonzero-2}

pub overflow_sub-v : goal.overflow_sub-v
overflow_sub-v c = let l = limits_fit _ c.requires.limits in search rules

pub overflow_add-result : goal.overflow_add-result
overflow_add-result c = grind (arith, one_most, nonzero_most)

-- how many buckets are not all zero, with what the bucket counts after and counted before
counted : (c : After-one_if_nonzero-2) → nonzero_buckets (set c.args.counts.now c.args.j (get_or c.args.counts.now c.args.j (pos 0) -ℤ c.args.c)) (set c.args.idsums.now c.args.j c.idsum_plus_minus-w.result) + c.one_if_nonzero-2.result ≡ nonzero_buckets c.args.counts.now c.args.idsums.now + c.one_if_nonzero.result
counted c =
    let l = limits_fit _ c.requires.limits in
    let n = nonzero_set c.args.counts.now c.args.idsums.now c.args.j (get_or c.args.counts.now c.args.j (pos 0) -ℤ c.args.c) c.idsum_plus_minus-w.result c.requires.inside c.requires.inside_ids in
    grind (arith, ints, to_z-of_z)

pub overflow_sub-result : goal.overflow_sub-result
overflow_sub-result c = omega (arith, counted (goal.at.overflow_sub-result c).After-one_if_nonzero-2)

pub returns : goal.returns
returns c =
    let fits = limits_fit _ c.requires.limits in
    record {
      counts = search rules;
      idsums = ap (set c.args.idsums.now c.args.j) (c.idsum_plus_minus-w.ensures ∙ idsum_plus_minus_is true _ _ c.requires.idsum c.requires.small);
      counted = let n = counted (goal.at.returns c).After-one_if_nonzero-2 in grind (arith, ints, to_z-of_z);
    }
