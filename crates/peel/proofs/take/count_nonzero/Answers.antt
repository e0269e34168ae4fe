-- `peel::take::count_nonzero` meets its contract. The invariant: what is counted and what is still to be counted make the whole number.
use mathlib.Core.Path.{◌≡◌}
use Prim.Native.Nat.{◌+◌}
use native.Mathlib.Omega.{arith}
use lib.IntN.{pos}
use lib.ListN.{length, drop}
use borrow.Author.Rules.{rules}
use Rattle.std.proofs.lemmas.Slice.Zip.{zip_turn, zip_end}
use Rattle.std.proofs.lemmas.List.{length_push}
use Rattle.std.proofs.lemmas.Int.{to_z-of_z}
use Rattle.peel.specs.Nonzero.{nonzero_buckets}
use Rattle.peel.proofs.Nonzero.{nonzero_most, nonzero_step, nonzero_all}
use Rattle.peel.proofs.take.count_nonzero.Goals as goal
use Rattle.peel.proofs.take.count_nonzero.Goals.{After-one_if_nonzero-nonzero}

-- what is still to be counted before a turn, and after it
turn : (c : After-one_if_nonzero-nonzero) → let n = length c.loop-c.yielded in
    nonzero_buckets (drop n c.args.counts.now) (drop n c.args.idsums.now) ≡ c.one_if_nonzero-nonzero.result + nonzero_buckets (drop (n + 1) c.args.counts.now) (drop (n + 1) c.args.idsums.now)
turn c =
    let t = zip_turn c.args.counts.now c.args.idsums.now c.loop-c.yielded _ _ c.next.new.self _ (search rules) (search rules) c.loop-c.yielded_by (c.in-Some.c, c.in-Some.s) c.in-Some.is c.next.ensures.steps in
    grind (arith, to_z-of_z, nonzero_step c.args.counts.now c.args.idsums.now (length c.loop-c.yielded) t.0 t.1, t.2 (pos 0), t.3 0)

pub overflow_add-nonzero : goal.overflow_add-nonzero
overflow_add-nonzero c = omega (arith, turn c, nonzero_most c.args.counts.now c.args.idsums.now)

pub loop-c-preserved : goal.loop-c-preserved
loop-c-preserved c = rw length_push (omega (arith, turn c))

pub returns : goal.returns
returns c =
    let e = zip_end c.args.counts.now c.args.idsums.now c.loop-c.yielded _ _ c.next.new.self _ (search rules) (search rules) c.loop-c.yielded_by c.in-None.is c.next.ensures.steps in
    omega (arith, nonzero_all c.args.counts.now c.args.idsums.now (length c.loop-c.yielded) (omega arith))
