-- `fold::clear_rest` meets its contract.
use native.Mathlib.Omega.{arith}
use lib.IntN.{pos}
use Rattle.fold.proofs.Zeroing.{zeroed_tail}
use Rattle.fold.proofs.clear_rest.Goals as goal

pub returns-clause-counts_after : goal.returns-clause-counts_after
returns-clause-counts_after c = zeroed_tail (pos 0) _ _ c.requires.1 _ (c.fill.ensures.after (λ y e. e))

pub returns-clause-idsums_after : goal.returns-clause-idsums_after
returns-clause-idsums_after c = zeroed_tail 0 _ _ (omega arith) _ (c.fill-2.ensures.after (λ y e. e))
