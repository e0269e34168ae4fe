-- `sketch::packets::put` meets its contract.
use mathlib.Core.Path.{◌≡◌, ap, ◌∙◌}
use lib.IntN.{pos}
use lib.ListN.{get_or, set}
use mir.Facts.{to_z-of_z}
use mir.Syntax.{w32}
use Rattle.field.proofs.Casts.{back}
use Rattle.buckets.specs.Buckets.{plus_minus}
use Rattle.buckets.proofs.Limits.{narrows, narrowed}
use Rattle.buckets.proofs.Idsums.{idsum_plus_minus_is}
use borrow.Author.Rules.{sfits_of}
use Rattle.sketch.proofs.packets.put.Goals as goal
use Rattle.sketch.proofs.packets.put.Goals.{After-plus_minus}

-- the new count, at the wide width
new : (c : After-plus_minus) → let a = c.args in c.plus_minus.result ≡ plus_minus a.minus (get_or a.counts.now a.j (pos 0)) a.n
new c = rw (back w32 _ c.plus_minus-arg-1.given, to_z-of_z c.ranges.n) at c.plus_minus.ensures

pub overflow_cast-counts : goal.overflow_cast-counts
overflow_cast-counts c = narrows (sfits_of c.plus_minus.type_inv) (new (goal.at.overflow_cast-counts c).After-plus_minus) c.requires.n_value

pub returns : goal.returns
returns c =
    let a = c.args in
    let below = c.requires.j_bound in record { counts_after = ap (set a.counts.now a.j) (narrowed (sfits_of c.plus_minus.type_inv) (new (goal.at.returns c).After-plus_minus) c.requires.n_value); idsums_after = ap (set a.idsums.now a.j) (c.idsum_plus_minus.ensures ∙ idsum_plus_minus_is a.minus _ _ below.0 below.1) }
