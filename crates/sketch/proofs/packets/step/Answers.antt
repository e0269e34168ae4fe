-- `sketch::packets::step` meets its contract: what is judged before a bucket is looked at, then the flow's buckets, then the update.
use mathlib.Core.Path.{refl, sym, ap, ◌∙◌}
use native.Mathlib.Omega.{arith}
use lib.ListN.{length}
use mir.Syntax.{w32}
use mir.ValLaws.{to_z_pos}
use borrow.Author.Rules.{rules}
use Rattle.field.proofs.Residues.{residue_below}
use Rattle.params.specs.Answers.{first, kept}
use Rattle.params.specs.Sketched.{sketched}
use Rattle.params.specs.Positions.{Positioned}
use Rattle.buckets.specs.Buckets.{weight}
use Rattle.params.proofs.BucketNumbers.{stretch_within}
use Rattle.params.proofs.Extended.{sketched_of}
use Rattle.params.proofs.Rules.{positions_found}
use Rattle.buckets.proofs.Idsums.{prime_pos}
use Rattle.sketch.specs.Packets.{step_answer, changed}
use Rattle.sketch.proofs.Steps.{Let, entry_done, reached, placed_answer, placed_change, has_room}
use Rattle.sketch.proofs.packets.step.Goals as goal
use Rattle.sketch.proofs.packets.step.Goals.{After-positions}

pub returns-in_err-entry : goal.returns-in_err-entry
unfolding step_answer first kept
returns-in_err-entry c = search rules

-- what was let in, and the positions of what is sketched for the flow
known : (c : After-positions) → let a = c.args in Let a.p (length a.counts.now) (length a.idsums.now) a.f a.n × Positioned a.p (sketched a.p a.f) c.positions.new.ks
known c =
    let a = c.args in
    let l = entry_done _ _ _ _ _ (sym c.in_ok-entry.ensures) in
    (l, rw (c.positions.ensures, sketched_of a.p a.f _ l.flow c.sketched-x.ensures) (positions_found _ _ _ l.dimensions refl))

pub overflow_cast-n : goal.overflow_cast-n
overflow_cast-n c = let l = entry_done _ _ _ _ _ (sym c.in_ok-entry.ensures) in record { sfits = omega (arith, l.high) }

pub judge-requires : goal.judge-requires
judge-requires c = let k = known (goal.at.judge-requires c).After-positions in reached k.0.dimensions k.0.counts k.0.idsums k.1

pub returns-in_err-judge : goal.returns-in_err-judge
unfolding step_answer first kept
returns-in_err-judge c =
    let k = known (goal.at.returns-in_err-judge c).After-positions in
    let e = placed_answer c.args.f k.1 c.args.minus _ c.args.n (to_z_pos w32 _ (omega (arith, k.0.high))) _ _ c.in_err-judge.ensures in
    search rules

pub overflow_cast-n-2 : goal.overflow_cast-n-2
overflow_cast-n-2 c = let l = entry_done _ _ _ _ _ (sym c.in_ok-entry.ensures) in record { sfits = omega (arith, l.high) }

pub put_all-requires : goal.put_all-requires
put_all-requires c =
    let k = known (goal.at.put_all-requires c).After-positions in
    let r = reached k.0.dimensions k.0.counts k.0.idsums k.1 in
    let done = sym c.in_ok-judge.ensures in
    record {
      within_arrays = r;
      by_index = λ i h. (has_room _ _ _ _ _ _ done i h (r.inside i h) (stretch_within _ _ i h)).0;
      by_index_2 = ((λ i h. (has_room _ _ _ _ _ _ done i h (r.inside i h) (stretch_within _ _ i h)).1), rw c.weight.ensures (residue_below _ prime_pos _));
    }

pub returns : goal.returns
unfolding step_answer changed first kept
returns c =
    let a = c.args in
    let k = known (goal.at.returns c).After-positions in
    let n = to_z_pos w32 a.n (omega (arith, k.0.high)) in
    let e = placed_answer a.f k.1 a.minus _ a.n n _ _ c.in_ok-judge.ensures in
    let s = placed_change a.f k.1 a.minus _ a.n n _ _ _ _ (c.weight.ensures ∙ ap (λ x. weight x a.n) (sketched_of _ _ _ k.0.flow c.sketched-x.ensures)) c.put_all.ensures in
    search rules
