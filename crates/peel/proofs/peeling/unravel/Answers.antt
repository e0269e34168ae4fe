-- `peel::peeling::unravel` meets its contract: the walk, the close, the flows told, and the queue and the marks cleared.
use mathlib.Core.Path.{ap, ◌∙◌}
use mathlib.Core.List.{map}
use Prim.Native.Nat.{◌≤◌}
use native.Mathlib.Omega.{arith}
use lib.ListN.{length}
use borrow.Author.Rules.{rules}
use Rattle.walk.specs.Walk.{Outcome, close, lost_of, extra_of}
use Rattle.walk.specs.Shown.{tell}
use Rattle.peel.proofs.Clearing.{all_cleared}
use Rattle.peel.proofs.Telling.{told_long, told_table, told_past}
use Rattle.peel.proofs.peeling.unravel.Goals as goal

pub returns : goal.returns
returns c =
    let w = c.walk_whole-walked in
    let l = c.close-listed.ensures in
    let told = c.tell.ensures in
    let e = w.ensures.outcome in
    let r = c.close-listed.result.entries in
    let inside : r ≤ length c.close-listed.new.flows = omega (arith, l.within, w.ensures.room, l.long, w.auto.flows) in
    record {
      ending = ap (λ (o : Outcome). o.ending) e;
      pops = ap (λ (o : Outcome). o.pops) e;
      lost = l.lost ∙ ap lost_of e;
      extra = l.extra ∙ ap extra_of e;
      remainder = ap (λ (o : Outcome). o.remainder) e;
      table = rw told (told_table _ r _ _ inside ∙ ap (map (tell _)) (l.table ∙ ap (λ (o : Outcome). close o.table) e));
      room = omega (arith, inside, ap length told ∙ told_long _ r _);
      past = λ k u. rw told (told_past _ r _ k u (l.past k u));
      past_numbers = l.past_numbers;
      queue = λ j. all_cleared c.fill.new.self _ j (c.fill.ensures.after (search rules));
      marks = λ j. all_cleared c.fill-2.new.self _ j (c.fill-2.ensures.after (search rules));
    }
