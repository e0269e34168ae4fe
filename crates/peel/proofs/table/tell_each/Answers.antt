-- `peel::table::tell_each` meets its contract. The invariant: the slots passed are told, the others as they were.
use mathlib.Core.Path.{◌≡◌, sym, ap, ◌∙◌}
use Prim.Native.Nat.{ℕ, ◌/◌, ◌<◌}
use native.Mathlib.Omega.{arith}
use lib.ListN.{length, drop, get_or-append}
use Rattle.std.proofs.lemmas.List.{take-append-drop, length-take, set-append_left}
use Rattle.params.proofs.Changes.{each_none, each_old, each_next}
use Rattle.peel.proofs.table.tell_each.Goals as goal

pub loop-x-init : goal.loop-x-init
loop-x-init c = take-append-drop _ _ ∙ each_none 0 _ _

pub loop-x-preserved : goal.loop-x-preserved
loop-x-preserved c =
    let l = c.loop-x in
    let long = length-take c.args.n c.args.flows.now in
    let inside : l.x-index < length c.args.flows.now = omega arith in
    let rest = drop c.args.n c.args.flows.now in
    let here = get_or-append l.x-items rest 0 l.x-index (omega arith) in
    sym (set-append_left l.x-items rest l.x-index _ (omega arith)) ∙ each_next 0 _ _ l.x-index _ _ inside l.invariant (ap (λ (x : ℕ). x / 256) (sym here ∙ each_old 0 _ _ l.x-index _ inside l.invariant))

pub returns : goal.returns
returns c =
    let long = length-take c.args.n c.args.flows.now in
    let end : c.loop-x.x-index ≡ c.args.n = omega arith in
    rw end at c.loop-x.invariant
