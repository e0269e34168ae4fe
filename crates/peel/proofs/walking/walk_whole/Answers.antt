-- `peel::walking::walk_whole` meets its contract: the start makes the definition's first state.
use Rattle.walk.specs.Walk.{walk}
use Rattle.peel.specs.Slices.{slices}
use Rattle.peel.proofs.Begins.{begins}
use Rattle.peel.proofs.walking.walk_whole.Goals as goal

pub returns : goal.returns
unfolding walk
returns c =
    let a = c.args in
    let s = c.start-waiting in
    let e = begins (slices a.counts.now a.idsums.now a.flows.now a.numbers.now s.new.queue s.new.marks) s.result s.ensures.list in
    rw (← e) c.walk.ensures
