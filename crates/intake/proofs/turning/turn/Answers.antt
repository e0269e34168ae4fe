-- `intake::turning::turn` meets its contract: what is held is fed, and the rest is moved.
use Rattle.sketch.specs.Sketch.{sketch}
use Rattle.intake.proofs.OneTurn.{turn_is}
use Rattle.intake.proofs.turning.turn.Goals as goal

pub returns : goal.returns
returns c =
    let a = c.args in
    turn_is
    {P = a.p}
    {bs = a.buf.now}
    {end = c.min-end.result}
    {up = sketch a.up_counts.now a.up_idsums.now}
    {down = sketch a.down_counts.now a.down_idsums.now}
    {s = a.s}
    {r = c.feed-fed.result}
    c.min-end.ensures
    c.feed-fed.ensures
    c.to_front.ensures
