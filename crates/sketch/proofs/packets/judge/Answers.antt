-- `sketch::packets::judge` meets its contract: nothing at fault where all is small; else damage first, then the limits, each with the lowest index at fault.
use mathlib.Core.Path.{◌≡◌, sym, ◌∙◌}
use borrow.Author.Rules.{rules}
use mathlib.Core.Bool.{true}
use Rattle.buckets.specs.Buckets.{is_small}
use Rattle.params.proofs.Judging.{refuse_some, refuse_nothing}
use Rattle.sketch.specs.Sketch.{flow_buckets_answer}
use Rattle.buckets.proofs.Limits.{small_size}
use Rattle.sketch.proofs.Steps.{small_done}
use Rattle.sketch.proofs.packets.judge.Goals as goal

pub returns-then-all_small : goal.returns-then-all_small
returns-then-all_small c =
    let few : is_small c.args.n 0 ≡ true = search rules in
    sym (small_done _ _ _ c.args.minus _ _ (small_size _ 0 few) (sym c.all_small.ensures ∙ c.if-all_small.true))

pub returns-in-Some : goal.returns-in-Some
unfolding flow_buckets_answer
returns-in-Some c = search (rules, refuse_some)

pub returns-in-Some-first_leaving : goal.returns-in-Some-first_leaving
unfolding flow_buckets_answer
returns-in-Some-first_leaving c = search (rules, refuse_some, refuse_nothing)

pub returns : goal.returns
unfolding flow_buckets_answer
returns c = search (rules, refuse_nothing)
