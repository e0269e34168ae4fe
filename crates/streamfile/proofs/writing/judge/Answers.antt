-- `streamfile::writing::judge` meets its contract: the parameters and the lengths, then all flows, then all numbers.
use borrow.Author.Rules.{rules}
use Rattle.streamfile.specs.Writing.{stream_write_answer}
use Rattle.streamfile.proofs.Written.{stream_long}
use Rattle.streamfile.proofs.writing.judge.Goals as goal

pub returns-then-not-check : goal.returns-then-not-check
unfolding stream_write_answer
returns-then-not-check c = search rules

pub returns-then-n-numbers : goal.returns-then-n-numbers
unfolding stream_write_answer
returns-then-n-numbers c = search rules

pub returns-then-room-head_length : goal.returns-then-room-head_length
unfolding stream_write_answer
returns-then-room-head_length c = let a = c.args in search (rules, stream_long a.p a.flows.now a.numbers.now c.if-n-numbers.false)

pub returns-then-not-all_flows : goal.returns-then-not-all_flows
unfolding stream_write_answer
returns-then-not-all_flows c = let a = c.args in search (rules, stream_long a.p a.flows.now a.numbers.now c.if-n-numbers.false)

pub returns-then-not-all_numbers : goal.returns-then-not-all_numbers
unfolding stream_write_answer
returns-then-not-all_numbers c = let a = c.args in search (rules, stream_long a.p a.flows.now a.numbers.now c.if-n-numbers.false)

pub returns : goal.returns
unfolding stream_write_answer
returns c = let a = c.args in search (rules, stream_long a.p a.flows.now a.numbers.now c.if-n-numbers.false)
