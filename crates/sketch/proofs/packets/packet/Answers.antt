-- `sketch::packets::packet` meets its contract.
use borrow.Author.Rules.{rules}
use Rattle.sketch.specs.Packets.{packet_answer}
use Rattle.sketch.proofs.packets.packet.Goals as goal

pub returns-then-not-is_flow : goal.returns-then-not-is_flow
unfolding packet_answer
returns-then-not-is_flow c = search rules

pub returns-then-not-is_number : goal.returns-then-not-is_number
unfolding packet_answer
returns-then-not-is_number c = search rules

pub returns : goal.returns
unfolding packet_answer
returns c = search rules
