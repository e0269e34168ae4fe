-- `streamfile::writing::put_all` meets its contract. The invariant: the records that are left, written from `at` on, give what is asked for.
use mathlib.Core.Path.{◌≡◌, refl, sym, ap, ◌∙◌}
use mathlib.Core.List.{[]}
use native.Mathlib.Omega.{arith}
use lib.ListN.{drop, drop_of_length-le}
use Rattle.files.specs.Bytes.{overwritten, word_bytes}
use Rattle.files.specs.Layout.{packet_bytes}
use Rattle.files.proofs.Overwriting.{overwritten_none, written_next}
use Rattle.streamfile.specs.Writing.{packets_bytes}
use Rattle.streamfile.proofs.Written.{packets_next}
use Rattle.streamfile.proofs.writing.put_all.Goals as goal

pub loop-i-init : goal.loop-i-init
loop-i-init c = (omega arith, refl)

pub loop-i-preserved : goal.loop-i-preserved
unfolding packet_bytes word_bytes
loop-i-preserved c =
    let l = c.loop-i in
    let next = packets_next c.args.flows.now c.args.numbers.now l.i (omega arith) (omega arith) in
    (omega arith, written_next _ _ _ _ _ _ (ap (overwritten l.out l.at) (sym next) ∙ l.invariant.1) c.put_packets.ensures (omega arith) refl)

pub returns : goal.returns
unfolding packets_bytes
returns c =
    let l = c.loop-i in
    let none : drop l.i c.args.flows.now ≡ [] = drop_of_length-le _ {i = l.i} (omega arith) in
    overwritten_none l.out l.at ∙ rw none at l.invariant.1
