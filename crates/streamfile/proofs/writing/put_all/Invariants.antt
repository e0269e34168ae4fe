-- `streamfile::writing::put_all` meets its contract. The invariant: the records that are left, written from `at` on, give what is asked for.
use mathlib.Core.Path.{◌≡◌}
use Prim.Native.Nat.{◌+◌, ◌*◌}
use lib.ListN.{drop}
use Rattle.files.specs.Bytes.{overwritten}
use Rattle.files.specs.Records.{packets_length}
use Rattle.streamfile.specs.Writing.{packets_bytes}
use Rattle.streamfile.proofs.writing.put_all.Given as goal

abbrev pub invariant-loop-i : goal.invariant-loop-i
invariant-loop-i l = (l.at ≡ l.first + packets_length * l.i)
    × (overwritten l.out l.at (packets_bytes (drop l.i l.flows) (drop l.i l.numbers)) ≡ overwritten l.initial.out l.first (packets_bytes l.flows l.numbers))
