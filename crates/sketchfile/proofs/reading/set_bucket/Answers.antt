-- `sketchfile::reading::set_bucket` meets its contract: an index past the last sets nothing.
use mathlib.Core.Path.{sym}
use native.Mathlib.Omega.{arith}
use lib.Seq.{set_out}
use Rattle.sketchfile.proofs.reading.set_bucket.Goals as goal

pub returns-then-counts-k : goal.returns-then-counts-k
returns-then-counts-k c = record { counts_after = sym (set_out _ _ _ c.if-counts-k.true); idsums_after = sym (set_out _ _ _ (omega arith)) }
