-- `sketchfile::reading::judge_records` meets its contract. The invariant: n buckets were found, and none of them is refused.
use mathlib.Core.Path.{◌≡◌}
use Prim.Native.Nat.{ℕ, ◌-◌, ◌<◌}
use lib.ListN.{length}
use Rattle.sketchfile.specs.Reading.{lowest, bucket_judged}
use Rattle.sketchfile.proofs.BucketRecords.{Reader}
use Rattle.sketchfile.proofs.reading.judge_records.Given as goal
use Rattle.params.specs.Answers.{Done}

abbrev pub invariant-loop-index : goal.invariant-loop-index
invariant-loop-index l = Reader l.bytes l.n l.at
    × (l.low ≡ lowest l.bytes l.n)
    × ((j : ℕ) → j < l.n → bucket_judged l.size l.bytes j ≡ Done)

abbrev pub decreases-loop-index : goal.decreases-loop-index
decreases-loop-index l = length l.bytes - l.at
