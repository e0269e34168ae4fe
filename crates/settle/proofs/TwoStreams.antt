-- Two streams that were read into fresh sketches: of their subtraction comes no RANGE, nothing else is refused, and the difference is the sketch of the packets of one less those of the other, and depends on the parameters and net counts alone.
use mathlib.Core.Path.{◌≡◌, refl, sym}
use mathlib.Core.Bool.{true}
use mathlib.Core.List.{List, ◌++◌}
use Prim.Native.Nat.{ℕ, ◌≤◌}
use lib.IntN.{ℤ, pos, ◌-ℤ◌}
use lib.ListN.{length, length-replicate}
use Rattle.params.specs.declared.params.Params.{Params}
use Rattle.params.specs.Params.{size}
use Rattle.params.specs.Answers.{kept, Done}
use Rattle.params.proofs.Rules.{lent_back}
use Rattle.sketch.specs.Sketch.{Sketch, Entry, sketch_of, zeros, Freshened}
use Rattle.sketch.specs.Packets.{entries_of}
use Rattle.sums.specs.Sums.{combine_answer, combined}
use Rattle.sums.specs.History.{History, freshly, negated, net_count}
use Rattle.sums.proofs.Histories.{difference_of, difference_list, combined_by_nets}
use Rattle.sketch.proofs.Whole.{Whole}
use Rattle.streamfile.specs.Streams.{flows_in, numbers_in, StreamRead}
use Rattle.streamfile.proofs.AsInserted.{reading_on}
use Rattle.streamfile.proofs.FreshStreams.{Grown, fresh_grown}
use Rattle.peel.proofs.Judged.{well_lent}
use Rattle.settle.specs.Settling.{settle_answer}
use Rattle.settle.proofs.Differences.{never_refused}
use Rattle.settle.proofs.Settled.{lent_first}

grown_whole : {P : Params} {S : Sketch} → Grown P S → Whole P S
grown_whole g = record { counts_long = g.counts_long; idsums_long = g.idsums_long; undamaged = g.undamaged }

-- S and T are what the two streams left, each in a sketch of its own
module _ {P : Params} {a b : List ℕ} {S T : Sketch} (up : StreamRead P a (zeros P) Done S) (down : StreamRead P b (zeros P) Done T) where
  -- packets only add, so no count is below 0 in either, and no difference of two such counts leaves the limits
  pub streams_subtract : combine_answer true P P S T ≡ Done
  streams_subtract =
      let s = fresh_grown up in
      let t = fresh_grown down in
      never_refused P S T s.good (grown_whole s) (grown_whole t) s.none_below t.none_below

  -- with table slices of one length of at most 65536, and a queue and marks of the sketch's size, nothing is left to refuse
  pub streams_settle : (flows numbers queue marks : ℕ) → flows ≡ numbers → flows ≤ 65536 → queue ≡ size P → marks ≡ size P
      → settle_answer P S T flows numbers queue marks ≡ Done
  streams_settle flows numbers queue marks e l h k =
      let s = fresh_grown up in
      let sketch-lent = lent_back P (length S.counts) (length S.idsums) s.good s.counts_long s.idsums_long in
      let lent = well_lent P flows numbers queue marks (length S.counts) (length S.idsums) sketch-lent (record { queue_long = h; marks_long = k; same = e; few = l }) in
      sym (lent_first P S T flows numbers queue marks Done (sym lent) (sym streams_subtract))

-- the packets of a stream, and the net count of a flow between two streams
abbrev pub packets_of : List ℕ → List Entry
packets_of bs = entries_of (flows_in bs) (numbers_in bs)

abbrev pub net_between : List ℕ → List ℕ → ℕ → ℤ
net_between a b f = net_count (packets_of a) f -ℤ net_count (packets_of b) f

-- a stream that was read into a fresh sketch is the history of its packets
pub fresh_history : {P : Params} {bs : List ℕ} {S : Sketch} → StreamRead P bs (zeros P) Done S → History P (packets_of bs) S
unfolding kept zeros
fresh_history {P} r =
    let good = (fresh_grown r).good in
    let fresh : Freshened P (zeros P) Done (zeros P) = record { answer = sym (lent_back P _ _ good (length-replicate (size P) (pos 0)) (length-replicate {A = ℕ} (size P) 0)); after = refl } in
    reading_on (freshly {S = zeros P} fresh) r

-- the difference is the sketch of the packets of the one and the opposite ones of the other
pub difference_packets : {P : Params} {a b : List ℕ} {S T : Sketch} → StreamRead P a (zeros P) Done S → StreamRead P b (zeros P) Done T → combined true S T ≡ sketch_of P (packets_of a ++ negated (packets_of b))
difference_packets one two = difference_of (fresh_history one) (fresh_history two)

-- and of every list with the net counts between the two
pub difference_nets : {P : Params} {a b : List ℕ} {S T : Sketch} → StreamRead P a (zeros P) Done S → StreamRead P b (zeros P) Done T → (es : List Entry) → ((f : ℕ) → net_between a b f ≡ net_count es f)
    → combined true S T ≡ sketch_of P es
difference_nets one two = difference_list (fresh_history one) (fresh_history two)

-- it is settled by the parameters and by the net count of each flow
pub by_net_counts : {P : Params} {a b a' b' : List ℕ} {S T S' T' : Sketch} → StreamRead P a (zeros P) Done S → StreamRead P b (zeros P) Done T → StreamRead P a' (zeros P) Done S'
    → StreamRead P b' (zeros P) Done T' → ((f : ℕ) → net_between a b f ≡ net_between a' b' f) → combined true S T ≡ combined true S' T'
by_net_counts a b a' b' = combined_by_nets (fresh_history a) (fresh_history b) (fresh_history a') (fresh_history b')
