-- What a report says: of an input that the desk accepts, the lines are those of the walk over the difference of its two streams; after a clean end lost less extra is by how many packets these differ.
use mathlib.Core.Path.{◌≡◌, refl, sym, ap, ap₂, ◌∙◌}
use mathlib.Core.Bool.{true}
use mathlib.Core.List.{List, [], ◌∷◌, ◌++◌}
use Prim.Native.Nat.{ℕ, ◌+◌, ◌*◌, ◌≤◌}
use native.Mathlib.Omega.{arith}
use borrow.Author.Tests.{leb-true, le-leb, eq-eqb}
use lib.IntN.{ℤ, pos, ◌-ℤ◌}
use lib.ListN.{length, drop, length-map}
use Rattle.params.specs.Lists.{padded}
use Rattle.params.specs.declared.params.Params.{Params}
use Rattle.params.specs.Params.{size}
use Rattle.sketch.specs.Sketch.{Sketch, Entry, zeros}
use Rattle.sums.specs.Sums.{combined}
use Rattle.sums.specs.History.{negated}
use Rattle.walk.specs.Walk.{Outcome, walk, closed_table, lost_of, extra_of}
use Rattle.walk.specs.Purity.{rule_of}
use Rattle.walk.specs.Shown.{tell, shown_table}
use Rattle.walk.specs.Endings.{ending_number}
use Rattle.walk.proofs.Figures.{all_counts, counts_less}
use Rattle.peel.specs.declared.peeling.Figures.{Figures}
use Rattle.peel.specs.Slices.{Slices, lent_sketch}
use Rattle.peel.specs.Peel.{figures_of, peeled_of, flows_of, numbers_of, closed_slices, judged, walked, Peels}
use Rattle.peel.proofs.Padding.{flows_many, numbers_many}
use Rattle.peel.proofs.Promised.{remainder_whole, listed_few, clean_total}
use Rattle.lines.specs.Lines.{loss_line, end_line, line_room}
use Rattle.lines.specs.Reports.{loss_lines, left_lines, entry_lines, report_text, walk_text, report_fits}
use Rattle.lines.proofs.Reporting.{losses_first, losses_none}
use Rattle.params.proofs.Changes.{padded_long}
use Rattle.params.proofs.Judging.{kept_new}
use Rattle.params.proofs.Rules.{good_dimensions_lem, dimensions_small}
use Rattle.streamfile.specs.Streams.{StreamRead}
use Rattle.streamfile.proofs.FreshStreams.{fresh_grown}
use Rattle.desk.specs.declared.states.Fed.{Fed}
use Rattle.desk.specs.Desk.{most_buckets, few_enough, begin_of, started, Feeds, finish_answer}
use Rattle.desk.proofs.Accepted.{TwoStreams, few_begun, near_done, accepted}
use Rattle.desk.proofs.Accepts.{accepts}
use Rattle.settle.specs.Settling.{settle_judged, less_downstream, Settles}
use Rattle.settle.proofs.Settled.{settled_is_peeled, settled_ends}
use Rattle.settle.proofs.TwoStreams.{streams_settle, packets_of, net_between, difference_packets, by_net_counts}
use Rattle.files.specs.Heads.{head_length_of}
use Rattle.params.specs.Answers.{Done}
use Rattle.std.specs.Prelude.{Ok}

-- slices that begin with a table have its lines
table_lines : (es : List Entry) (fs : List ℕ) (ns : List ℤ) → loss_lines (flows_of es ++ fs) (numbers_of es ++ ns) (length es) ≡ entry_lines es
unfolding flows_of numbers_of entry_lines
table_lines [] fs ns = losses_none fs ns
table_lines (e ∷ es) fs ns =
    losses_first e.flow e.number (flows_of es ++ fs) (numbers_of es ++ ns) (length es) ∙ ap (λ ys. loss_line e.flow e.number ++ ys) (table_lines es fs ns)

-- the text that is written of a walk's figures, of its remainder and of the slices that hold its table
walk_text_lem : (P : Params) (o : Outcome) (n m : ℕ) → let es = shown_table P o in let g = figures_of o in
    report_text (padded n 0 (flows_of es)) (padded m (pos 0) (numbers_of es)) g.entries o.remainder.counts o.remainder.idsums g.ending g.pops g.lost g.extra ≡ walk_text P o
unfolding report_text walk_text padded
walk_text_lem P o n m =
    ap (λ ys. ys ++ (left_lines o.remainder.counts o.remainder.idsums (length o.remainder.counts) ++ end_line o.ending o.pops (lost_of o) (extra_of o)))
    (ap (loss_lines _ _) (sym (length-map (closed_table o) (tell P))) ∙ table_lines (shown_table P o) _ _)

-- a report as the desk makes it: the first head is judged, the records behind it are fed to two fresh sketches, of which `lent` has the first,
-- and at the end of the input nothing more is due; the difference is settled with slices of the sketch's size, and the text written of what
-- that leaves
pub record Reported (P : Params) (input text : List ℕ) : Type 0 where
  pub lent : Slices
  pub down : Sketch
  pub fed : Fed
  pub head : begin_of input ≡ Ok P
  pub feeding : Feeds P (drop (head_length_of P) input) (zeros P) (zeros P) (started P) fed (lent_sketch lent) down
  pub finished : finish_answer fed.state.stage fed.state.at ≡ Done
  pub long : (length lent.flows ≡ size P) × (length lent.numbers ≡ size P) × (length lent.queue ≡ size P) × (length lent.marks ≡ size P)
  pub figures : Figures
  pub after : Slices
  pub settled : Settles P down lent (Ok figures) after
  pub written : text ≡ report_text after.flows after.numbers figures.entries after.counts after.idsums figures.ending figures.pops figures.lost figures.extra

module _ {P : Params} {input text : List ℕ} (r : Reported P input text) where
  -- the two streams that the input is
  pub streams : TwoStreams P input (lent_sketch r.lent) r.down
  streams = accepted P input r.fed (lent_sketch r.lent) r.down r.head r.feeding r.finished

  abbrev pub difference : Sketch
  difference = combined true (lent_sketch r.lent) r.down

  small : size P ≤ 65536
  small = dimensions_small (good_dimensions_lem P (fresh_grown streams.upstream_read).good)

  not_refused : settle_judged P r.down r.lent ≡ Done
  not_refused =
      streams_settle streams.upstream_read streams.downstream_read _ _ _ _ (r.long.0 ∙ sym r.long.1) (omega (arith, r.long.0, small)) r.long.2 r.long.3

  -- what the slices and the figures then say: the difference is peeled
  abbrev peeled : Slices
  peeled = less_downstream P r.down r.lent

  abbrev outcome : Outcome
  outcome = walked P (8 * size P) peeled

  peels : Peels P (8 * size P) peeled (Ok r.figures) r.after
  peels = settled_is_peeled P r.down r.lent not_refused r.settled

  ends : judged P peeled ≡ Done
  ends = settled_ends P r.down r.lent not_refused

  after_is : r.after ≡ closed_slices P outcome peeled
  after_is = peels.after ∙ sym (kept_new (judged P peeled) _ _ ends)

  figures_are : r.figures ≡ figures_of outcome
  figures_are = let e : Ok r.figures ≡ Ok (figures_of outcome) = peels.answer ∙ ap (λ x. peeled_of x outcome) ends in cc

  -- the text is that of the walk over their difference, with 8 * d * m pops and d * m slots
  pub report_of_walk : text ≡ walk_text P (walk (rule_of P) (size P) (8 * size P) difference)
  report_of_walk =
      let g = r.figures in
      let read : report_text r.after.flows r.after.numbers g.entries r.after.counts r.after.idsums g.ending g.pops g.lost g.extra ≡ walk_text P outcome =
      rw (after_is, figures_are) (walk_text_lem P outcome (length r.lent.flows) (length r.lent.numbers))
      in
      r.written ∙ read ∙ ap (λ n. walk_text P (walk (rule_of P) n (8 * size P) difference)) r.long.0

  -- it fits where there is room for as many lines as twice the most buckets that a desk takes and one more, which is what the program lends
  pub report_fits_lem : report_fits (line_room * (2 * most_buckets + 1)) (length r.after.flows) (length r.after.numbers) r.figures.entries (length r.after.counts) (length r.after.idsums) ≡ true
  unfolding few_enough
  report_fits_lem =
      let whole = remainder_whole peels refl in
      let few = leb-true (size P) most_buckets (few_begun P input r.head) in
      let entries = listed_few peels refl in
      let entries_are : r.figures.entries ≡ length (shown_table P outcome) = ap (λ g. g.entries) figures_are ∙ sym (length-map (closed_table outcome) (tell P)) in
      let flows = ap (λ (L : Slices). length L.flows) after_is ∙ padded_long (length r.lent.flows) 0 _ (omega (arith, entries, entries_are, flows_many (shown_table P outcome))) in
      let numbers = ap (λ (L : Slices). length L.numbers) after_is ∙ padded_long (length r.lent.numbers) (pos 0) _ (omega (arith, entries, entries_are, numbers_many (shown_table P outcome), r.long.0, r.long.1)) in
      rw (le-leb r.figures.entries (length r.after.flows) (omega (arith, flows, entries)), le-leb r.figures.entries (length r.after.numbers) (omega (arith, numbers, entries, r.long.0, r.long.1)), eq-eqb (length r.after.idsums) (length r.after.counts) (omega (arith, whole.counts_long, whole.idsums_long)), le-leb (line_room * (r.figures.entries + length r.after.counts + 1)) (line_room * (2 * most_buckets + 1)) (omega (arith, entries, few, r.long.0, whole.counts_long)))

  -- where the input is two streams, one directly after the other, the sketches are what their reader makes of them
  module _ {a b : List ℕ} {S T : Sketch} (is : input ≡ a ++ b) (one : StreamRead P a (zeros P) Done S) (two : StreamRead P b (zeros P) Done T) where
    pub difference_is : difference ≡ combined true S T
    difference_is =
        let fed = rw is at r.feeding in
        let same = accepts one two (few_begun P input r.head) r.fed (lent_sketch r.lent) r.down (near_done fed r.finished) fed in
        ap₂ (combined true) same.1 same.2

    -- after a clean end lost less extra is how many packets more the upstream stream has than the downstream one
    pub clean_packets : ending_number r.figures.ending ≡ 1 → pos r.figures.lost -ℤ pos r.figures.extra ≡ all_counts (packets_of a) -ℤ all_counts (packets_of b)
    clean_packets e =
        clean_total peels refl e (packets_of a ++ negated (packets_of b)) (difference_is ∙ difference_packets one two) ∙ counts_less (packets_of a) (packets_of b)

-- so two inputs of the same parameters, whose streams differ by the same packets of each flow, have the same report
pub same_report : {P : Params} {a b a' b' text text' : List ℕ} {S T S' T' : Sketch} → Reported P (a ++ b) text → Reported P (a' ++ b') text'
    → StreamRead P a (zeros P) Done S → StreamRead P b (zeros P) Done T → StreamRead P a' (zeros P) Done S' → StreamRead P b' (zeros P) Done T'
    → ((f : ℕ) → net_between a b f ≡ net_between a' b' f) → text ≡ text'
same_report {P} r r' one two one' two' e =
    report_of_walk r
    ∙ ap (λ D. walk_text P (walk (rule_of P) (size P) (8 * size P) D)) (difference_is r refl one two ∙ by_net_counts one two one' two' e ∙ sym (difference_is r' refl one' two'))
    ∙ sym (report_of_walk r')
