-- What is printed: two accepted streams, one directly after the other, have a report; its text is the front of what the writer of reports leaves in its
-- output; and an input that is refused has the one line with the reader's number and byte.
use mathlib.Core.Path.{◌≡◌, refl, sym, ap, ap₂, subst, ◌∙◌}
use mathlib.Core.Bool.{Bool, true, false, cond}
use mathlib.Core.Logic.{⊎_elim}
use mathlib.Core.List.{List, ◌++◌}
use Prim.Native.Nat.{ℕ, ◌+◌, ◌-◌, ◌*◌, ◌≤◌}
use native.Mathlib.Omega.{arith}
use borrow.Author.Tests.{le-leb}
use lib.IntN.{pos}
use lib.ListN.{length, take, drop, replicate, length-replicate}
use lib.Seq.{take_at}
use Rattle.params.specs.declared.params.Params.{Params}
use Rattle.params.specs.declared.answers.Refusal.{Refusal}
use Rattle.params.specs.declared.answers.Refusal.TheVariants.{Param}
use Rattle.params.specs.Params.{size}
use Rattle.params.proofs.Judging.{kept_new}
use Rattle.params.proofs.Rules.{good_dimensions_lem, dimensions_small}
use Rattle.sketch.specs.Sketch.{Sketch, zeros}
use Rattle.sums.specs.Sums.{combined}
use Rattle.walk.specs.Walk.{Outcome, walk}
use Rattle.walk.specs.Purity.{rule_of}
use Rattle.peel.specs.Slices.{Slices, slices}
use Rattle.peel.specs.Peel.{figures_of, unless_refused, peeled_of, closed_slices, judged, walked, peel_returns}
use Rattle.files.specs.Bytes.{overwritten}
use Rattle.files.specs.Heads.{head_length_of, params_in, head_answer}
use Rattle.streamfile.specs.Streams.{stream_answer, StreamRead}
use Rattle.streamfile.proofs.FreshStreams.{fresh_grown}
use Rattle.lines.specs.Lines.{refused_line, Lined, line_room, line_fits}
use Rattle.lines.specs.Reports.{report_text, walk_text, report_fits}
use Rattle.desk.specs.declared.states.Fed.{Fed}
use Rattle.desk.specs.Desk.{most_buckets, few_enough, begin_of, started, offsets_fit, packets_sketch, rest, downstream_headed, fed_state, lent_both, Feeds, finish_answer}
use Rattle.desk.proofs.Accepts.{accepts, begins}
use Rattle.desk.proofs.Lending.{taken_fed, fresh_lent}
use Rattle.desk.proofs.FirstHead.{begin_refused}
use Rattle.desk.proofs.Refusals.{DownstreamRefused, refused_as}
use Rattle.settle.specs.Settling.{settle_judged, less_downstream, Settles}
use Rattle.settle.proofs.Settled.{settled_ends}
use Rattle.settle.proofs.TwoStreams.{streams_settle}
use Rattle.settle.proofs.Reported.{Reported, report_of_walk, report_fits_lem}
use Rattle.params.specs.Answers.{Answer, Done, Refused}
use Rattle.std.specs.Prelude.{Ok}

-- a text that is written where there is room for it is the front of the output
front : {fits : Bool} {text out out' : List ℕ} {n : ℕ} → fits ≡ true → Lined fits text out n out' → (n ≡ length text) × (take n out' ≡ text)
unfolding overwritten
front {fits} {text} {out} {out'} {n} room l =
    let long : n ≡ length text = rw room at l.long in
    let bytes : out' ≡ overwritten out 0 text = rw room at l.bytes in
    (long, ap₂ take long bytes ∙ take_at text _ (length text) refl)

-- of a report, in as many bytes as the program lends
module _ {P : Params} {input text : List ℕ} (r : Reported P input text) where
  pub report_printed : {out out' : List ℕ} {n : ℕ} → length out ≡ line_room * (2 * most_buckets + 1)
      → Lined (report_fits (length out) (length r.after.flows) (length r.after.numbers) r.figures.entries (length r.after.counts) (length r.after.idsums))
      (report_text r.after.flows r.after.numbers r.figures.entries r.after.counts r.after.idsums r.figures.ending r.figures.pops r.figures.lost r.figures.extra) out n out'
      → (n ≡ length text) × (take n out' ≡ text)
  report_printed {out} e l =
      let fits = ap (λ (o : ℕ). report_fits o (length r.after.flows) (length r.after.numbers) r.figures.entries (length r.after.counts) (length r.after.idsums)) e ∙ report_fits_lem r in
      let p = front fits l in
      (p.0 ∙ ap length (sym r.written), p.1 ∙ sym r.written)

-- two streams that are accepted into fresh sketches, with few enough buckets and all offsets within 64 bits
module _ {a b : List ℕ} {S T : Sketch} (one : StreamRead (params_in a) a (zeros (params_in a)) Done S) (two : StreamRead (params_in a) b (zeros (params_in a)) Done T)
    (few : few_enough (params_in a) ≡ true) (near : offsets_fit (drop (head_length_of (params_in a)) (a ++ b)) (started (params_in a)) ≡ true) where
  abbrev P : Params
  P = params_in a

  abbrev bytes : List ℕ
  bytes = drop (head_length_of P) (a ++ b)

  abbrev fed : Fed
  fed =
      let s = cond (offsets_fit bytes (started P)) (fed_state P bytes (zeros P) (zeros P) (started P)) (started P) in
      record { state = s; used = s.at - (started P).at }

  lent_right : lent_both P (zeros P) (zeros P) ≡ Done
  lent_right = fresh_lent P (fresh_grown one).good

  feeds : Feeds P bytes (zeros P) (zeros P) (started P) fed
      (cond (offsets_fit bytes (started P)) (packets_sketch false P bytes (zeros P) (started P)) (zeros P))
      (cond (offsets_fit bytes (started P)) (packets_sketch true P (rest (started P) (downstream_headed P bytes (zeros P) (zeros P) (started P)) bytes) (zeros P) (downstream_headed P bytes (zeros P) (zeros P) (started P))) (zeros P))
  feeds = taken_fed lent_right (record { state = refl; used = refl; upstream = refl; downstream = refl })

  -- what the program lends for the walk
  abbrev lent : Slices
  lent = slices S.counts S.idsums (replicate (size P) 0) (replicate (size P) (pos 0)) (replicate (size P) 0) (replicate (size P) 0)

  many : length (replicate {A = ℕ} (size P) 0) ≡ size P
  many = length-replicate {A = ℕ} (size P) 0

  small : size P ≤ 65536
  small = dimensions_small (good_dimensions_lem P (fresh_grown one).good)

  not_refused : settle_judged P T lent ≡ Done
  not_refused = streams_settle one two _ _ _ _ (many ∙ sym (length-replicate (size P) (pos 0))) (omega (arith, many, small)) many many

  abbrev peeled : Slices
  peeled = less_downstream P T lent

  abbrev outcome : Outcome
  outcome = walked P (8 * size P) peeled

  settles : Settles P T lent (Ok (figures_of outcome)) (closed_slices P outcome peeled)
  settles =
      let ends = settled_ends P T lent not_refused in
      record {
        answer = sym (ap (λ (x : Answer). unless_refused x (peel_returns P (8 * size P) peeled)) not_refused ∙ ap (λ (x : Answer). peeled_of x outcome) ends);
        after = kept_new (judged P peeled) peeled (closed_slices P outcome peeled) ends ∙ kept_new (settle_judged P T lent) lent _ not_refused;
      }

  abbrev text : List ℕ
  text =
      let L = closed_slices P outcome peeled in
      let g = figures_of outcome in
      report_text L.flows L.numbers g.entries L.counts L.idsums g.ending g.pops g.lost g.extra

  made : Reported P (a ++ b) text
  made =
      let same = accepts one two few _ _ _ near feeds in
      record {
        lent = lent;
        down = T;
        fed = fed;
        head = begins one two few;
        feeding = taken_fed lent_right (record { state = refl; used = refl; upstream = sym same.1; downstream = sym same.2 });
        finished = same.0;
        long = (many, length-replicate (size P) (pos 0), many, many);
        figures = figures_of outcome;
        after = closed_slices P outcome peeled;
        settled = settles;
        written = refl;
      }

  -- they have a report: that of the walk over their difference
  pub has_report : Reported (params_in a) (a ++ b) (walk_text (params_in a) (walk (rule_of (params_in a)) (size (params_in a)) (8 * size (params_in a)) (combined true S T)))
  unfolding made
  has_report = subst (λ text. Reported P (a ++ b) text) (report_of_walk made) made

-- a refusal as the program comes to it: the first head is refused; or it is accepted, what follows it is fed to two fresh sketches, and the end of the
-- input is refused
pub data TurnedAway (input : List ℕ) (w : Refusal) (k : ℕ) : Type 0 where
  by_head : begin_of input ≡ Refused w k → TurnedAway input w k
  by_records : (P : Params) (r : Fed) (up down : Sketch) → begin_of input ≡ Ok P → offsets_fit (drop (head_length_of P) input) (started P) ≡ true
      → Feeds P (drop (head_length_of P) input) (zeros P) (zeros P) (started P) r up down → finish_answer r.state.stage r.state.at ≡ Refused w k → TurnedAway input w k

-- why: any reader of a stream refuses the head so; its buckets are too many; the upstream stream's reader refuses it so; or the downstream's does
pub data Reason (input : List ℕ) (w : Refusal) (k : ℕ) : Type 0 where
  no_right_head : ((P : Params) (S : Sketch) → stream_answer P input S ≡ Refused w k) → Reason input w k
  too_many_buckets : head_answer input ≡ Done → few_enough (params_in input) ≡ false → w ≡ Param → k ≡ 0 → Reason input w k
  upstream_at_fault : (P : Params) → begin_of input ≡ Ok P → stream_answer P input (zeros P) ≡ Refused w k → Reason input w k
  downstream_at_fault : (P : Params) → begin_of input ≡ Ok P → DownstreamRefused P input w k → Reason input w k

pub reason : {input : List ℕ} {w : Refusal} {k : ℕ} → TurnedAway input w k → Reason input w k
reason {input} {w} {k} (by_head e) = ⊎_elim no_right_head (λ h. too_many_buckets h.0 h.1 h.2 h.3) (begin_refused input w k e)
reason {input} {w} {k} (by_records P r up down head near fed e) = ⊎_elim (upstream_at_fault P head) (downstream_at_fault P head) (refused_as P input r up down head near fed w k e)

-- what is printed of it, in an output with room for a line, is one line with that number and that byte
pub refusal_printed : {input : List ℕ} {w : Refusal} {k n : ℕ} {out out' : List ℕ} → TurnedAway input w k → line_room ≤ length out → Lined (line_fits out) (refused_line w k) out n out'
    → (n ≡ length (refused_line w k)) × (take n out' ≡ refused_line w k) × Reason input w k
refusal_printed {out = out} t h l = let p = front (le-leb line_room (length out) h) l in (p.0, p.1, reason t)
