-- When settling surely works, and what a report then says: the losses and gains between two edges, where they are a list that is sure, are listed in rising position in array 1.
use mathlib.Core.Path.{◌≡◌, refl, sym, ap, ap₂, subst, ◌∙◌}
use mathlib.Core.Bool.{Bool, true, false, not, cond, ◌||◌, true≢false}
use mathlib.Core.List.{List, [], ◌∷◌, ◌++◌}
use mathlib.Core.Logic.{◌⊎◌, inl, inr, ⊎_elim}
use Prim.Native.Nat.{ℕ, zero, suc, ◌*◌, ◌≤◌, ◌<◌}
use native.Mathlib.Omega.{arith}
use borrow.Author.Tests.{eq-eqb, ne_eqb, eqb-true, le-leb, not-true}
use lib.Dec.{eqb}
use lib.IntN.{ℤ, pos, nat_abs, neg_ℤ, ◌+ℤ◌, ◌-ℤ◌, +ℤ_idl, +ℤ_idr}
use lib.ListN.{length, get_or}
use lib.Signed.{◌≤ℤ◌}
use Rattle.field.specs.Parts.{up, down}
use Rattle.field.proofs.Parts.{int, up_down_add, up_neg, down_neg, abs_parts, one_part}
use Rattle.params.specs.declared.params.Params.{Params}
use Rattle.params.specs.declared.answers.Refusal.TheVariants.{Length}
use Rattle.params.specs.Answers.{number_in, Done, Given}
use Rattle.params.specs.Params.{size, is_flow, good_params, Dimensions, lent_answer}
use Rattle.params.proofs.BucketNumbers.{stretch_within}
use Rattle.params.proofs.Judging.{first_done, refuse_done}
use Rattle.params.proofs.Rules.{good_dimensions_lem, lent_good}
use Rattle.params.proofs.Searches.{and_true}
use Rattle.buckets.specs.Buckets.{is_zero, in_limits}
use Rattle.buckets.proofs.Limits.{limits_size, whole}
use Rattle.buckets.proofs.Zeros.{is_zero_lem, zero_is}
use Rattle.sketch.specs.Sketch.{Sketch, count_in, idsum_in, Entry, by, count_at, sketch_of, zeros}
use Rattle.sketch.specs.Packets.{step_answer, changed, packets_answer, all_answer, entries_of}
use Rattle.sketch.proofs.Steps.{step_done}
use Rattle.sketch.proofs.Tables.{from_at}
use Rattle.sketch.proofs.Whole.{Whole}
use Rattle.sums.specs.Sums.{combine_answer, combined}
use Rattle.sums.specs.History.{History, net_count}
use Rattle.sums.proofs.NetCounts.{net_bounds}
use Rattle.sums.proofs.TwoSketches.{combined_count}
use Rattle.sums.proofs.Histories.{history, difference_list}
use Rattle.walk.specs.declared.Ending.TheVariants.{Clean}
use Rattle.walk.specs.Endings.{ending_number}
use Rattle.walk.specs.Walk.{Outcome, any, has, walk, lost_by, extra_by}
use Rattle.walk.specs.Purity.{rule_of}
use Rattle.walk.specs.Sure.{all_flows, all_positive, all_nonzero, own_buckets, within_limits, parts_by, Sure, in_rising, Works}
use Rattle.walk.proofs.Alls.{all_at, all_of}
use Rattle.walk.proofs.Entries.{neither, once, once_at}
use Rattle.walk.proofs.Promises.{Nothing, clean_only}
use Rattle.walk.proofs.Rising.{own_once}
use Rattle.walk.proofs.Bounds.{part_is, within_all}
use Rattle.walk.proofs.Sure.{few_flows, sure_whole, surely}
use Rattle.peel.specs.Slices.{Slices, lent_sketch}
use Rattle.peel.specs.Peel.{walk_lent_answer}
use Rattle.peel.specs.Sure.{PeelWorks}
use Rattle.peel.proofs.Promised.{dimensions_are, works, losses_are_sure}
use Rattle.lines.specs.Lines.{end_line}
use Rattle.lines.specs.Reports.{left_lines, entry_lines, walk_text}
use Rattle.streamfile.specs.Streams.{flows_in, numbers_in, StreamRead}
use Rattle.streamfile.proofs.AsInserted.{reads_as_inserted}
use Rattle.streamfile.proofs.FreshStreams.{fresh_grown}
use Rattle.settle.specs.Settling.{Settles}
use Rattle.settle.proofs.Differences.{within_refuses_none}
use Rattle.settle.proofs.Settled.{lent_first}
use Rattle.settle.proofs.AtTheCall.{number_is, ended_is_peeled}
use Rattle.settle.proofs.TwoStreams.{packets_of, net_between, fresh_history, difference_nets}
use Rattle.settle.proofs.Reported.{Reported, report_of_walk, difference_is}
use Rattle.peel.specs.declared.peeling.Figures.{Figures}

-- a list that is sure has no more flows than the sketch has buckets, so that d * m slots and 8 * d * m pops are enough
enough : (P : Params) → Dimensions P → (es : List Entry) → Sure P es → length es ≤ size P
enough P h es sure = omega (arith, few_flows P h es sure, stretch_within P.d P.m 0 (omega (arith, h.d_low)))

-- h is what the contract of `settle` gives: two whole sketches, whose difference is the sketch of a list that is sure, are not refused where the parameters and all lengths are right
pub settle_sure_ends : {P : Params} {T : Sketch} {L : Slices} {r : Given Figures} {L' : Slices} → Settles P T L r L'
    → walk_lent_answer P (length L.counts) (length L.idsums) (length L.flows) (length L.numbers) (length L.queue) (length L.marks) ≡ Done
    → Whole P (lent_sketch L) → Whole P T → (es : List Entry) → combined true (lent_sketch L) T ≡ sketch_of P es → Sure P es → number_in r ≡ 0
unfolding walk_lent_answer
settle_sure_ends {P} {T} {L} h lent one two es of-list sure =
    let S = lent_sketch L in
    let good : good_params P ≡ true = lent_good P _ _ (first_done (lent_answer P (length L.counts) (length L.idsums)) _ lent).0 in
    let of-sure = sure_whole P (good_dimensions_lem P good) es sure in
    let none : combine_answer true P P S T ≡ Done =
    within_refuses_none P S T good one two
    (λ k l.
    ap in_limits (sym (combined_count true S T k (omega (arith, one.counts_long))) ∙ ap (λ (D : Sketch). count_in D k) of-list)
    ∙ (whole (count_in (sketch_of P es) k) (idsum_in (sketch_of P es) k) (of-sure.undamaged k l)).0) in
    number_is h ∙ ap number_in (sym (lent_first P S T (length L.flows) (length L.numbers) (length L.queue) (length L.marks) Done lent (sym none)))

-- from here on it was not refused
module _ {P : Params} {T : Sketch} {L : Slices} {r : Given Figures} {L' : Slices} (h : Settles P T L r L') (ended : number_in r ≡ 0) where
  -- where the difference is the sketch of a list that is sure, a slot for each flow is enough
  module _ (es : List Entry) (of-list : combined true (lent_sketch L) T ≡ sketch_of P es) (room : length es ≤ length L.flows) where
    pub settle_works : Sure P es → PeelWorks P es r L'
    settle_works sure =
        let peeled = ended_is_peeled h ended in
        works peeled ended es of-list sure room (omega (arith, enough P (dimensions_are peeled ended) es sure))

    pub settle_works_as_requested : all_flows P es ≡ true → all_positive es ≡ true → own_buckets P es ≡ true → PeelWorks P es r L'
    settle_works_as_requested flows positive own = settle_works (losses_are_sure (ended_is_peeled h ended) ended es of-list flows positive own)

  -- so whatever packets went into the two sketches, where their net counts differ by those of the list
  pub packets_settle : {us ds : List Entry} → History P us (lent_sketch L) → History P ds T → (es : List Entry) → ((f : ℕ) → net_count us f -ℤ net_count ds f ≡ net_count es f)
      → Sure P es → length es ≤ length L.flows → PeelWorks P es r L'
  packets_settle upstream downstream es nets sure room = settle_works es (difference_list upstream downstream es nets) room sure

-- of nothing that remains there is no line
none_left : (S : Sketch) → Nothing S → (n : ℕ) → left_lines S.counts S.idsums n ≡ []
unfolding left_lines
none_left S e zero = refl
none_left S e (suc n) = rw (none_left S e n, (e n).0, (e n).1)

-- what is printed of a walk that works
works_text : {P : Params} {es : List Entry} {o : Outcome} → Works P es o → Nothing o.remainder → walk_text P o ≡ entry_lines (in_rising P es) ++ end_line Clean (length es) (lost_by es) (extra_by es)
unfolding walk_text
works_text {P} {es} {o} w nothing = rw (w.table, w.ending, w.pops, w.lost, w.extra, none_left o.remainder nothing (length o.remainder.counts))

-- a flow that a list does not have has no net count
net_none : (f : ℕ) (es : List Entry) → has f es ≡ false → net_count es f ≡ pos 0
unfolding net_count has any
net_none f [] h = refl
net_none f (e ∷ es) h = let q = neither (eqb e.flow f) (has f es) h in rw q.0 (+ℤ_idl (net_count es f) ∙ net_none f es q.1)

parts_none : (part : ℤ → ℕ) (f : ℕ) (es : List Entry) → has f (parts_by part es) ≡ has f es
unfolding has any
parts_none part f [] = refl
parts_none part f (e ∷ es) = ap (◌||◌ (eqb e.flow f)) (parts_none part f es)

-- in a list where no flow has two entries, the net counts of the parts are the parts of the net counts
net_part : (part : ℤ → ℕ) → part (pos 0) ≡ 0 → (es : List Entry) → once es ≡ true → (f : ℕ) → net_count (parts_by part es) f ≡ pos (part (net_count es f))
unfolding net_count once
net_part part z [] o f = ap pos (sym z)
net_part part z (e ∷ es) o f = go (eqb e.flow f) refl (net_part part z es (and_true (not (has e.flow es)) (once es) o).1 f)
  where
    go : (b : Bool) → eqb e.flow f ≡ b → net_count (parts_by part es) f ≡ pos (part (net_count es f))
        → cond b (pos (part e.number)) (pos 0) +ℤ net_count (parts_by part es) f ≡ pos (part (cond b e.number (pos 0) +ℤ net_count es f))
    go true q ih =
        let no : has f es ≡ false = subst (λ (f : ℕ). has f es ≡ false) (eqb-true e.flow f q) (not-true _ (and_true (not (has e.flow es)) (once es) o).0) in
        ap (◌+ℤ◌ (pos (part e.number))) (net_none f (parts_by part es) (parts_none part f es ∙ no))
        ∙ +ℤ_idr (pos (part e.number))
        ∙ ap (λ (z : ℤ). pos (part z)) (sym (ap (◌+ℤ◌ e.number) (net_none f es no) ∙ +ℤ_idr e.number))
    go false q ih = +ℤ_idl (net_count (parts_by part es) f) ∙ ih ∙ ap (λ (z : ℤ). pos (part z)) (sym (+ℤ_idl (net_count es f)))

-- packets that are put in make no net count below 0
packets_above : (fs ns : List ℕ) (f : ℕ) → pos 0 ≤ℤ net_count (entries_of fs ns) f
unfolding entries_of net_count
packets_above [] ns f = omega int
packets_above (g ∷ fs) [] f = omega int
packets_above (g ∷ fs) (n ∷ ns) f = go (eqb g f) (packets_above fs ns f)
  where
    go : (b : Bool) → pos 0 ≤ℤ net_count (entries_of fs ns) f → pos 0 ≤ℤ (cond b (pos n) (pos 0) +ℤ net_count (entries_of fs ns) f)
    go true h = omega (int, h, up_down_add (pos n) (net_count (entries_of fs ns) f))
    go false h = omega (int, h, up_down_add (pos 0) (net_count (entries_of fs ns) f))

-- packets that were accepted are of flows
packets_flows : (P : Params) (fs ns : List ℕ) (S : Sketch) → packets_answer P fs ns S ≡ Done → (f : ℕ) → (net_count (entries_of fs ns) f ≡ pos 0 → ⊥) → is_flow P f ≡ true
unfolding packets_answer entries_of net_count
packets_flows P [] ns S all f some = absurd (some refl)
packets_flows P (g ∷ fs) [] S all f some = absurd (some refl)
packets_flows P (g ∷ fs) (n ∷ ns) S all f some = go (eqb g f) refl some (packets_flows P fs ns (changed P false g n S) both.1 f)
  where
    both : (step_answer P false g n S ≡ Done) × (packets_answer P fs ns (changed P false g n S) ≡ Done)
    both = first_done _ _ all

    go : (b : Bool) → eqb g f ≡ b → (cond b (pos n) (pos 0) +ℤ net_count (entries_of fs ns) f ≡ pos 0 → ⊥) → ((net_count (entries_of fs ns) f ≡ pos 0 → ⊥) → is_flow P f ≡ true) → is_flow P f ≡ true
    go true q some ih = subst (λ (f : ℕ). is_flow P f ≡ true) (eqb-true g f q) (step_done P false g n S both.0).let_in.flow
    go false q some ih = ih (λ z. some (+ℤ_idl (net_count (entries_of fs ns) f) ∙ z))

stream_flows : {P : Params} {c : List ℕ} {R : Sketch} → StreamRead P c (zeros P) Done R → (f : ℕ) → (net_count (packets_of c) f ≡ pos 0 → ⊥) → is_flow P f ≡ true
unfolding all_answer
stream_flows {P} {c} r =
    let all = first_done _ _ (sym (reads_as_inserted r).answer) in
    packets_flows P (flows_in c) (numbers_in c) (zeros P) (refuse_done (not (eqb (length (flows_in c)) (length (numbers_in c)))) Length 0 _ all.1).1

-- the net count of an entry's flow is its number, where no flow has two entries
net_at : (es : List Entry) (i : ℕ) (none : Entry) → once es ≡ true → i < length es → net_count es (get_or es i none).flow ≡ (get_or es i none).number
unfolding net_count once
net_at [] i none o l = absurd (omega arith)
net_at (e ∷ es) zero none o l =
    let rest = net_none e.flow es (not-true _ (and_true (not (has e.flow es)) (once es) o).0) in
    rw (eq-eqb e.flow e.flow refl, rest) (+ℤ_idr e.number)
net_at (e ∷ es) (suc i) none o l =
    let other = ne_eqb e.flow (get_or es i none).flow (once_at (e ∷ es) 0 (suc i) none o (omega arith) l) in
    rw other (+ℤ_idl (net_count es (get_or es i none).flow) ∙ net_at es i none (and_true (not (has e.flow es)) (once es) o).1 (omega arith))

-- of two numbers whose difference is not 0 one is not 0
one_nonzero : (x y : ℤ) → (x -ℤ y ≡ pos 0 → ⊥) → (x ≡ pos 0 → ⊥) ⊎ (y ≡ pos 0 → ⊥)
one_nonzero x y d = go (is_zero x) refl
  where
    go : (b : Bool) → is_zero x ≡ b → (x ≡ pos 0 → ⊥) ⊎ (y ≡ pos 0 → ⊥)
    go true e = inr (λ z. d (ap₂ ◌-ℤ◌ (zero_is x e) z))
    go false e = inl (λ z. true≢false (sym (is_zero_lem x z) ∙ e))

-- what is lost of a flow is no more than went in upstream, and what is gained no more than went in downstream
lost_below : (x y : ℤ) → pos 0 ≤ℤ x → pos 0 ≤ℤ y → pos (up (x -ℤ y)) ≤ℤ x
lost_below x y h k =
    ⊎_elim
    (λ e. omega (int, e, h, up_down_add x (neg_ℤ y), up_neg y, down_neg y))
    (λ e. omega (int, e, h, k, up_down_add x (neg_ℤ y), up_neg y, down_neg y))
    (one_part (x -ℤ y))

gained_below : (x y : ℤ) → pos 0 ≤ℤ x → pos 0 ≤ℤ y → pos (down (x -ℤ y)) ≤ℤ y
gained_below x y h k =
    ⊎_elim
    (λ e. omega (int, e, h, k, up_down_add x (neg_ℤ y), up_neg y, down_neg y))
    (λ e. omega (int, e, k, up_down_add x (neg_ℤ y), up_neg y, down_neg y))
    (one_part (x -ℤ y))

-- two streams that were accepted, and a list of the net counts between them whose flows have buckets of their own in array 1
module _ {P : Params} {a b : List ℕ} {S T : Sketch} (one : StreamRead P a (zeros P) Done S) (two : StreamRead P b (zeros P) Done T)
    (es : List Entry) (nets : (f : ℕ) → net_between a b f ≡ net_count es f) (nonzero : all_nonzero es ≡ true) (own : own_buckets P es ≡ true) where
  -- each of its flows is in an accepted packet, and so is a flow
  flows : all_flows P es ≡ true
  flows =
      let none : Entry = by 0 (pos 0) in
      all_of _ es none
      (λ i l.
      let e : Entry = get_or es i none in
      let some : net_between a b e.flow ≡ pos 0 → ⊥ =
      λ z. true≢false (sym (is_zero_lem e.number (sym (net_at es i none (own_once P es own) l) ∙ sym (nets e.flow) ∙ z)) ∙ not-true _ (all_at _ es i none nonzero l)) in
      ⊎_elim (stream_flows one e.flow) (stream_flows two e.flow) (one_nonzero (net_count (packets_of a) e.flow) (net_count (packets_of b) e.flow) some))

  -- so in every bucket the losses are within the count of the one stream's sketch, and the gains within that of the other's
  part_within : (part : ℤ → ℕ) → part (pos 0) ≡ 0 → {c : List ℕ} {R : Sketch} → StreamRead P c (zeros P) Done R → ((f : ℕ) → pos (part (net_between a b f)) ≤ℤ net_count (packets_of c) f)
      → within_limits P (parts_by part es) ≡ true
  unfolding in_limits sketch_of
  part_within part none {c} {R} r below =
      within_all P (parts_by part es)
      (λ k l.
      let fewer : count_at P (parts_by part es) k ≤ℤ count_at P (packets_of c) k =
      net_bounds P (parts_by part es) (packets_of c)
      (λ f. subst (λ (z : ℤ). z ≤ℤ net_count (packets_of c) f) (ap (λ (z : ℤ). pos (part z)) (nets f) ∙ sym (net_part part none es (own_once P es own) f)) (below f))
      k in
      let count : count_in R k ≡ count_at P (packets_of c) k = ap (λ (R : Sketch). count_in R k) (history (fresh_history r)) ∙ from_at (size P) (count_at P (packets_of c)) k (pos 0) l in
      let limit : nat_abs (count_in R k) ≤ 2147483646 = limits_size (count_in R k) (whole (count_in R k) (idsum_in R k) ((fresh_grown r).undamaged k l)).0 in
      le-leb (nat_abs (count_at P (parts_by part es) k)) 2147483646
      (omega (int, fewer, limit, ap nat_abs count, ap up (part_is P part es k), ap down (part_is P part es k), abs_parts (count_at P (packets_of c) k), abs_parts (count_at P (parts_by part es) k))))

  -- the list is sure
  pub streams_sure : Sure P es
  streams_sure =
      record {
        flows = flows;
        nonzero = nonzero;
        own = own;
        losses = part_within up refl one (λ f. lost_below _ _ (packets_above (flows_in a) (numbers_in a) f) (packets_above (flows_in b) (numbers_in b) f));
        gains = part_within down refl two (λ f. gained_below _ _ (packets_above (flows_in a) (numbers_in a) f) (packets_above (flows_in b) (numbers_in b) f));
      }

  -- and a report of the two is that list in rising position in array 1, and a clean end after a pop for each flow
  pub report_works : {text : List ℕ} → Reported P (a ++ b) text → text ≡ entry_lines (in_rising P es) ++ end_line Clean (length es) (lost_by es) (extra_by es)
  report_works r =
      let h : Dimensions P = good_dimensions_lem P (fresh_grown one).good in
      let all : length es ≤ size P = enough P h es streams_sure in
      let w = surely P h es streams_sure (size P) (8 * size P) all (omega arith) in
      report_of_walk r
      ∙ ap (λ D. walk_text P (walk (rule_of P) (size P) (8 * size P) D)) (difference_is r refl one two ∙ difference_nets one two es nets)
      ∙ works_text w (clean_only P (size P) (8 * size P) (sketch_of P es) (ap ending_number w.ending))
