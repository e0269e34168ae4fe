-- What a caller of `peel` may rely on: the promises of peeling, at the answer it gets and the slices it lent.
use mathlib.Core.Path.{◌≡◌, refl, sym, ap, subst, ◌∙◌}
use mathlib.Core.Bool.{true, false}
use mathlib.Core.List.{List, [], ◌∷◌}
use Prim.Native.Nat.{ℕ, ◌+◌, ◌*◌, ◌<◌, ◌≤◌}
use native.Mathlib.Omega.{arith}
use lib.IntN.{ℤ, pos, ◌+ℤ◌, ◌-ℤ◌}
use lib.ListN.{length, get_or, replicate, length-map}
use Rattle.params.proofs.Changes.{padded_past}
use Rattle.params.specs.Lists.{padded}
use Rattle.field.specs.Parts.{up, down}
use Rattle.field.specs.Flow.{flow}
use Rattle.params.specs.declared.params.Params.{Params}
use Rattle.params.specs.declared.answers.Refusal.TheVariants.{Damage}
use Rattle.params.specs.Answers.{number_in, index_in, kept, Answer, Done, Given, given}
use Rattle.params.specs.Params.{prime_of, size, is_flow, Dimensions}
use Rattle.params.specs.Sketched.{is_sketched}
use Rattle.params.specs.Positions.{sketched_stands}
use Rattle.buckets.specs.Buckets.{in_limits}
use Rattle.sketch.specs.Sketch.{Sketch, Entry, by, count_in, idsum_in, damaged_at, sketch_of}
use Rattle.sums.specs.Sums.{combined}
use Rattle.sketch.proofs.Tables.{from_at}
use Rattle.walk.specs.Endings.{ending_number}
use Rattle.walk.specs.Walk.{Outcome, first_queue, walk, closed_table, lost_by, extra_by}
use Rattle.walk.specs.Purity.{pure_test, found_number, rule_of}
use Rattle.walk.specs.Shown.{tell, shown_table}
use Rattle.walk.specs.Sure.{all_flows, all_positive, own_buckets, Sure, Works}
use Rattle.walk.proofs.Numbers.{pure_by_number, never_four as no_ending_four}
use Rattle.walk.proofs.Figures.{all_counts, told_summed, figures_differ as of_table}
use Rattle.walk.proofs.ArrayTotals.{array_total}
use Rattle.walk.proofs.Rising.{length_rearranged, in_rising_same}
use Rattle.walk.proofs.Sure.{a_bucket_each, sure_whole, surely}
use Rattle.walk.proofs.Bounds.{losses_sure, whole_limits}
use Rattle.walk.proofs.Promises as walks
use Rattle.sketch.proofs.Whole.{Whole}
use Rattle.walk.proofs.Promises.{Nothing, scope_rule}
use Rattle.params.proofs.Judging.{number_done, kept_new, first_passed, refuse_none}
use Rattle.peel.specs.Slices.{Slices, lent_sketch}
use Rattle.peel.specs.Table.{row, table_of}
use Rattle.peel.specs.Peel.{walk_lent_answer, peel_answer, peeled_of, peeled_ending, peeled_pops, peeled_lost, peeled_extra, peeled_entries, flows_of, numbers_of, closed_slices, judged, walked, Peels}
use Rattle.peel.specs.Sure.{PeelWorks}
use Rattle.peel.proofs.Padding.{flows_many, numbers_many, table_padded}
use Rattle.peel.proofs.Judged.{lent_passed, judged_whole, judged_peelable}
use Rattle.std.specs.Prelude.{Ok, Err}
use Rattle.peel.specs.declared.peeling.Figures.{Figures}

-- the number and the index of what is given are those of its answer
given_number : {A : Type 0} (x : Answer) (y : A) → number_in (given x y) ≡ number_in x
given_number Done y = refl
given_number (Err r) y = refl

given_index : {A : Type 0} (x : Answer) (y : A) → index_in (given x y) ≡ index_in x
given_index Done y = refl
given_index (Err r) y = refl

refusal_keeps : {A : Type 0} (x : Answer) (old new : A) → (number_in x ≡ 0 → ⊥) → kept x old new ≡ old
unfolding kept
refusal_keeps Done old new n = absurd (n refl)
refusal_keeps (Err r) old new n = refl

-- no answer of peeling has the ending 4
pub never_four : (r : Given Figures) → peeled_ending r ≡ 4 → ⊥
never_four (Ok g) e = no_ending_four g.ending e
never_four (Err r) e = omega arith

-- h is what the contract of `peel` gives: L is what was lent, L' what it holds after
module _ {P : Params} {a : ℕ} {L : Slices} {r : Given Figures} {L' : Slices} (h : Peels P a L r L') where
  abbrev o : Outcome
  o = walked P a L

  abbrev verdict : Answer
  verdict = judged P L

  -- the sketch that was lent, and what it holds after
  abbrev S : Sketch
  S = lent_sketch L

  abbrev S' : Sketch
  S' = lent_sketch L'

  -- the walk's table as it is shown, and the table as the caller reads it
  abbrev closed : List Entry
  closed = shown_table P o

  abbrev pub listed : List Entry
  listed = table_of L'.flows L'.numbers (peeled_entries r)

  -- the answer's number and index are what was judged
  pub number_is : number_in r ≡ number_in verdict
  number_is = ap number_in h.answer ∙ given_number verdict _

  pub index_is : index_in r ≡ index_in verdict
  index_is = ap index_in h.answer ∙ given_index verdict _

  -- a refusal alters nothing
  pub refused_keeps : (number_in r ≡ 0 → ⊥) → L' ≡ L
  refused_keeps refused = h.after ∙ refusal_keeps verdict _ _ (λ e. refused (number_is ∙ e))

  -- the sketch of a list that is sure is not refused where the parameters and all lengths are right: none of its buckets is damaged
  pub sure_ends : walk_lent_answer P (length L.counts) (length L.idsums) (length L.flows) (length L.numbers) (length L.queue) (length L.marks) ≡ Done
      → (es : List Entry) → S ≡ sketch_of P es → Sure P es → number_in r ≡ 0
  unfolding peel_answer
  sure_ends lent es of-list sure =
      let sound : Whole P S = subst (Whole P) (sym of-list) (sure_whole P (lent_passed P _ _ _ _ _ _ lent).0 es sure) in
      number_is ∙ ap number_in (first_passed _ _ lent ∙ refuse_none (size P) (damaged_at S) Damage Done sound.undamaged)

  -- from here on peeling ended
  module _ (ended : number_in r ≡ 0) where
    done : verdict ≡ Done
    done = number_done verdict (sym number_is ∙ ended)

    answer_is : r ≡ peeled_of Done o
    answer_is = h.answer ∙ ap (λ (x : Answer). peeled_of x o) done

    after_is : L' ≡ closed_slices P o L
    after_is = h.after ∙ sym (kept_new verdict _ _ done)

    remainder_is : S' ≡ o.remainder
    remainder_is = ap lent_sketch after_is

    flows_are : L'.flows ≡ padded (length L.flows) 0 (flows_of closed)
    flows_are = ap (λ (L : Slices). L.flows) after_is

    numbers_are : L'.numbers ≡ padded (length L.numbers) (pos 0) (numbers_of closed)
    numbers_are = ap (λ (L : Slices). L.numbers) after_is

    entries_are : peeled_entries r ≡ length closed
    entries_are = ap peeled_entries answer_is ∙ sym (length-map (closed_table o) (tell P))

    ending_is : peeled_ending r ≡ ending_number o.ending
    ending_is = ap peeled_ending answer_is

    pub listed_is : listed ≡ closed
    listed_is = rw (flows_are, numbers_are, entries_are) (table_padded closed (length L.flows) (length L.numbers))

    -- the parameters keep their rules, and what was lent is a whole sketch
    pub dimensions_are : Dimensions P
    dimensions_are = (judged_peelable P L done).dimensions

    pub sound_input : Whole P S
    sound_input = judged_whole P L done

    -- what is returned and what the slices hold are those of the walk by the scope's test
    pub by_scope_test : let x = walk (scope_rule P) (length L.flows) a S in (r ≡ peeled_of Done x) × (L' ≡ closed_slices P x L)
    by_scope_test =
        let same = walks.by_scope_test P (length L.flows) a S sound_input in
        (answer_is ∙ ap (peeled_of Done) same, after_is ∙ ap (λ (x : Outcome). closed_slices P x L) same)

    -- the table's sketch, added to the remainder, is the input
    pub balance : combined false S' (sketch_of P listed) ≡ S
    balance = rw (remainder_is, listed_is) (walks.balance P (length L.flows) a S sound_input)

    -- the remainder is whole too
    pub remainder_whole : Whole P S'
    remainder_whole = subst (Whole P) (sym remainder_is) (walks.remainder_whole P (length L.flows) a S sound_input)

    -- clean exactly where nothing remains, and the table's sketch is the input then
    pub clean_exactly : (peeled_ending r ≡ 1 → Nothing S') × (Nothing S' → peeled_ending r ≡ 1)
    clean_exactly = (
      λ e. subst (λ (T : Sketch). Nothing T) (sym remainder_is) (walks.clean_only P (length L.flows) a S (sym ending_is ∙ e)),
      λ n. ending_is ∙ walks.clean_if P (length L.flows) a S (subst (λ (T : Sketch). Nothing T) remainder_is n),
    )

    pub clean_table : peeled_ending r ≡ 1 → sketch_of P listed ≡ S
    clean_table e = ap (sketch_of P) listed_is ∙ walks.clean_table P (length L.flows) a S sound_input (sym ending_is ∙ e)

    -- stuck only where something remains, and no bucket of it passes the purity test
    pub stuck_remains : peeled_ending r ≡ 2 → Nothing S' → ⊥
    stuck_remains e n = walks.stuck_remains P (length L.flows) a S (sym ending_is ∙ e) (subst (λ (T : Sketch). Nothing T) remainder_is n)

    pub stuck_only : peeled_ending r ≡ 2 → (k : ℕ) → k < size P → found_number (pure_test P k (count_in S' k) (idsum_in S' k)) ≡ 1 → ⊥
    stuck_only e k l t =
        walks.stuck_only P (length L.flows) a S sound_input (sym ending_is ∙ e) k _ l
        (pure_by_number _ (subst (λ (T : Sketch). found_number (pure_test P k (count_in T k) (idsum_in T k)) ≡ 1) remainder_is t))

    -- so where a count remains, the one number of its bucket is not sketched for any flow, or does not stand there
    pub stuck_stands : peeled_ending r ≡ 2 → (k : ℕ) → k < size P → (count_in S' k ≡ pos 0 → ⊥) → let x = flow (prime_of P) (count_in S' k) (idsum_in S' k) in is_sketched P x ≡ true → sketched_stands P x k ≡ false
    stuck_stands e k l d of_flow =
        subst (λ (T : Sketch). sketched_stands P (flow (prime_of P) (count_in T k) (idsum_in T k)) k ≡ false) (sym remainder_is)
        (walks.stuck_stands P (length L.flows) a S sound_input (sym ending_is ∙ e) k l (λ z. d (ap (λ (T : Sketch). count_in T k) remainder_is ∙ z))
        (subst (λ (T : Sketch). is_sketched P (flow (prime_of P) (count_in T k) (idsum_in T k)) ≡ true) remainder_is of_flow))

    -- the sketch of flow 0 alone is stuck where a pop of each bucket with a count is allowed: these are made, nothing is listed, and all of it remains
    pub flow_zero_stuck : (n : ℤ) → (n ≡ pos 0 → ⊥) → S ≡ sketch_of P (by 0 n ∷ []) → length (first_queue 0 S.counts) ≤ a
        → (peeled_ending r ≡ 2) × (peeled_pops r ≡ length (first_queue 0 S.counts)) × (peeled_entries r ≡ 0) × (S' ≡ S)
    flow_zero_stuck n nonzero s l =
        let w = walks.flow_zero_stuck P (length L.flows) a S dimensions_are n nonzero s l in
        (ending_is ∙ w.0, ap peeled_pops answer_is ∙ w.1, entries_are ∙ ap length w.2, remainder_is ∙ w.3)

    -- never more pops than allowed, and all of them where the end is spent
    pops_are : peeled_pops r ≡ o.pops
    pops_are = ap peeled_pops answer_is

    pub pops_within : peeled_pops r ≤ a
    pops_within = omega (arith, pops_are, walks.pops_within P (length L.flows) a S)

    pub spent_only : peeled_ending r ≡ 3 → peeled_pops r ≡ a
    spent_only e = pops_are ∙ walks.spent_only P (length L.flows) a S (sym ending_is ∙ e)

    -- slot i of the table, below its entries
    slot_is : (i : ℕ) → i < peeled_entries r → get_or closed i (by 0 (pos 0)) ≡ row L'.flows L'.numbers i
    unfolding table_of
    slot_is i l =
        ap (λ (t : List Entry). get_or t i (by 0 (pos 0))) (sym listed_is)
        ∙ from_at (peeled_entries r) (row L'.flows L'.numbers) i (by 0 (pos 0)) l

    pub listed_not_zero : (i : ℕ) → i < peeled_entries r → get_or L'.numbers i (pos 0) ≡ pos 0 → ⊥
    listed_not_zero i l z = walks.listed_not_zero P (length L.flows) a S i (omega (arith, entries_are)) (ap (λ (e : Entry). e.number) (slot_is i l) ∙ z)

    pub listed_within : (i : ℕ) → i < peeled_entries r → in_limits (get_or L'.numbers i (pos 0)) ≡ true
    listed_within i l =
        ap (λ (e : Entry). in_limits e.number) (sym (slot_is i l)) ∙ walks.listed_within P (length L.flows) a S i (omega (arith, entries_are))

    -- every listed flow is one, so that none is flow 0
    pub listed_are_flows : (i : ℕ) → i < peeled_entries r → is_flow P (get_or L'.flows i 0) ≡ true
    listed_are_flows i l =
        ap (λ (e : Entry). is_flow P e.flow) (sym (slot_is i l)) ∙ walks.listed_are_flows P (length L.flows) a S i (omega (arith, entries_are))

    pub never_flow_zero : (i : ℕ) → i < peeled_entries r → get_or L'.flows i 0 ≡ 0 → ⊥
    never_flow_zero i l z = walks.never_flow_zero P (length L.flows) a S i (omega (arith, entries_are)) (ap (λ (e : Entry). e.flow) (slot_is i l) ∙ z)

    pub listed_once : (i j : ℕ) → i < j → j < peeled_entries r → get_or L'.flows i 0 ≡ get_or L'.flows j 0 → ⊥
    listed_once i j b l e =
        walks.listed_once P (length L.flows) a S i j b (omega (arith, entries_are))
        (ap (λ (x : Entry). x.flow) (slot_is i (omega arith)) ∙ e ∙ sym (ap (λ (x : Entry). x.flow) (slot_is j l)))

    pub listed_few : peeled_entries r ≤ length L.flows
    listed_few = omega (arith, entries_are, walks.listed_few P (length L.flows) a S)

    -- lost is the sum of the table's positive counts, and extra that of its negative ones without their sign
    pub lost_is : peeled_lost r ≡ lost_by listed
    lost_is = ap peeled_lost answer_is ∙ sym (told_summed P up (closed_table o)) ∙ ap lost_by (sym listed_is)

    pub extra_is : peeled_extra r ≡ extra_by listed
    extra_is = ap peeled_extra answer_is ∙ sym (told_summed P down (closed_table o)) ∙ ap extra_by (sym listed_is)

    -- lost less extra is the sum of all its counts
    pub figures_differ : pos (peeled_lost r) -ℤ pos (peeled_extra r) ≡ all_counts listed
    figures_differ = rw (lost_is, extra_is) (of_table listed)

    -- in every array, what the remaining counts add up to, with lost less extra, is what the counts of the input add up to
    pub totals : (i : ℕ) → 1 ≤ i → i ≤ P.d → array_total P i S' +ℤ (pos (peeled_lost r) -ℤ pos (peeled_extra r)) ≡ array_total P i S
    totals i l u =
        subst (λ (T : Sketch). array_total P i T +ℤ (pos (peeled_lost r) -ℤ pos (peeled_extra r)) ≡ array_total P i S) (sym remainder_is)
        (rw answer_is (walks.totals P (length L.flows) a S sound_input dimensions_are i l u))

    -- so after a clean end lost less extra is the sum of all numbers of any list whose sketch was peeled
    pub clean_total : peeled_ending r ≡ 1 → (es : List Entry) → S ≡ sketch_of P es → pos (peeled_lost r) -ℤ pos (peeled_extra r) ≡ all_counts es
    clean_total e es s =
        rw answer_is (walks.clean_total P (length L.flows) a S sound_input dimensions_are (sym ending_is ∙ e) es s)

    -- each loss is within lost and each gain within extra, whatever the other entries are
    pub lost_shows : (i : ℕ) → i < peeled_entries r → up (get_or L'.numbers i (pos 0)) ≤ peeled_lost r
    lost_shows i l =
        omega (arith, ap peeled_lost answer_is, ap (λ (e : Entry). up e.number) (slot_is i l), walks.lost_shows P (length L.flows) a S i (omega (arith, entries_are)))

    pub extra_shows : (i : ℕ) → i < peeled_entries r → down (get_or L'.numbers i (pos 0)) ≤ peeled_extra r
    extra_shows i l =
        omega (arith, ap peeled_extra answer_is, ap (λ (e : Entry). down e.number) (slot_is i l), walks.extra_shows P (length L.flows) a S i (omega (arith, entries_are)))

    -- both together are at most as many times the limit as there are entries
    pub figures_small : peeled_lost r + peeled_extra r ≤ peeled_entries r * 2147483646
    figures_small = rw (entries_are, ap peeled_lost answer_is, ap peeled_extra answer_is) (walks.figures_small P (length L.flows) a S)

    -- the sketch of a list that is sure is peeled clean where the table has a slot and the allowance a pop for each flow, and the table is the list
    module _ (es : List Entry) (of-list : S ≡ sketch_of P es) where
      pub works : Sure P es → length es ≤ length L.flows → length es ≤ a → PeelWorks P es r L'
      works sure room pops =
          let w : Works P es o = subst (λ (T : Sketch). Works P es (walk (rule_of P) (length L.flows) a T)) (sym of-list) (surely P dimensions_are es sure (length L.flows) a room pops) in
          record {
            number = ended;
            ending = ending_is ∙ ap ending_number w.ending;
            pops = pops_are ∙ w.pops;
            entries = entries_are ∙ ap length w.table ∙ sym (length_rearranged (in_rising_same P es));
            lost = ap peeled_lost answer_is ∙ w.lost;
            extra = ap peeled_extra answer_is ∙ w.extra;
            table = listed_is ∙ w.table;
            remainder = remainder_is ∙ w.remainder;
          }

      -- a list of losses is sure: that all is within the limits was judged
      pub losses_are_sure : all_flows P es ≡ true → all_positive es ≡ true → own_buckets P es ≡ true → Sure P es
      losses_are_sure flows positive own =
          losses_sure (record { flows = flows; positive = positive; own = own; within = whole_limits P es (subst (Whole P) of-list sound_input) })

      -- so in the words of the request it works: a slot for each flow, and as many pops as there are buckets with a count that is not 0
      pub works_as_requested : all_flows P es ≡ true → all_positive es ≡ true → own_buckets P es ≡ true → length es ≤ length L.flows → length (first_queue 0 S.counts) ≤ a → PeelWorks P es r L'
      works_as_requested flows positive own room pops =
          let sure : Sure P es = losses_are_sure flows positive own in
          works sure room (omega (arith, a_bucket_each P dimensions_are es sure, ap (λ (T : Sketch). length (first_queue 0 T.counts)) of-list))

    -- table slots past the entries, the queue and the marks are all 0
    pub cleared_flows : (k : ℕ) → peeled_entries r ≤ k → get_or L'.flows k 0 ≡ 0
    cleared_flows k l = rw flows_are (padded_past (length L.flows) 0 (flows_of closed) k (omega (arith, entries_are, flows_many closed)))

    pub cleared_numbers : (k : ℕ) → peeled_entries r ≤ k → get_or L'.numbers k (pos 0) ≡ pos 0
    cleared_numbers k l = rw numbers_are (padded_past (length L.numbers) (pos 0) (numbers_of closed) k (omega (arith, entries_are, numbers_many closed)))

    pub cleared_queue : L'.queue ≡ replicate (size P) 0
    cleared_queue = ap (λ (L : Slices). L.queue) after_is

    pub cleared_marks : L'.marks ≡ replicate (size P) 0
    cleared_marks = ap (λ (L : Slices). L.marks) after_is
