-- A walk over the sketch of a list that is sure takes the list's flows in rising position in array 1, one with each pop, and ends clean.
use Rattle.std.proofs.Common.{rules}
use mathlib.Core.Path.{◌≡◌, refl, sym, ap, ap₂, subst, ◌∙◌}
use mathlib.Core.Bool.{Bool, true, false, not, cond, ◌||◌, true≢false}
use mathlib.Core.List.{List, [], ◌∷◌, ◌++◌, map, append-nil, append_assoc}
use Prim.Native.Nat.{ℕ, zero, suc, ◌+◌, ◌≤◌, ◌<◌}
use native.Mathlib.Omega.{arith}
use borrow.Author.Tests.{lt-ltb, ne_eqb, eqb-false, not-true}
use lib.Dec.{eqb, leb}
use lib.IntN.{ℤ, pos, nat_abs, ◌+ℤ◌, ◌-ℤ◌, ◌*ℤ◌, +ℤ_idl, +ℤ_comm, +ℤ-neg_ℤ_cancel}
use lib.ListN.{length, length-append, length-map}
use Rattle.field.specs.Residue.{residue}
use Rattle.field.specs.Parts.{up, down}
use Rattle.field.proofs.Residues.{residue_below, residue_zero}
use Rattle.params.specs.declared.params.Params.{Params}
use Rattle.params.specs.Params.{prime_of, size, is_flow, Dimensions}
use Rattle.params.specs.Sketched.{sketched}
use Rattle.params.specs.Positions.{stand, bucket_of, stands}
use Rattle.params.proofs.Searches.{cannot_hold, and_true, all_below}
use Rattle.params.proofs.Extended.{told_sketched, sketched_is, sketched_below}
use Rattle.params.proofs.BucketNumbers.{stretch_within}
use Rattle.params.proofs.Indexes.{bucket_below, stands_in_bucket}
use Rattle.buckets.specs.Buckets.{in_limits, is_zero}
use Rattle.buckets.proofs.Idsums.{prime_pos, idsum_plus_minus_both}
use Rattle.buckets.proofs.Limits.{limits_size, whole_back}
use Rattle.buckets.proofs.Zeros.{is_zero_lem}
use Rattle.sketch.specs.Sketch.{Sketch, count_in, idsum_in, Entry, by, count_at, weight_at, sketch_of, zeros}
use Rattle.sketch.proofs.Tables.{length_from, from_at, touched_from}
use Rattle.sketch.proofs.Whole.{Whole}
use Rattle.sums.specs.History.{Rearranged}
use Rattle.sums.proofs.NetCounts.{order_free}
use Rattle.sums.proofs.Histories.{zeros_are}
use Rattle.walk.specs.declared.Ending.TheVariants.{Clean}
use Rattle.walk.specs.Walk.{State, goes, Outcome, all, any, nothing_remains, less, has, waits, requeue, in_range, has_room, taken, takes, follows, popped, before, after, run, first_queue, walk, close, summed}
use Rattle.walk.specs.Purity.{pure_test, rule_of}
use Rattle.walk.specs.Shown.{tell}
use Rattle.walk.specs.Sure.{first_position, all_flows, all_nonzero, within_limits, parts_by, SureLosses, Sure, in_rising, Works, rises}
use Rattle.walk.proofs.Alls.{both_true, all_at, all_of, nothing_count}
use Rattle.walk.proofs.Waiting.{or_true}
use Rattle.walk.proofs.Entries.{entry_none, credited_none, has_append}
use Rattle.walk.proofs.Figures.{told_summed}
use Rattle.walk.proofs.Bounds.{part_at, part_is, count_within, losses_sure}
use Rattle.walk.proofs.Purity.{pure_exactly}
use Rattle.walk.proofs.Rising.{all_rearranged, length_rearranged, summed_rearranged, map_rearranged, in_rising_same, in_rising_rises, rises_few, rises_past, position_below, stands_there, alone_count, alone_weight, queue_begins}
use Rattle.std.specs.Prelude.{Some}

-- what queues again stands behind what waits
module _ (at : ℕ → ℕ) (S : Sketch) where
  behind : (i n : ℕ) (q r : List ℕ) → (rest : List ℕ) × (requeue at S i n (q ++ r) ≡ q ++ rest)
  unfolding requeue
  behind i zero q r = (r, refl)
  behind i (suc n) q r = go (is_zero (count_in S (at i))) (waits (at i) (q ++ r)) (behind (suc i) n q)
    where
      go : (z w : Bool) → ((r : List ℕ) → (rest : List ℕ) × (requeue at S (suc i) n (q ++ r) ≡ q ++ rest))
          → (rest : List ℕ) × (requeue at S (suc i) n (cond z (q ++ r) (cond w (q ++ r) ((q ++ r) ++ (at i ∷ [])))) ≡ q ++ rest)
      go true w ih = ih r
      go false true ih = ih r
      go false false ih = let next = ih (r ++ (at i ∷ [])) in (next.0, ap (requeue at S (suc i) n) (append_assoc q r (at i ∷ [])) ∙ next.1)

-- a number that is taken away again
back : (z y : ℤ) → (z +ℤ y) -ℤ z ≡ y
back z y = ap (λ (x : ℤ). x -ℤ z) (+ℤ_comm z y) ∙ +ℤ-neg_ℤ_cancel y z

count_left : (b : Bool) (c y : ℤ) → cond b ((cond b c (pos 0) +ℤ y) -ℤ c) (cond b c (pos 0) +ℤ y) ≡ y
count_left b c y = search rules

-- the same modulo the prime
module _ (P : Params) where
  idsum_left : (b : Bool) (z w : ℤ) → let p = prime_of P in
      cond b (residue p (pos (residue p (cond b z (pos 0) +ℤ w)) -ℤ pos (residue p z))) (residue p (cond b z (pos 0) +ℤ w)) ≡ residue p w
  idsum_left true z w = idsum_plus_minus_both true (z +ℤ w) z ∙ ap (residue (prime_of P)) (back z w)
  idsum_left false z w = ap (residue (prime_of P)) (+ℤ_idl w)

  -- an entry as the walk's table holds it: of what is sketched for its flow
  abbrev pub as_sketched : Entry → Entry
  as_sketched e = by (sketched P e.flow) e.number

  -- an entry taken from a list's sketch leaves the sketch of the others
  less_first : (g : Entry) (gs : List Entry)
      → less (rule_of P) (sketched P g.flow) g.number (residue (prime_of P) (g.number *ℤ pos (sketched P g.flow))) (sketch_of P (g ∷ gs)) ≡ sketch_of P gs
  unfolding less sketch_of count_at weight_at
  less_first g gs = search (rules, count_left, idsum_left, touched_from)

-- what is listed of what is sketched shows the list again
shown_back : (P : Params) (gs : List Entry) → all_nonzero gs ≡ true → map (tell P) (close (map (as_sketched P) gs)) ≡ gs
unfolding all close
shown_back P [] a = refl
shown_back P (g ∷ gs) a =
    let both = and_true (not (is_zero g.number)) (all_nonzero gs) a in
    rw (not-true (is_zero g.number) both.0) (ap₂ {B = List Entry} (λ f gs. by f g.number ∷ gs) (told_sketched P g.flow) (shown_back P gs both.1))

module _ (P : Params) (h : Dimensions P) where
  -- what is left of the list: its entries rise from some position on, and the table t has none of its flows
  record Left (gs t : List Entry) : Type 0 where
    flows : all_flows P gs ≡ true
    nonzero : all_nonzero gs ≡ true
    low : ℕ
    rising : rises P low gs ≡ true
    small : (k : ℕ) → k < size P → (part_at P up gs k ≤ 2147483646) × (part_at P down gs k ≤ 2147483646)
    unlisted : all (λ e. not (has (sketched P e.flow) t)) gs ≡ true

  -- what is left of array 1's buckets heads the queue, and the sketch is that of the rest of the list
  abbrev state : List Entry → List Entry → List ℕ → State
  state gs t rest = record { held = sketch_of P gs; queue = map (first_position P) gs ++ rest; table = t }

  -- the pop of the first
  module _ (g : Entry) (gs t : List Entry) (l : Left (g ∷ gs) t) where
    abbrev k : ℕ
    k = first_position P g

    abbrev f : ℕ
    f = sketched P g.flow

    abbrev c : ℤ
    c = g.number

    abbrev s : ℕ
    s = residue (prime_of P) (c *ℤ pos f)

    is_flow_lem : (is_flow P g.flow ≡ true) × (all_flows P gs ≡ true)
    unfolding all
    is_flow_lem = and_true (is_flow P g.flow) (all_flows P gs) l.flows

    is_nonzero : (not (is_zero c) ≡ true) × (all_nonzero gs ≡ true)
    unfolding all
    is_nonzero = and_true (not (is_zero c)) (all_nonzero gs) l.nonzero

    rises_behind : rises P (suc k) gs ≡ true
    unfolding rises
    rises_behind = (and_true (leb l.low k) (rises P (suc k) gs) l.rising).1

    is_unlisted : (has f t ≡ false) × (all (λ e. not (has (sketched P e.flow) t)) gs ≡ true)
    unfolding all
    is_unlisted = let both = and_true (not (has f t)) _ l.unlisted in (not-true _ both.0, both.1)

    inside : k < size P
    inside = omega (arith, position_below P h g, stretch_within P.d P.m 0 (omega (arith, h.d_low)))

    count_is : count_in (sketch_of P (g ∷ gs)) k ≡ c
    unfolding sketch_of
    count_is = from_at (size P) (count_at P (g ∷ gs)) k (pos 0) inside ∙ alone_count P h g gs rises_behind

    idsum_is : idsum_in (sketch_of P (g ∷ gs)) k ≡ s
    unfolding sketch_of
    idsum_is = from_at (size P) (λ k. residue (prime_of P) (weight_at P (g ∷ gs) k)) k 0 inside ∙ ap (residue (prime_of P)) (alone_weight P h g gs rises_behind)

    within : in_limits c ≡ true
    within = ap in_limits (sym (alone_count P h g gs rises_behind)) ∙ count_within P (g ∷ gs) k (l.small k inside).0 (l.small k inside).1

    c_nonzero : c ≡ pos 0 → ⊥
    c_nonzero e = true≢false (sym (is_zero_lem c e) ∙ not-true _ is_nonzero.0)

    pure_is : pure_test P k c s ≡ Some f
    pure_is = search (rules, c_nonzero, is_flow_lem, prime_pos, pure_exactly, residue_below, sketched_below, sketched_is, stands_there, within)

    left_small : (j : ℕ) → j < size P → (part_at P up gs j ≤ 2147483646) × (part_at P down gs j ≤ 2147483646)
    unfolding part_at
    left_small j i = search rules

    -- the take is within the range: what it leaves in a bucket is the sum of the others' numbers there
    left_within : (j : ℕ) → j < size P → stands P g.flow j ≡ true → in_limits (count_in (sketch_of P (g ∷ gs)) j -ℤ c) ≡ true
    unfolding sketch_of count_at
    left_within j i e =
        let at : count_at P (g ∷ gs) j ≡ c +ℤ count_at P gs j = ap (λ (b : Bool). cond b c (pos 0) +ℤ count_at P gs j) e in
        ap (λ (z : ℤ). in_limits (z -ℤ c)) (from_at (size P) (count_at P (g ∷ gs)) j (pos 0) i ∙ at)
        ∙ ap in_limits (back c (count_at P gs j))
        ∙ count_within P gs j (left_small j i).0 (left_small j i).1

    range_is : (q : List ℕ) → in_range (rule_of P) f c (record { held = sketch_of P (g ∷ gs); queue = q; table = t }) ≡ true
    unfolding in_range
    range_is q = search (rules, all_below, both_true, bucket_below, entry_none, is_unlisted, left_within, stands_in_bucket, within)

    room_is : (slots : ℕ) → length t < slots → has_room slots f t ≡ true
    unfolding has_room
    room_is slots u = or_true (has f t) _ (lt-ltb (length t) slots u)

    popped_is : (slots : ℕ) (q : List ℕ) → length t < slots → let st : State = record { held = sketch_of P (g ∷ gs); queue = q; table = t } in popped (rule_of P) slots k st ≡ goes (taken (rule_of P) f c s st)
    unfolding popped follows takes
    popped_is slots q u = search (rules, count_is, idsum_is, pure_is, range_is, room_is)

    -- what it leaves
    abbrev listed : List Entry
    listed = t ++ (as_sketched P g ∷ [])

    taken_is : (q : List ℕ) → (rest : List ℕ) × (taken (rule_of P) f c s (record { held = sketch_of P (g ∷ gs); queue = map (first_position P) gs ++ q; table = t }) ≡ state gs listed rest)
    unfolding taken
    taken_is q =
        let S = less (rule_of P) f c s (sketch_of P (g ∷ gs)) in
        let next = behind (λ i. bucket_of P i f) S 1 P.d (map (first_position P) gs) q in
        let held = less_first P g gs in
        let table = credited_none f c t is_unlisted.0 in
        (next.0, λ i. record { held = held i; queue = next.1 i; table = table i })

    still_unlisted : (x : ℕ) → has x t ≡ false → eqb f x ≡ false → has x listed ≡ false
    unfolding has any
    still_unlisted x a d = has_append x t (as_sketched P g ∷ []) ∙ ap₂ ◌||◌ a (ap (λ (b : Bool). b || false) d)

    others_unlisted : (es : List Entry) → all (λ e. not (has (sketched P e.flow) t)) es ≡ true → all (λ e. not (eqb (first_position P e) k)) es ≡ true
        → all (λ e. not (has (sketched P e.flow) listed)) es ≡ true
    unfolding all
    others_unlisted [] a d = refl
    others_unlisted (e ∷ es) a d =
        let x = sketched P e.flow in
        let old = and_true (not (has x t)) (all (λ e. not (has (sketched P e.flow) t)) es) a in
        let other = and_true (not (eqb (first_position P e) k)) (all (λ e. not (eqb (first_position P e) k)) es) d in
        let differs : eqb f x ≡ false = ne_eqb f x (λ q. eqb-false (first_position P e) k (not-true _ other.0) (ap (stand P 0) (sym q))) in
        both_true _ _ (ap not (still_unlisted x (not-true _ old.0) differs)) (others_unlisted es old.1 other.1)

    left_is : Left gs listed
    left_is =
        record {
          flows = is_flow_lem.1;
          nonzero = is_nonzero.1;
          low = suc k;
          rising = rises_behind;
          small = left_small;
          unlisted = others_unlisted gs is_unlisted.1 (rises_past P k (suc k) gs (omega arith) rises_behind);
        }

    -- something remains while a flow is left
    some_left : nothing_remains (sketch_of P (g ∷ gs)) ≡ false
    some_left = cannot_hold _ (λ e. c_nonzero (sym count_is ∙ nothing_count (sketch_of P (g ∷ gs)) e k))

  nothing_left : nothing_remains (sketch_of P []) ≡ true
  unfolding nothing_remains sketch_of count_at weight_at
  nothing_left =
      both_true _ _
      (all_of is_zero _ (pos 0) (λ i l. ap is_zero (from_at (size P) (λ k. pos 0) i (pos 0) (omega (arith, length_from 0 (size P) (count_at P []))))))
      (all_of (λ s. eqb s 0) _ 0 (λ i l. ap (λ (s : ℕ). eqb s 0) (from_at (size P) (λ k. residue (prime_of P) (pos 0)) i 0 (omega (arith, length_from 0 (size P) (λ k. residue (prime_of P) (weight_at P [] k)))) ∙ residue_zero (prime_of P))))

  -- how it ends: what was listed, and then the rest in turn
  abbrev cleared : ℕ → List Entry → Outcome
  cleared n t = record { ending = Clean; pops = n; remainder = sketch_of P []; table = t }

  run_left : (slots : ℕ) (gs t : List Entry) (rest : List ℕ) (a n : ℕ) → Left gs t → length gs ≤ a → length t + length gs ≤ slots
      → run (rule_of P) slots a n (state gs t rest) ≡ cleared (n + length gs) (t ++ map (as_sketched P) gs)
  unfolding run before after
  run_left slots [] t rest zero n l u v = rw nothing_left (ap₂ cleared (omega arith) (sym (append-nil t)))
  run_left slots [] t rest (suc a) n l u v = rw nothing_left (ap₂ cleared (omega arith) (sym (append-nil t)))
  run_left slots (g ∷ gs) t rest zero n l u v = absurd (omega arith)
  run_left slots (g ∷ gs) t rest (suc a) n l u v =
      let next = taken_is g gs t l rest in
      rw (some_left g gs t l, popped_is g gs t l slots (map (first_position P) gs ++ rest) (omega arith), next.1)
      (run_left slots gs (listed g gs t l) next.0 a (suc n) (left_is g gs t l) (omega arith) (omega (arith, length-append t (as_sketched P g ∷ [])))
      ∙ ap₂ cleared (omega arith) (append_assoc t (as_sketched P g ∷ []) (map (as_sketched P) gs)))

-- the whole walk over the sketch of a list that is sure
module _ (P : Params) (h : Dimensions P) (es : List Entry) (sure : Sure P es) where
  abbrev rising : List Entry
  rising = in_rising P es

  same : Rearranged es rising
  same = in_rising_same P es

  nonzero : all_nonzero rising ≡ true
  nonzero = sym (all_rearranged _ same) ∙ sure.nonzero

  -- each part of the list is within the limits
  part_small : (part : ℤ → ℕ) → within_limits P (parts_by part es) ≡ true → (k : ℕ) → k < size P → part_at P part rising k ≤ 2147483646
  unfolding sketch_of
  part_small part within k l =
      let counts : List ℤ = (sketch_of P (parts_by part es)).counts in
      let at : count_in (sketch_of P (parts_by part es)) k ≡ pos (part_at P part rising k) =
      ap (λ S. count_in S k) (order_free P (map_rearranged (λ e. by e.flow (pos (part e.number))) same))
      ∙ from_at (size P) (count_at P (parts_by part rising)) k (pos 0) l
      ∙ part_is P part rising k in
      let inside : k < length counts = omega (arith, length_from 0 (size P) (count_at P (parts_by part es))) in
      omega (arith, limits_size _ (all_at in_limits counts k (pos 0) within inside), ap nat_abs at)

  small : (k : ℕ) → k < size P → (part_at P up rising k ≤ 2147483646) × (part_at P down rising k ≤ 2147483646)
  small k l = (part_small up sure.losses k l, part_small down sure.gains k l)

  all_left : Left P h rising []
  unfolding has any all
  all_left =
      record {
        flows = sym (all_rearranged _ same) ∙ sure.flows;
        nonzero = nonzero;
        low = 0;
        rising = in_rising_rises P es sure.own;
        small = small;
        unlisted = all_of (λ (e : Entry). not (has (sketched P e.flow) [])) rising (by 0 (pos 0)) (λ i l. refl);
      }

  -- there is a bucket with a count for each flow, and there are no more flows than array 1 has buckets
  queue : (rest : List ℕ) × (first_queue 0 (sketch_of P es).counts ≡ map (first_position P) rising ++ rest)
  queue =
      let q = queue_begins P h rising (in_rising_rises P es sure.own) nonzero in
      (q.0, ap (λ (S : Sketch). first_queue 0 S.counts) (order_free P same) ∙ q.1)

  pub a_bucket_each : length es ≤ length (first_queue 0 (sketch_of P es).counts)
  a_bucket_each = search (rules, length-append, length-map, length_rearranged, queue, same)

  pub few_flows : length es ≤ P.m
  few_flows = omega (arith, length_rearranged same, rises_few P 0 rising (omega arith) (position_below P h) (in_rising_rises P es sure.own))

  -- no bucket is outside its limits
  pub sure_whole : Whole P (sketch_of P es)
  unfolding sketch_of
  sure_whole =
      record {
        counts_long = length_from 0 (size P) (count_at P es);
        idsums_long = length_from 0 (size P) (λ k. residue (prime_of P) (weight_at P es k));
        undamaged = λ k l.
            whole_back (count_in (sketch_of P es) k) (idsum_in (sketch_of P es) k)
            (ap in_limits (ap (λ S. count_in S k) (order_free P same) ∙ from_at (size P) (count_at P rising) k (pos 0) l)
            ∙ count_within P rising k (small k l).0 (small k l).1)
            (rw (from_at (size P) (λ k. residue (prime_of P) (weight_at P es k)) k 0 l) (residue_below (prime_of P) prime_pos _));
      }

  module _ (slots allowance : ℕ) (room : length es ≤ slots) (pops : length es ≤ allowance) where
    walk_is : walk (rule_of P) slots allowance (sketch_of P es) ≡ record { ending = Clean; pops = length es; remainder = zeros P; table = map (as_sketched P) rising }
    unfolding walk
    walk_is =
        let many : length rising ≡ length es = sym (length_rearranged same) in
        ap₂ (λ (S : Sketch) (q : List ℕ). run (rule_of P) slots allowance 0 (record { held = S; queue = q; table = [] })) (order_free P same) queue.1
        ∙ run_left P h slots rising [] queue.0 allowance 0 all_left (omega (arith, many)) (omega (arith, many))
        ∙ ap₂ (λ (n : ℕ) (S : Sketch). record { ending = Clean; pops = n; remainder = S; table = map (as_sketched P) rising }) (omega (arith, many)) (sym (zeros_are P))

    -- with a slot and a pop for each flow it works
    pub surely : Works P es (walk (rule_of P) slots allowance (sketch_of P es))
    surely =
        subst (Works P es) (sym walk_is)
        (record {
          ending = refl;
          pops = refl;
          remainder = refl;
          table = shown_back P rising nonzero;
          lost = sum_back up;
          extra = sum_back down;
        })
      where
        sum_back : (part : ℤ → ℕ) → summed part (close (map (as_sketched P) rising)) ≡ summed part es
        sum_back part = sym (told_summed P part (close (map (as_sketched P) rising))) ∙ ap (summed part) (shown_back P rising nonzero) ∙ sym (summed_rearranged part same)

-- so in the words of the request: a slot for each flow, and as many pops as there are buckets with a count that is not 0
pub surely_as_requested : (P : Params) (es : List Entry) (slots allowance : ℕ) → Dimensions P → SureLosses P es → length es ≤ slots → length (first_queue 0 (sketch_of P es).counts) ≤ allowance
    → Works P es (walk (rule_of P) slots allowance (sketch_of P es))
surely_as_requested P es slots allowance h s room pops = surely P h es (losses_sure s) slots allowance room (omega (arith, a_bucket_each P h es (losses_sure s), pops))
