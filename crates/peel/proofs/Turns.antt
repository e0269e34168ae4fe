-- Laws of the walk's loop: what holds at its head, and what each way through a turn gives.
use mathlib.Core.Path.{◌≡◌, refl, sym, ap, ◌∙◌}
use mathlib.Core.Logic.{⊎_elim}
use mathlib.Core.Bool.{true, false}
use mathlib.Core.List.{List, [], ◌∷◌}
use Prim.Native.Nat.{ℕ, zero, suc, ◌+◌, ◌*◌, ◌-◌, ◌%◌, ◌≤◌, ◌<◌}
use native.Mathlib.Nat.{eq-or-lt_of_le}
use native.Mathlib.Numerals.{add-one}
use native.Mathlib.Omega.{arith}
use lib.IntN.{ℤ, pos, ◌+ℤ◌, +ℤ_idl}
use lib.ListN.{length, get_or}
use Rattle.params.specs.declared.params.Params.{Params}
use Rattle.params.specs.Lists.{from}
use Rattle.params.specs.Positions.{Positioned}
use Rattle.buckets.specs.Buckets.{in_limits}
use Rattle.sketch.specs.Sketch.{Sketch, count_in, idsum_in}
use Rattle.walk.specs.declared.Ending.{Ending}
use Rattle.walk.specs.declared.Ending.TheVariants.{Clean, Stuck, Spent, Range, Full}
use Rattle.walk.specs.Walk.{State, Outcome, out, stops, goes, nothing_remains, entry_of, taken, takes, follows, popped, run}
use Rattle.walk.specs.Purity.{pure_test, rule_of}
use Rattle.peel.specs.declared.take.Taken.{Taken}
use Rattle.peel.specs.Slices.{Slices, lent_sketch, with_marks}
use Rattle.peel.specs.Ring.{ring_place, ring, Popped}
use Rattle.peel.specs.Chains.{chain_key, Chained}
use Rattle.peel.specs.Table.{table_of, Finds}
use Rattle.peel.specs.declared.walking.Walked.{Walked}
use Rattle.peel.specs.Rep.{state_of, Holds, fits_at, Takes, Took, Walks}
use Rattle.peel.proofs.Chains.{chains_kept}
use Rattle.peel.proofs.Entries.{table_held, table_new, table_room, table_full}
use Rattle.peel.proofs.Nonzero.{nonzero_none, nonzero_some}
use Rattle.peel.proofs.Moves.{run_clean, run_stuck, run_spent, run_stops, run_goes}
use Rattle.peel.proofs.RangeLoop.{leaves_count, entry_decides}
use Rattle.std.specs.Prelude.{None, Some}

-- the ring's list where none waits, and where some do
ring_none : (q : List ℕ) (h w : ℕ) → w ≡ 0 → ring q h w ≡ []
unfolding ring from
ring_none q h w e = rw e

ring_some : (q : List ℕ) (h w : ℕ) → 0 < w → ring q h w ≡ get_or q (ring_place (length q) h 0) 0 % 65536 ∷ from 1 (w - 1) (λ i. get_or q (ring_place (length q) h i) 0 % 65536)
unfolding ring from
ring_some q h zero l = absurd (omega arith)
ring_some q h (suc w) l =
    let e : w ≡ suc w - 1 = omega arith in
    ap (λ (n : ℕ). get_or q (ring_place (length q) h 0) 0 % 65536 ∷ from 1 n (λ i. get_or q (ring_place (length q) h i) 0 % 65536)) e

-- what holds at the loop's head: the rest of the walk gives what the whole walk gives
pub record Inv (P : Params) (slots allowance : ℕ) (goal : Outcome) (L : Slices) (head waiting nonzero entries pops : ℕ) : Type 0 where
  pub holds : Holds P L head waiting nonzero entries
  pub long : length L.flows ≡ slots
  pub within : pops ≤ allowance
  pub runs : run (rule_of P) slots (allowance - pops) pops (state_of L head waiting entries) ≡ goal

-- every slice keeps its length, which follows from the table's
pub record Lengths (L L' : Slices) : Type 0 where
  pub counts : length L'.counts ≡ length L.counts
  pub idsums : length L'.idsums ≡ length L.idsums
  pub flows : length L'.flows ≡ length L.flows
  pub numbers : length L'.numbers ≡ length L.numbers
  pub queue : length L'.queue ≡ length L.queue
  pub marks : length L'.marks ≡ length L.marks

pub same_lengths : {P : Params} {L L' : Slices} {h w n e h' w' n' e' : ℕ} → Holds P L h w n e → Holds P L' h' w' n' e' → length L'.flows ≡ length L.flows → Lengths L L'
same_lengths a b l =
    record {
      counts = b.sane.long ∙ sym a.sane.long;
      idsums = b.sane.long_ids ∙ sym a.sane.long_ids;
      flows = l;
      numbers = b.slots ∙ l ∙ sym a.slots;
      queue = b.ringed.long ∙ sym a.ringed.long;
      marks = b.ringed.long_marks ∙ sym a.ringed.long_marks;
    }

-- a turn of the loop, which pops bucket k, and the marks are ms then
pub record Pops (P : Params) (slots allowance : ℕ) (goal : Outcome) (L : Slices) (head waiting nonzero entries pops k : ℕ) (ms : List ℕ) : Type 0 where
  pub invariant : Inv P slots allowance goal L head waiting nonzero entries pops
  pub unclean : nonzero ≡ 0 → ⊥
  pub popped : Popped (P.d * P.m) L.queue L.marks ms head waiting k
  pub more : pops ≡ allowance → ⊥

-- in the sketch S it is pure, of flow f, whose positions are ks
pub record Pure (P : Params) (S : Sketch) (k f : ℕ) (ks : List ℕ) : Type 0 where
  pub test : pure_test P k (count_in S k) (idsum_in S k) ≡ Some f
  pub positions : Positioned P f ks

abbrev ended : Ending → ℕ → ℕ → Walked
ended e n m = record { ending = e; pops = n; entries = m }

module _ {P : Params} {slots allowance : ℕ} {goal : Outcome} {L : Slices} {head waiting nonzero entries pops : ℕ} (v : Inv P slots allowance goal L head waiting nonzero entries pops) where
  same_long : length L.counts ≡ length L.idsums
  same_long = v.holds.sane.long ∙ sym v.holds.sane.long_ids

  -- a walk that ends at the head
  abbrev here : State
  here = state_of L head waiting entries

  ends : {e : Ending} {n : ℕ} {ms : List ℕ} → out e n here ≡ goal → Walks goal slots (ended e n entries) (with_marks ms L)
  ends h = record { outcome = h; room = omega (arith, v.holds.room, v.long) }

  pub clean : nonzero ≡ 0 → Walks goal slots (ended Clean pops entries) L
  clean e = ends (sym (run_clean (rule_of P) slots (allowance - pops) pops _ (nonzero_none L.counts L.idsums same_long (sym v.holds.counted ∙ e))) ∙ v.runs)

  module _ (unclean : nonzero ≡ 0 → ⊥) where
    remains : nothing_remains (lent_sketch L) ≡ false
    remains = nonzero_some L.counts L.idsums same_long (omega (arith, v.holds.counted))

    pub stuck : waiting ≡ 0 → Walks goal slots (ended Stuck pops entries) L
    stuck e = ends (sym (run_stuck (rule_of P) slots (allowance - pops) pops here remains (ring_none L.queue head waiting e)) ∙ v.runs)

    pub spent : 0 < waiting → pops ≡ allowance → Walks goal slots (ended Spent pops entries) L
    spent h e =
        ends (sym (run_spent (rule_of P) slots pops _ _ here remains (ring_some L.queue head waiting h))
        ∙ rw (let z : allowance - pops ≡ 0 = omega arith in z) at v.runs)

module _ {P : Params} {slots allowance : ℕ} {goal : Outcome} {L : Slices} {head waiting nonzero entries pops k : ℕ} {ms : List ℕ} (p : Pops P slots allowance goal L head waiting nonzero entries pops k ms) where
  -- the state once the bucket is popped
  abbrev next_head : ℕ
  next_head = ring_place (P.d * P.m) head 1

  abbrev next : State
  next = state_of L next_head (waiting - 1) entries

  abbrev v : Inv P slots allowance goal L head waiting nonzero entries pops
  v = p.invariant

  abbrev c : ℤ
  c = get_or L.counts k (pos 0)

  abbrev s : ℕ
  s = get_or L.idsums k 0

  pub popped_holds : Holds P (with_marks ms L) next_head (waiting - 1) nonzero entries
  popped_holds =
      let h = v.holds in
      record { dimensions = h.dimensions; sane = h.sane; slots = h.slots; ringed = p.popped.ringed; chained = chains_kept (λ j. refl) p.popped.above_marks h.chained; counted = h.counted; room = h.room }

  one_more : allowance - pops ≡ suc (allowance - (pops + 1))
  one_more = omega (arith, v.within, p.more)

  stop : {e : Ending} → popped (rule_of P) slots k next ≡ stops e → Walks goal slots (ended e (pops + 1) entries) (with_marks ms L)
  stop {e} m =
      ends v (rw (add-one pops)
      (sym (run_stops (rule_of P) slots pops k _ (here v) (remains v p.unclean) p.popped.list (allowance - (pops + 1)) e m)
      ∙ rw one_more at v.runs))

  go_on : {st : State} → popped (rule_of P) slots k next ≡ goes st → run (rule_of P) slots (allowance - (pops + 1)) (pops + 1) st ≡ goal
  go_on {st} m =
      ap (λ (n : ℕ). run (rule_of P) slots (allowance - (pops + 1)) n st) (add-one pops)
      ∙ (sym (run_goes (rule_of P) slots pops k _ (here v) (remains v p.unclean) p.popped.list (allowance - (pops + 1)) st m)
      ∙ rw one_more at v.runs)

  pub impure : pure_test P k c s ≡ None → Inv P slots allowance goal (with_marks ms L) next_head (waiting - 1) nonzero entries (pops + 1)
  unfolding popped follows
  impure e = record { holds = popped_holds; long = v.long; within = omega (arith, v.within, p.more); runs = go_on {st = next} (rw e) }

  -- the take of the flow
  module _ {f : ℕ} {ks : List ℕ} (t : Pure P (lent_sketch L) k f ks) where
    -- by its key it can be looked up
    pub chained : Chained (P.d * P.m) L.flows L.queue ms entries f (chain_key P f)
    chained = record { key = chain_key P; of_flow = refl; chains = popped_holds.chained }

    pub range_count : (i : ℕ) → i < P.d → fits_at P.m ks L.counts c i ≡ false → Walks goal slots (ended Range (pops + 1) entries) (with_marks ms L)
    unfolding popped follows takes
    range_count i l x = stop (rw (t.test, leaves_count P f c next ks t.positions i l x))

    module _ (fits : (i : ℕ) → i < P.d → fits_at P.m ks L.counts c i ≡ true) {at : ℕ} (finds : Finds L.flows entries f at) where
      new_fits : entries ≤ at → in_limits (entry_of f (table_of L.flows L.numbers entries) +ℤ c) ≡ true
      new_fits l = rw (table_new L.flows L.numbers entries f at finds l, +ℤ_idl) (v.holds.sane.counts k)

      pub range_entry : at < entries → in_limits (get_or L.numbers at (pos 0) +ℤ c) ≡ false → Walks goal slots (ended Range (pops + 1) entries) (with_marks ms L)
      unfolding popped follows takes
      range_entry l x = stop (rw (t.test, entry_decides P f c next ks t.positions fits false (rw (table_held L.flows L.numbers entries f at finds l) x)))

      pub full : entries ≤ at → at ≡ slots → Walks goal slots (ended Full (pops + 1) entries) (with_marks ms L)
      unfolding popped follows takes
      full l x = stop (rw (t.test, entry_decides P f c next ks t.positions fits true (new_fits l), table_full L.flows L.numbers entries f at finds slots l (omega arith)))

      -- its entry stays within the limits, and has a slot
      module _ (entry : at < entries → in_limits (get_or L.numbers at (pos 0) +ℤ c) ≡ true) (slot : entries ≤ at → at ≡ slots → ⊥) where
        entry_fits : in_limits (entry_of f (table_of L.flows L.numbers entries) +ℤ c) ≡ true
        entry_fits = ⊎_elim (λ d. new_fits (omega arith)) (λ l. rw (table_held L.flows L.numbers entries f at finds l) (entry l)) (eq-or-lt_of_le finds.within)

        has_slot : at < slots
        has_slot =
            ⊎_elim
            (λ d. let n : at ≡ slots → ⊥ = slot (omega arith) in omega (arith, v.holds.room, v.long))
            (λ l. omega (arith, v.holds.room, v.long))
            (eq-or-lt_of_le finds.within)

        pub may_take : {chain : ℕ} → chain ≡ chain_key P f → Takes P (with_marks ms L) next_head (waiting - 1) nonzero entries ks chain at f c s
        may_take keyed =
            record {
              holds = popped_holds;
              positions = t.positions;
              keyed = keyed;
              small = v.holds.sane.idsums k;
              fits = fits;
              finds = finds;
              slot = omega (arith, has_slot, v.long);
              entry = entry_fits;
            }

        pub took : {r : Taken} {L' : Slices} → length L'.flows ≡ length L.flows → Took P (with_marks ms L) next_head (waiting - 1) entries f c s r L'
            → Inv P slots allowance goal L' next_head r.waiting r.nonzero r.entries (pops + 1)
        unfolding popped follows takes
        took long k =
            record {
              holds = k.holds;
              long = long ∙ v.long;
              within = omega (arith, v.within, p.more);
              runs =
                  ap (run (rule_of P) slots (allowance - (pops + 1)) (pops + 1)) k.state
                  ∙ go_on {st = taken (rule_of P) f c s next} (rw (t.test, entry_decides P f c next ks t.positions fits true entry_fits, table_room L.flows L.numbers entries f at finds slots has_slot));
            }
