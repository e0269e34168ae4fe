-- The places of a ring, an empty ring, what a pop and a push do to a ring, and what keeps it.
use mathlib.Core.Path.{◌≡◌, refl, sym, ap, ap₂, ◌∙◌}
use mathlib.Core.List.{List, [], ◌∷◌, ◌++◌}
use Prim.Native.Nat.{ℕ, suc, ◌+◌, ◌*◌, ◌-◌, ◌/◌, ◌%◌, ◌<◌, ◌≤◌}
use native.Mathlib.Nat.{zero-add, add-zero}
use native.Mathlib.Numerals.{add-one}
use native.Mathlib.Decide.{ℕ_discrete, dec_lt}
use native.Mathlib.Omega.{arith}
use lib.ListN.{length, get_or, set, length-set, get_or-eq_default}
use lib.Seq.{get_or-set_same, get_or-set_other}
use borrow.Author.Tests.{lt-ltb, le-ltb}
use Rattle.params.specs.Lists.{from}
use Rattle.sketch.proofs.Tables.{from_same}
use Rattle.peel.specs.Ring.{ring_place, ring, bit, occ, SameBelow, Ring, Popped, Joined}
use Rattle.peel.proofs.Froms.{from_first, from_last}
use Rattle.peel.proofs.Occurrences.{bit_same, bit_other, occ_nil, occ_cons, occ_snoc, join_old, join_new, odds_set, odds_most, odds_room, odds_zeros, odds_same}

-- a place, by the two cases
module _ (n h i : ℕ) where
  pub place_near : h + i < n → ring_place n h i ≡ h + i
  unfolding ring_place
  place_near l = rw (lt-ltb (h + i) n l)

  pub place_far : n ≤ h + i → ring_place n h i ≡ h + i - n
  unfolding ring_place
  place_far l = rw (le-ltb (h + i) n l)

-- the places of a ring of n
module _ (n h : ℕ) (below : h < n) where
  place_below : (i : ℕ) → i ≤ n → ring_place n h i < n
  place_below i l = go (dec_lt (h + i) n)
    where
      go : Dec (h + i < n) → ring_place n h i < n
      go (yes u) = omega (arith, place_near n h i u)
      go (no u) = omega (arith, place_far n h i (omega arith))

  -- the places after the next one
  place_next : (i : ℕ) → suc i < n → ring_place n h (suc i) ≡ ring_place n (ring_place n h 1) i
  place_next i l = go (dec_lt (h + 1) n) (dec_lt (h + suc i) n)
    where
      go : Dec (h + 1 < n) → Dec (h + suc i < n) → ring_place n h (suc i) ≡ ring_place n (ring_place n h 1) i
      go (yes u) (yes v) = rw (place_near n h 1 u) (omega (arith, place_near n h (suc i) v, place_near n (h + 1) i (omega arith)))
      go (yes u) (no v) = rw (place_near n h 1 u) (omega (arith, place_far n h (suc i) (omega arith), place_far n (h + 1) i (omega arith)))
      go (no u) v =
          rw (place_far n h 1 (omega arith))
          (omega (arith, place_far n h (suc i) (omega arith), place_near n (h + 1 - n) i (omega arith)))

  -- no two places of a ring are one
  place_other : (i j : ℕ) → i < j → j < n → ring_place n h i ≡ ring_place n h j → ⊥
  place_other i j l u e = go (dec_lt (h + i) n) (dec_lt (h + j) n)
    where
      go : Dec (h + i < n) → Dec (h + j < n) → ⊥
      go (yes a) (yes b) = omega (arith, place_near n h i a, place_near n h j b)
      go (yes a) (no b) = omega (arith, place_near n h i a, place_far n h j (omega arith))
      go (no a) b = omega (arith, place_far n h i (omega arith), place_far n h j (omega arith))

  ring_first : (q : List ℕ) (w : ℕ) → length q ≡ n → suc w ≤ n → ring q h (suc w) ≡ get_or q h 0 % 65536 ∷ ring q (ring_place n h 1) w
  unfolding ring
  ring_first q w e l =
      rw e
      (from_first w _
      ∙ ap₂ (λ (x : ℕ) (r : List ℕ). x ∷ r)
      (ap (λ (k : ℕ). get_or q k 0 % 65536) (place_near n h 0 (omega arith) ∙ add-zero h))
      (from_same 0 w _ _ (λ i a b. rw (place_next i (omega arith)))))

  ring_last : (q : List ℕ) (w x : ℕ) → length q ≡ n → w < n → ring (set q (ring_place n h w) x) h (suc w) ≡ ring q h w ++ (x % 65536 ∷ [])
  unfolding ring
  ring_last q w x e l =
      rw (length-set q (ring_place n h w) x, e)
      (from_last 0 w _
      ∙ ap₂ (λ (x : List ℕ) (y : ℕ). x ++ (y ∷ []))
      (from_same 0 w _ _ (λ i a b. ap (λ (y : ℕ). y % 65536) (get_or-set_other q (ring_place n h w) (ring_place n h i) x 0 (place_other i w (omega arith) l))))
      (rw zero-add (ap (λ (y : ℕ). y % 65536) (get_or-set_same q (ring_place n h w) x 0 (rw e (place_below w (omega arith)))))))

-- a store that keeps one part of a number keeps that part of every place
pub store_keeps : (part : ℕ → ℕ) (l : List ℕ) (i x : ℕ) → i < length l → part x ≡ part (get_or l i 0) → (k : ℕ) → part (get_or (set l i x) k 0) ≡ part (get_or l k 0)
store_keeps part l i x h e k = go (ℕ_discrete k i)
  where
    go : Dec (k ≡ i) → part (get_or (set l i x) k 0) ≡ part (get_or l k 0)
    go (yes s) = rw s (ap part (get_or-set_same l i x 0 h) ∙ e)
    go (no d) = ap part (get_or-set_other l i k x 0 d)

-- an empty ring
pub ring_nothing : (q : List ℕ) (h : ℕ) → ring q h 0 ≡ []
unfolding ring from
ring_nothing q h = refl

pub ring_empty : (n : ℕ) (q ms : List ℕ) → 0 < n → length q ≡ n → length ms ≡ n → ((k : ℕ) → get_or ms k 0 ≡ 0) → Ring n q ms 0 0
ring_empty n q ms h a b z = record {
  long = a;
  long_marks = b;
  head_in = h;
  marked = λ k. omega (arith, z k, ap (occ k) (ring_nothing q 0), occ_nil k);
  number = odds_zeros ms z;
}

-- what stands above the indexes is nothing to their list
pub ring_same : (q q' : List ℕ) → length q' ≡ length q → SameBelow 65536 q q' → (h w : ℕ) → ring q' h w ≡ ring q h w
unfolding ring
ring_same q q' long low h w = rw long (from_same 0 w _ _ (λ i a b. low (ring_place (length q) h i)))

module _ {n : ℕ} {q ms : List ℕ} {h w : ℕ} (r : Ring n q ms h w) where
  -- as many wait as there are places, at most; and fewer where one does not wait
  pub ring_most : w ≤ n
  ring_most = omega (arith, r.number, r.long_marks, odds_most ms)

  ring_room : (k : ℕ) → k < n → get_or ms k 0 % 2 ≡ 0 → w < n
  ring_room k l e = omega (arith, r.number, r.long_marks, odds_room ms k (omega (arith, r.long_marks)) e)

  -- the place after the last that waits
  pub back_below : ring_place n h w < n
  back_below = place_below n h r.head_in w ring_most

  module _ (some : 0 < w) where
    -- the index at the head
    abbrev front : ℕ
    front = get_or q h 0 % 65536

    pop_list : ring q h w ≡ front ∷ ring q (ring_place n h 1) (w - 1)
    pop_list =
        let e : w ≡ suc (w - 1) = omega arith in
        ap (ring q h) e ∙ ring_first n h r.head_in q (w - 1) r.long (omega (arith, ring_most))

    -- how often a number waits, before and after
    pop_occ : (j : ℕ) → get_or ms j 0 % 2 ≡ bit front j + occ j (ring q (ring_place n h 1) (w - 1))
    pop_occ j = r.marked j ∙ ap (occ j) pop_list ∙ occ_cons j front (ring q (ring_place n h 1) (w - 1))

    pub pop_inside : front < n
    pop_inside = go (dec_lt front n)
      where
        go : Dec (front < n) → front < n
        go (yes l) = l
        go (no l) =
            absurd (omega (
              arith,
              pop_occ front,
              bit_same front front refl,
              get_or-eq_default ms 0 {n = front} (omega (arith, r.long_marks)),
            ))

    -- the marks once that of the front is taken off
    abbrev unmarked : List ℕ
    unmarked = set ms front (get_or ms front 0 / 2 * 2)

    popped_mark : (j : ℕ) → get_or unmarked j 0 % 2 ≡ occ j (ring q (ring_place n h 1) (w - 1))
    popped_mark j = go (ℕ_discrete j front)
      where
        go : Dec (j ≡ front) → get_or unmarked j 0 % 2 ≡ occ j (ring q (ring_place n h 1) (w - 1))
        go (yes e) = rw e (omega (
          arith,
          get_or-set_same ms front (get_or ms front 0 / 2 * 2) 0 (omega (arith, pop_inside, r.long_marks)),
          pop_occ front,
          bit_same front front refl,
        ))
        go (no d) = omega (
          arith,
          get_or-set_other ms front j (get_or ms front 0 / 2 * 2) 0 d,
          pop_occ j,
          bit_other front j (λ e. d (sym e)),
        )

    pub ring_pop : Popped n q ms unmarked h w front
    ring_pop = record {
      inside = pop_inside;
      list = pop_list;
      ringed = record {
        long = r.long;
        long_marks = length-set ms front (get_or ms front 0 / 2 * 2) ∙ r.long_marks;
        head_in = place_below n h r.head_in 1 (omega (arith, r.head_in));
        marked = popped_mark;
        number = omega (
          arith,
          odds_set ms front (get_or ms front 0 / 2 * 2) (omega (arith, pop_inside, r.long_marks)),
          pop_occ front,
          bit_same front front refl,
          r.number,
        );
      };
      above_marks = store_keeps (λ x. x / 2) ms front _ (omega (arith, pop_inside, r.long_marks)) (omega arith);
    }

  -- a number that waits stays; another goes to the back
  pub ring_stay : (k : ℕ) → (get_or ms k 0 % 2 ≡ 0 → ⊥) → Joined n k q ms h w q ms w
  ring_stay k d = record {
    list = sym (join_old k (ring q h w) (omega (arith, r.marked k)));
    ringed = r;
    above = λ j. refl;
    above_marks = λ j. refl;
  }

  module _ (k : ℕ) (l : k < n) (few : n ≤ 65536) (e : get_or ms k 0 % 2 ≡ 0) where
    -- the place after the last with k in it, and the marks with that of k
    abbrev stored : ℕ
    stored = get_or q (ring_place n h w) 0 / 65536 * 65536 + k

    abbrev marked : List ℕ
    marked = set ms k (get_or ms k 0 / 2 * 2 + 1)

    stored_low : stored % 65536 ≡ k
    stored_low = omega arith

    pushed_list : ring (set q (ring_place n h w) stored) h (w + 1) ≡ ring q h w ++ (k ∷ [])
    pushed_list =
        rw (add-one w)
        (ring_last n h r.head_in q w stored r.long (ring_room k l e) ∙ ap (λ (x : ℕ). ring q h w ++ (x ∷ [])) stored_low)

    pushed_mark : (j : ℕ) → get_or marked j 0 % 2 ≡ occ j (ring q h w) + bit k j
    pushed_mark j = go (ℕ_discrete j k)
      where
        go : Dec (j ≡ k) → get_or marked j 0 % 2 ≡ occ j (ring q h w) + bit k j
        go (yes s) = rw s (omega (
          arith,
          get_or-set_same ms k (get_or ms k 0 / 2 * 2 + 1) 0 (omega (arith, r.long_marks)),
          r.marked k,
          bit_same k k refl,
        ))
        go (no d) = omega (arith, get_or-set_other ms k j (get_or ms k 0 / 2 * 2 + 1) 0 d, r.marked j, bit_other k j (λ s. d (sym s)))

    pub ring_push : Joined n k q ms h w (set q (ring_place n h w) stored) marked (w + 1)
    ring_push = record {
      list = pushed_list ∙ sym (join_new k (ring q h w) (omega (arith, r.marked k)));
      ringed = record {
        long = length-set q (ring_place n h w) stored ∙ r.long;
        long_marks = length-set ms k (get_or ms k 0 / 2 * 2 + 1) ∙ r.long_marks;
        head_in = r.head_in;
        marked = λ j. pushed_mark j ∙ sym (ap (occ j) pushed_list ∙ occ_snoc j k (ring q h w));
        number = omega (arith, odds_set ms k (get_or ms k 0 / 2 * 2 + 1) (omega (arith, r.long_marks)), r.number);
      };
      above = store_keeps (λ x. x / 65536) q (ring_place n h w) stored (omega (arith, back_below, r.long)) (omega arith);
      above_marks = store_keeps (λ x. x / 2) ms k _ (omega (arith, r.long_marks)) (omega arith);
    }

  -- what stands above the indexes and the marks is nothing to the ring
  pub ring_kept : (q' ms' : List ℕ) → length q' ≡ length q → length ms' ≡ length ms → SameBelow 65536 q q' → SameBelow 2 ms ms' → Ring n q' ms' h w
  ring_kept q' ms' long long_marks low bits = record {
    long = long ∙ r.long;
    long_marks = long_marks ∙ r.long_marks;
    head_in = r.head_in;
    marked = λ k. bits k ∙ r.marked k ∙ sym (ap (occ k) (ring_same q q' long low h w));
    number = odds_same ms ms' long_marks bits ∙ r.number;
  }
