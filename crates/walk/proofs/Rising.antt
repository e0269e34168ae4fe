-- Lists of entries in rising position in array 1: a list in which no two share a bucket there can be brought into that order. What a rearrangement keeps; and the first queue of such a list's sketch, which begins with the buckets of its flows in array 1.
use Rattle.std.proofs.Common.{rules}
use mathlib.Core.Path.{◌≡◌, refl, sym, ap, ap₂, subst, ◌∙◌}
use mathlib.Core.Bool.{Bool, true, false, not, cond, ◌&&◌}
use mathlib.Core.List.{List, [], ◌∷◌, ◌++◌, map}
use Prim.Native.Nat.{ℕ, zero, suc, ◌+◌, ◌-◌, ◌*◌, ◌≤◌, ◌<◌}
use native.Mathlib.Decide.{ℕ_discrete}
use native.Mathlib.Nat.{suc-add}
use native.Mathlib.Omega.{arith}
use borrow.Author.Tests.{eq-eqb, ne_eqb, eqb-false, leb-true, le-leb, ltb-true, ltb-false, not-true}
use lib.Dec.{eqb, ltb, leb}
use lib.IntN.{ℤ, pos, ◌*ℤ◌, +ℤ_idl, +ℤ_idr}
use lib.ListN.{length}
use Rattle.params.specs.declared.params.Params.{Params}
use Rattle.params.specs.Lists.{from}
use Rattle.params.specs.Params.{size, Dimensions}
use Rattle.params.specs.Sketched.{sketched}
use Rattle.params.specs.Positions.{stand, position, stands}
use Rattle.params.proofs.Searches.{and_true}
use Rattle.params.proofs.Standing.{standing_in}
use Rattle.params.proofs.Indexes.{stand_below}
use Rattle.params.proofs.BucketNumbers.{stretch_within}
use Rattle.buckets.specs.Buckets.{is_zero}
use Rattle.buckets.proofs.Zeros.{is_zero_lem}
use Rattle.sketch.specs.Sketch.{Entry, count_at, weight_at, sketch_of}
use Rattle.sketch.proofs.Tables.{from_same}
use Rattle.sums.specs.History.{Rearranged, none, keeping, swapping, twice}
use Rattle.walk.specs.Walk.{all, any, has, first_queue, summed}
use Rattle.walk.specs.Sure.{first_position, all_nonzero, own_buckets, placed, in_rising, rises}
use Rattle.walk.proofs.Alls.{both_true}
use Rattle.walk.proofs.Entries.{once}

-- a list is a rearrangement of itself
itself : (es : List Entry) → Rearranged es es
itself [] = none
itself (e ∷ es) = keeping e (itself es)

-- what a rearrangement keeps: a test of every entry, their number, sums over them, and what is done with each
and_swap : (a b c : Bool) → (a && (b && c)) ≡ (b && (a && c))
and_swap a b c = search rules

pub all_rearranged : (t : Entry → Bool) {es gs : List Entry} → Rearranged es gs → all t es ≡ all t gs
unfolding all
all_rearranged t none = refl
all_rearranged t (keeping e r) = ap (◌&&◌ (t e)) (all_rearranged t r)
all_rearranged t (swapping {es} e g) = and_swap (t e) (t g) (all t es)
all_rearranged t (twice r s) = all_rearranged t r ∙ all_rearranged t s

pub length_rearranged : {es gs : List Entry} → Rearranged es gs → length es ≡ length gs
length_rearranged none = refl
length_rearranged (keeping e r) = ap suc (length_rearranged r)
length_rearranged (swapping e g) = refl
length_rearranged (twice r s) = length_rearranged r ∙ length_rearranged s

pub summed_rearranged : (part : ℤ → ℕ) {es gs : List Entry} → Rearranged es gs → summed part es ≡ summed part gs
unfolding summed
summed_rearranged part none = refl
summed_rearranged part (keeping e r) = ap (◌+◌ (part e.number)) (summed_rearranged part r)
summed_rearranged part (swapping e g) = omega arith
summed_rearranged part (twice r s) = summed_rearranged part r ∙ summed_rearranged part s

pub map_rearranged : (h : Entry → Entry) {es gs : List Entry} → Rearranged es gs → Rearranged (map h es) (map h gs)
map_rearranged h none = none
map_rearranged h (keeping e r) = keeping (h e) (map_rearranged h r)
map_rearranged h (swapping e g) = swapping (h e) (h g)
map_rearranged h (twice r s) = twice (map_rearranged h r) (map_rearranged h s)

module _ (P : Params) where
  -- the list in rising position has the same entries
  placed_same : (e : Entry) (gs : List Entry) → Rearranged (e ∷ gs) (placed P e gs)
  unfolding placed
  placed_same e [] = keeping e none
  placed_same e (g ∷ gs) = go (ltb (first_position P e) (first_position P g)) (placed_same e gs)
    where
      go : (b : Bool) → Rearranged (e ∷ gs) (placed P e gs) → Rearranged (e ∷ g ∷ gs) (cond b (e ∷ g ∷ gs) (g ∷ placed P e gs))
      go true r = itself (e ∷ g ∷ gs)
      go false r = twice (swapping e g) (keeping g r)

  pub in_rising_same : (es : List Entry) → Rearranged es (in_rising P es)
  unfolding in_rising
  in_rising_same [] = none
  in_rising_same (e ∷ es) = twice (keeping e (in_rising_same es)) (placed_same e (in_rising P es))

  -- and it rises, where no two share a bucket
  placed_rises : (e : Entry) (gs : List Entry) (low : ℕ) → rises P low gs ≡ true → all (λ g. not (eqb (first_position P g) (first_position P e))) gs ≡ true → low ≤ first_position P e
      → rises P low (placed P e gs) ≡ true
  unfolding placed rises all
  placed_rises e [] low r a l = both_true _ _ (le-leb low _ l) refl
  placed_rises e (g ∷ gs) low r a l = go (ltb (first_position P e) (first_position P g)) refl (placed_rises e gs (suc (first_position P g)) both.1 others.1)
    where
      both : (leb low (first_position P g) ≡ true) × (rises P (suc (first_position P g)) gs ≡ true)
      both = and_true _ _ r

      others : (not (eqb (first_position P g) (first_position P e)) ≡ true) × (all (λ g. not (eqb (first_position P g) (first_position P e))) gs ≡ true)
      others = and_true _ _ a

      go : (b : Bool) → ltb (first_position P e) (first_position P g) ≡ b → (suc (first_position P g) ≤ first_position P e → rises P (suc (first_position P g)) (placed P e gs) ≡ true)
          → rises P low (cond b (e ∷ g ∷ gs) (g ∷ placed P e gs)) ≡ true
      go true q ih = both_true _ _ (le-leb low (first_position P e) l) (both_true _ _ (le-leb (suc (first_position P e)) (first_position P g) (ltb-true (first_position P e) (first_position P g) q)) both.1)
      go false q ih =
          let other = eqb-false (first_position P g) (first_position P e) (not-true _ others.0) in
          let not-before : first_position P g ≤ first_position P e = ltb-false (first_position P e) (first_position P g) q in
          both_true _ _ both.0 (ih (omega (arith, other, not-before)))

  pub in_rising_rises : (es : List Entry) → own_buckets P es ≡ true → rises P 0 (in_rising P es) ≡ true
  unfolding own_buckets in_rising rises
  in_rising_rises [] a = refl
  in_rising_rises (e ∷ es) a =
      let both = and_true (all (λ g. not (eqb (first_position P g) (first_position P e))) es) (own_buckets P es) a in
      placed_rises e (in_rising P es) 0 (in_rising_rises es both.1) (sym (all_rearranged _ (in_rising_same es)) ∙ both.0) (omega arith)

  -- no two share a bucket, so no flow has two entries
  unlike : (e : Entry) (es : List Entry) → all (λ g. not (eqb (first_position P g) (first_position P e))) es ≡ true → has e.flow es ≡ false
  unfolding all has any
  unlike e [] a = refl
  unlike e (g ∷ es) a =
      let both = and_true (not (eqb (first_position P g) (first_position P e))) (all (λ g. not (eqb (first_position P g) (first_position P e))) es) a in
      rw (ne_eqb g.flow e.flow (λ q. eqb-false (first_position P g) (first_position P e) (not-true _ both.0) (ap (position P 1) q))) (unlike e es both.1)

  pub own_once : (es : List Entry) → own_buckets P es ≡ true → once es ≡ true
  unfolding own_buckets once
  own_once [] a = refl
  own_once (e ∷ es) a =
      let both = and_true (all (λ g. not (eqb (first_position P g) (first_position P e))) es) (own_buckets P es) a in
      both_true _ _ (ap not (unlike e es both.0)) (own_once es both.1)

  -- a list that rises has no more entries than there are positions
  pub rises_few : (low : ℕ) (gs : List Entry) → low ≤ P.m → ((e : Entry) → first_position P e < P.m) → rises P low gs ≡ true → low + length gs ≤ P.m
  unfolding rises
  rises_few low [] l u r = omega arith
  rises_few low (g ∷ gs) l u r =
      let both = and_true (leb low (first_position P g)) (rises P (suc (first_position P g)) gs) r in
      omega (arith, leb-true low (first_position P g) both.0, rises_few (suc (first_position P g)) gs (u g) u both.1)

  -- before the first position of a list that rises none of its flows stands
  pub rises_past : (k low : ℕ) (gs : List Entry) → k < low → rises P low gs ≡ true → all (λ e. not (eqb (first_position P e) k)) gs ≡ true
  unfolding rises all
  rises_past k low [] l r = refl
  rises_past k low (g ∷ gs) l r =
      let both = and_true (leb low (first_position P g)) (rises P (suc (first_position P g)) gs) r in
      let on : low ≤ first_position P g = leb-true _ _ both.0 in
      both_true _ _ (ap not (ne_eqb (first_position P g) k (λ e. omega (arith, on, e)))) (rises_past k (suc (first_position P g)) gs (omega (arith, on)) both.1)

module _ (P : Params) (h : Dimensions P) where
  -- in array 1 a flow stands in the bucket of its position
  stands_first : (e : Entry) (k : ℕ) → k < P.m → stands P e.flow k ≡ eqb k (first_position P e)
  stands_first e k l =
      let at : 0 * P.m + first_position P e ≡ first_position P e = omega arith in
      standing_in P.d P.m (λ i. stand P i (sketched P e.flow)) 0 k (omega (arith, h.d_low)) (omega arith) (omega arith) ∙ ap (eqb k) at

  pub position_below : (e : Entry) → first_position P e < P.m
  position_below e = stand_below P 0 (sketched P e.flow) h

  pub stands_there : (e : Entry) → stands P e.flow (first_position P e) ≡ true
  stands_there e = stands_first e (first_position P e) (position_below e) ∙ eq-eqb (first_position P e) (first_position P e) refl

  -- a bucket of array 1 where no flow of the list stands
  none_there : (k : ℕ) → k < P.m → (es : List Entry) → all (λ e. not (eqb (first_position P e) k)) es ≡ true → (count_at P es k ≡ pos 0) × (weight_at P es k ≡ pos 0)
  unfolding all count_at weight_at
  none_there k l [] a = (refl, refl)
  none_there k l (e ∷ es) a =
      let both = and_true (not (eqb (first_position P e) k)) (all (λ e. not (eqb (first_position P e) k)) es) a in
      let elsewhere : stands P e.flow k ≡ false = stands_first e k l ∙ ne_eqb k (first_position P e) (λ q. eqb-false (first_position P e) k (not-true _ both.0) (sym q)) in
      let rest = none_there k l es both.1 in
      (rw elsewhere (+ℤ_idl (count_at P es k) ∙ rest.0), rw elsewhere (+ℤ_idl (weight_at P es k) ∙ rest.1))

  not_there : (g : Entry) (gs : List Entry) (k : ℕ) → k < P.m → (k ≡ first_position P g → ⊥) → count_at P (g ∷ gs) k ≡ count_at P gs k
  unfolding count_at
  not_there g gs k l d = rw (stands_first g k l, ne_eqb k (first_position P g) d) (+ℤ_idl (count_at P gs k))

  -- one where a single flow stands
  module _ (g : Entry) (gs : List Entry) (behind : rises P (suc (first_position P g)) gs ≡ true) where
    others : (count_at P gs (first_position P g) ≡ pos 0) × (weight_at P gs (first_position P g) ≡ pos 0)
    others = none_there (first_position P g) (position_below g) gs (rises_past P (first_position P g) (suc (first_position P g)) gs (omega arith) behind)

    pub alone_count : count_at P (g ∷ gs) (first_position P g) ≡ g.number
    unfolding count_at
    alone_count = rw (stands_there g, others.0) (+ℤ_idr g.number)

    pub alone_weight : weight_at P (g ∷ gs) (first_position P g) ≡ g.number *ℤ pos (sketched P g.flow)
    unfolding weight_at
    alone_weight = rw (stands_there g, others.1) (+ℤ_idr (g.number *ℤ pos (sketched P g.flow)))

-- the first queue, bucket by bucket
module _ (c : ℕ → ℤ) where
  queue_none : (k : ℕ) → first_queue k (from k 0 c) ≡ []
  unfolding from first_queue
  queue_none k = refl

  queue_skips : (k n : ℕ) → is_zero (c k) ≡ true → first_queue k (from k (suc n) c) ≡ first_queue (suc k) (from (suc k) n c)
  unfolding from first_queue
  queue_skips k n e = rw e

  queue_takes : (k n : ℕ) → is_zero (c k) ≡ false → first_queue k (from k (suc n) c) ≡ k ∷ first_queue (suc k) (from (suc k) n c)
  unfolding from first_queue
  queue_takes k n e = rw e

  -- and of two stretches
  queue_joins : (k n r : ℕ) → first_queue k (from k (n + r) c) ≡ first_queue k (from k n c) ++ first_queue (k + n) (from (k + n) r c)
  unfolding from first_queue
  queue_joins k zero r =
      let all : 0 + r ≡ r = omega arith in
      let here : k ≡ k + 0 = omega arith in
      ap₂ (λ (i n : ℕ). first_queue i (from i n c)) here all
  queue_joins k (suc n) r = ap (λ (i : ℕ). first_queue k (from k i c)) (suc-add n r) ∙ go (is_zero (c k)) (queue_joins (suc k) n r ∙ ap (λ (i : ℕ). first_queue (suc k) (from (suc k) n c) ++ first_queue i (from i r c)) (omega arith))
    where
      go : (b : Bool) → first_queue (suc k) (from (suc k) (n + r) c) ≡ first_queue (suc k) (from (suc k) n c) ++ first_queue (k + suc n) (from (k + suc n) r c)
          → cond b (first_queue (suc k) (from (suc k) (n + r) c)) (k ∷ first_queue (suc k) (from (suc k) (n + r) c))
          ≡ cond b (first_queue (suc k) (from (suc k) n c)) (k ∷ first_queue (suc k) (from (suc k) n c)) ++ first_queue (k + suc n) (from (k + suc n) r c)
      go true ih = ih
      go false ih = ap {B = List ℕ} (◌∷◌ k) ih

module _ (P : Params) (h : Dimensions P) where
  -- from bucket k on to the end of array 1 the first queue has those where the list's flows stand
  rising_queue : (n k : ℕ) (gs : List Entry) → k + n ≡ P.m → rises P k gs ≡ true → all_nonzero gs ≡ true → first_queue k (from k n (count_at P gs)) ≡ map (first_position P) gs
  unfolding rises all
  rising_queue zero k [] e r a = queue_none (count_at P []) k
  rising_queue zero k (g ∷ gs) e r a = absurd (omega (arith, position_below P h g, leb-true k (first_position P g) (and_true (leb k (first_position P g)) (rises P (suc (first_position P g)) gs) r).0))
  rising_queue (suc n) k [] e r a = queue_skips (count_at P []) k n (is_zero_lem _ (none_there P h k (omega arith) [] refl).0) ∙ rising_queue n (suc k) [] (omega arith) refl refl
  rising_queue (suc n) k (g ∷ gs) e r a = go (ℕ_discrete k (first_position P g)) (λ l. rising_queue n (suc k) (g ∷ gs) (omega arith) (both_true _ _ (le-leb (suc k) (first_position P g) l) behind) a) (λ q. rising_queue n (suc k) gs (omega arith) (subst (λ (j : ℕ). rises P (suc j) gs ≡ true) (sym q) behind) nonzero.1)
    where
      low : k ≤ first_position P g
      low = leb-true k (first_position P g) (and_true (leb k (first_position P g)) (rises P (suc (first_position P g)) gs) r).0

      behind : rises P (suc (first_position P g)) gs ≡ true
      behind = (and_true (leb k (first_position P g)) (rises P (suc (first_position P g)) gs) r).1

      nonzero : (not (is_zero g.number) ≡ true) × (all_nonzero gs ≡ true)
      nonzero = and_true (not (is_zero g.number)) (all_nonzero gs) a

      go : Dec (k ≡ first_position P g) → (suc k ≤ first_position P g → first_queue (suc k) (from (suc k) n (count_at P (g ∷ gs))) ≡ map (first_position P) (g ∷ gs))
          → (k ≡ first_position P g → first_queue (suc k) (from (suc k) n (count_at P gs)) ≡ map (first_position P) gs)
          → first_queue k (from k (suc n) (count_at P (g ∷ gs))) ≡ map (first_position P) (g ∷ gs)
      go (yes q) skip ih =
          queue_takes (count_at P (g ∷ gs)) k n (ap (λ (j : ℕ). is_zero (count_at P (g ∷ gs) j)) q ∙ ap is_zero (alone_count P h g gs behind) ∙ not-true _ nonzero.0)
          ∙ ap₂ {B = List ℕ} ◌∷◌ q (ap (first_queue (suc k)) (from_same (suc k) n _ _ (λ j l m. not_there P h g gs j (omega arith) (λ p. omega (arith, q)))) ∙ ih q)
      go (no q) skip ih =
          queue_skips (count_at P (g ∷ gs)) k n (is_zero_lem _ (none_there P h k (omega arith) (g ∷ gs) (rises_past P k (suc k) (g ∷ gs) (omega arith) (both_true _ _ (le-leb (suc k) (first_position P g) (omega (arith, low))) behind))).0)
          ∙ skip (omega (arith, low))

  -- so that of the whole sketch begins with them
  pub queue_begins : (gs : List Entry) → rises P 0 gs ≡ true → all_nonzero gs ≡ true → (rest : List ℕ) × (first_queue 0 (sketch_of P gs).counts ≡ map (first_position P) gs ++ rest)
  unfolding sketch_of
  queue_begins gs r a =
      let rest = size P - P.m in
      let long : size P ≡ P.m + rest = omega (arith, stretch_within P.d P.m 0 (omega (arith, h.d_low))) in (
        first_queue (0 + P.m) (from (0 + P.m) rest (count_at P gs)),
        ap (λ (n : ℕ). first_queue 0 (from 0 n (count_at P gs))) long
            ∙ queue_joins (count_at P gs) 0 P.m rest
            ∙ ap (λ (q : List ℕ). q ++ first_queue (0 + P.m) (from (0 + P.m) rest (count_at P gs))) (rising_queue P.m 0 gs (omega arith) r a),
      )
