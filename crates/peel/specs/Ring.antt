-- The queue as a ring of places, with marks: `queue[e] % 65536` is the bucket at place e, and `marks[k] % 2` is 1 where bucket k waits. What
-- stands above these is for the chains of table slots.
use Rattle.std.specs.Prelude.{◌≡◌, cond, List, [], ◌∷◌, ℕ, ◌+◌, ◌*◌, ◌-◌, ◌/◌, ◌%◌, ◌<◌, ◌≤◌, ℤ, eqb, ltb, get_or, length}
use Rattle.params.specs.Lists.{from}
use Rattle.sketch.specs.Sketch.{sketch}
use Rattle.walk.specs.Walk.{join, requeue, first_queue}

-- the place i steps after h in a ring of n
unfoldable pub ring_place : ℕ → ℕ → ℕ → ℕ
ring_place n h i = cond (ltb (h + i) n) (h + i) (h + i - n)

-- the indexes in the w places from h on
unfoldable pub ring : List ℕ → ℕ → ℕ → List ℕ
ring q h w = from 0 w (λ i. get_or q (ring_place (length q) h i) 0 % 65536)

-- how often k stands in a list
unfoldable pub bit : ℕ → ℕ → ℕ
bit j k = cond (eqb j k) 1 0

unfoldable pub occ : ℕ → List ℕ → ℕ
occ k [] = 0
occ k (j ∷ q) = bit j k + occ k q

-- how many numbers of a list are odd
unfoldable pub odds : List ℕ → ℕ
odds [] = 0
odds (x ∷ xs) = x % 2 + odds xs

-- two lists agree, place by place, in what stands below n, and in what stands above it
abbrev pub SameBelow : ℕ → List ℕ → List ℕ → Type 0
SameBelow n l l' = (k : ℕ) → get_or l' k 0 % n ≡ get_or l k 0 % n

abbrev pub SameAbove : ℕ → List ℕ → List ℕ → Type 0
SameAbove n l l' = (k : ℕ) → get_or l' k 0 / n ≡ get_or l k 0 / n

-- a ring of n places in which each index below n stands at most once, and whose marks say which do
pub record Ring (n : ℕ) (queue marks : List ℕ) (head waiting : ℕ) : Type 0 where
  pub long : length queue ≡ n
  pub long_marks : length marks ≡ n
  pub head_in : head < n
  pub marked : (k : ℕ) → get_or marks k 0 % 2 ≡ occ k (ring queue head waiting)
  pub number : odds marks ≡ waiting

-- what a pop, a push, a take's requeue and the start leave
pub record Popped (n : ℕ) (q ms ms' : List ℕ) (head waiting k : ℕ) : Type 0 where
  pub inside : k < n
  pub list : ring q head waiting ≡ k ∷ ring q (ring_place n head 1) (waiting - 1)
  pub ringed : Ring n q ms' (ring_place n head 1) (waiting - 1)
  pub above_marks : SameAbove 2 ms ms'

pub record Joined (n k : ℕ) (q ms : List ℕ) (head waiting : ℕ) (q' ms' : List ℕ) (r : ℕ) : Type 0 where
  pub list : ring q' head r ≡ join k (ring q head waiting)
  pub ringed : Ring n q' ms' head r
  pub above : SameAbove 65536 q q'
  pub above_marks : SameAbove 2 ms ms'

pub record Requeued (d m : ℕ) (ks : List ℕ) (cs : List ℤ) (q ms : List ℕ) (head waiting : ℕ) (q' ms' : List ℕ) (r : ℕ) : Type 0 where
  pub list : ring q' head r ≡ requeue (λ i. i * m + get_or ks i 0) (sketch cs []) 0 d (ring q head waiting)
  pub ringed : Ring (d * m) q' ms' head r
  pub above : SameAbove 65536 q q'
  pub above_marks : SameAbove 2 ms ms'

pub record Started (cs : List ℤ) (n : ℕ) (q' ms' : List ℕ) (r : ℕ) : Type 0 where
  pub list : ring q' 0 r ≡ first_queue 0 cs
  pub ringed : Ring n q' ms' 0 r
  pub above_marks : (k : ℕ) → get_or ms' k 0 / 2 ≡ 0

-- zeros from index n on, and below it what was there
pub record Cleared {A : Type 0} (z : A) (n : ℕ) (l l' : List A) : Type 0 where
  pub long : length l' ≡ length l
  pub kept : (k : ℕ) → k < n → get_or l' k z ≡ get_or l k z
  pub zeros : (k : ℕ) → n ≤ k → get_or l' k z ≡ z
