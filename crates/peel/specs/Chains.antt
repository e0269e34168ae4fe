-- The chains of table slots by which a flow is looked up. A flow has a key, which in the walk is `chain_key`, and the slots of the flows with key k
-- make chain k, the newest first: `marks[k] / 2` is 1 + the newest slot of chain k, and `queue[e] / 65536` is 1 + the slot after e in its chain, a
-- lower one; 0 ends a chain. Slots past the queue's end are in no chain. No answer depends on the key, only how long a look-up takes.
use Rattle.std.specs.Prelude.{◌≡◌, List, ℕ, ◌+◌, ◌*◌, ◌-◌, ◌/◌, ◌%◌, ◌<◌, ◌≤◌, min, get_or, length, set}
use Rattle.params.specs.declared.params.Params.{Params}
use Rattle.params.specs.Params.{prime, size}
use Rattle.peel.specs.Ring.{SameBelow}

-- which of n chains flow f belongs to: its value by a pair a, b, before that is reduced to a position, multiplied by 2^32 over the golden ratio so that
-- values which differ by multiples of m part as well, and the upper 16 of the product's 32 bits brought below n
unfoldable pub chain_by : ℕ → ℕ → ℕ → ℕ → ℕ
chain_by a b n f = (a * f + b) % prime * 2654435769 % 4294967296 / 65536 * n / 65536

-- the key of flow f in the walk: by the pair of array 1, one of d * m
abbrev pub chain_key : Params → ℕ → ℕ
chain_key P = chain_by (get_or P.a 0 0) (get_or P.b 0 0) (size P)

-- x is 1 + the greatest slot below b whose flow has key k, or 0 where no flow has
pub record Newest (key : ℕ → ℕ) (fs : List ℕ) (k b x : ℕ) : Type 0 where
  pub within : x ≤ b
  pub keyed : 0 < x → key (get_or fs (x - 1) 0) ≡ k
  pub past : (j : ℕ) → x ≤ j → j < b → key (get_or fs j 0) ≡ k → ⊥

-- the first n slots hold flows that differ, and of these slots those below size are chained
pub record Chains (key : ℕ → ℕ) (size : ℕ) (fs q ms : List ℕ) (n : ℕ) : Type 0 where
  pub newest : (k : ℕ) → Newest key fs k (min n size) (get_or ms k 0 / 2)
  pub links : (e : ℕ) → e < min n size → Newest key fs (key (get_or fs e 0)) e (get_or q e 0 / 65536)
  pub differ : (i j : ℕ) → i < j → j < n → get_or fs i 0 ≡ get_or fs j 0 → ⊥

-- by some key the slots are chained, and f belongs to chain k
pub record Chained (size : ℕ) (fs q ms : List ℕ) (n f k : ℕ) : Type 0 where
  pub key : ℕ → ℕ
  pub of_flow : key f ≡ k
  pub chains : Chains key size fs q ms n

-- slot e becomes the newest of chain k
pub record Linked (e k : ℕ) (q ms q' ms' : List ℕ) : Type 0 where
  pub queue : q' ≡ set q e (get_or ms k 0 / 2 * 65536 + get_or q e 0 % 65536)
  pub marks : ms' ≡ set ms k ((e + 1) * 2 + get_or ms k 0 % 2)

-- what a take of f leaves of the chains, and that the ring stays
pub record Relinked (f k : ℕ) (fs q ms : List ℕ) (n : ℕ) (fs' q' ms' : List ℕ) (r : ℕ) : Type 0 where
  pub chains : (key : ℕ → ℕ) → key f ≡ k → Chains key (length q) fs q ms n → Chains key (length q) fs' q' ms' r
  pub below : SameBelow 65536 q q'
  pub below_marks : SameBelow 2 ms ms'
