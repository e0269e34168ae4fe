-- How the slices of the walk stand for the state of its definition. As in the walk, a flow here is what is sketched for it.
use Rattle.std.specs.Prelude.{◌≡◌, Bool, true, List, ℕ, ◌+◌, ◌*◌, ◌<◌, ◌≤◌, ℤ, pos, ◌+ℤ◌, ◌-ℤ◌, get_or, length}
use Rattle.params.specs.declared.params.Params.{Params}
use Rattle.params.specs.Params.{prime, Dimensions}
use Rattle.params.specs.Positions.{Positioned}
use Rattle.buckets.specs.Buckets.{in_limits}
use Rattle.walk.specs.Walk.{State, Outcome, entry_of, taken, lost_of, extra_of}
use Rattle.walk.specs.Purity.{rule_of}
use Rattle.walk.specs.Shown.{shown_table}
use Rattle.peel.specs.declared.take.Taken.{Taken}
use Rattle.peel.specs.declared.walking.Walked.{Walked}
use Rattle.peel.specs.declared.peeling.Figures.{Figures}
use Rattle.peel.specs.Slices.{Slices, lent_sketch}
use Rattle.peel.specs.Ring.{ring, Ring}
use Rattle.peel.specs.Chains.{chain_key, Chains}
use Rattle.peel.specs.Table.{table_of, Finds}
use Rattle.peel.specs.Nonzero.{nonzero_buckets, Sane}

-- the state of w buckets that wait from h on and of n entries; what a walk ended with
abbrev pub state_of : Slices → ℕ → ℕ → ℕ → State
state_of L h w n = record { held = lent_sketch L; queue = ring L.queue h w; table = table_of L.flows L.numbers n }

abbrev pub outcome_of : Walked → Slices → Outcome
outcome_of r L =
    record { ending = r.ending; pops = r.pops; remainder = lent_sketch L; table = table_of L.flows L.numbers r.entries }

-- what the walk works on
pub record Holds (P : Params) (L : Slices) (head waiting nonzero entries : ℕ) : Type 0 where
  pub dimensions : Dimensions P
  pub sane : Sane (P.d * P.m) L.counts L.idsums
  pub slots : length L.numbers ≡ length L.flows
  pub ringed : Ring (P.d * P.m) L.queue L.marks head waiting
  pub chained : Chains (chain_key P) (P.d * P.m) L.flows L.queue L.marks entries
  pub counted : nonzero ≡ nonzero_buckets L.counts L.idsums
  pub room : entries ≤ length L.flows

-- of arrays of m buckets, in the one that i others stand before: c less in the bucket that ks names stays within the limits
abbrev pub fits_at : ℕ → List ℕ → List ℤ → ℤ → ℕ → Bool
fits_at m ks cs c i = in_limits (get_or cs (i * m + get_or ks i 0) (pos 0) -ℤ c)

-- flow f may be taken with count c and idsum s: ks are its positions, `chain` is its chain and `at` its slot, and all stays within the limits
pub record Takes (P : Params) (L : Slices) (head waiting nonzero entries : ℕ) (ks : List ℕ) (chain at f : ℕ) (c : ℤ) (s : ℕ) : Type 0 where
  pub holds : Holds P L head waiting nonzero entries
  pub positions : Positioned P f ks
  pub keyed : chain ≡ chain_key P f
  pub small : s < prime
  pub fits : (i : ℕ) → i < P.d → fits_at P.m ks L.counts c i ≡ true
  pub finds : Finds L.flows entries f at
  pub slot : at < length L.flows
  pub entry : in_limits (entry_of f (table_of L.flows L.numbers entries) +ℤ c) ≡ true

-- what the take leaves
pub record Took (P : Params) (L : Slices) (head waiting entries f : ℕ) (c : ℤ) (s : ℕ) (r : Taken) (L' : Slices) : Type 0 where
  pub holds : Holds P L' head r.waiting r.nonzero r.entries
  pub state : state_of L' head r.waiting r.entries ≡ taken (rule_of P) f c s (state_of L head waiting entries)

-- what the walk leaves, where it should give the outcome o
pub record Walks (o : Outcome) (slots : ℕ) (r : Walked) (L : Slices) : Type 0 where
  pub outcome : outcome_of r L ≡ o
  pub room : r.entries ≤ slots

-- what peeling works on once nothing is refused, and what it leaves
pub record Peelable (P : Params) (L : Slices) : Type 0 where
  pub dimensions : Dimensions P
  pub sane : Sane (P.d * P.m) L.counts L.idsums
  pub slots : length L.numbers ≡ length L.flows
  pub few_slots : length L.flows ≤ 65536
  pub long : length L.queue ≡ P.d * P.m
  pub long_marks : length L.marks ≡ P.d * P.m

pub record Leaves (P : Params) (o : Outcome) (r : Figures) (L : Slices) : Type 0 where
  pub ending : r.ending ≡ o.ending
  pub pops : r.pops ≡ o.pops
  pub lost : r.lost ≡ lost_of o
  pub extra : r.extra ≡ extra_of o
  pub remainder : lent_sketch L ≡ o.remainder
  pub table : table_of L.flows L.numbers r.entries ≡ shown_table P o
  pub room : r.entries ≤ length L.flows
  pub past : (k : ℕ) → r.entries ≤ k → get_or L.flows k 0 ≡ 0
  pub past_numbers : (k : ℕ) → r.entries ≤ k → get_or L.numbers k (pos 0) ≡ pos 0
  pub queue : (k : ℕ) → get_or L.queue k 0 ≡ 0
  pub marks : (k : ℕ) → get_or L.marks k 0 ≡ 0
