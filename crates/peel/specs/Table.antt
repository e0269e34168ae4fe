-- The table as the first n slots of two slices.
use Rattle.std.specs.Prelude.{◌≡◌, List, ℕ, ◌<◌, ◌≤◌, ℤ, pos, get_or, length, ltb}
use Rattle.params.specs.declared.params.Params.{Params}
use Rattle.params.specs.Lists.{touched, from}
use Rattle.params.specs.Sketched.{told}
use Rattle.sketch.specs.Sketch.{Entry, by}
use Rattle.walk.specs.Walk.{credited, close, lost_by, extra_by}
use Rattle.peel.specs.declared.table.Listed.{Listed}

-- the entry in slot i, and the first n entries
abbrev pub row : List ℕ → List ℤ → ℕ → Entry
row fs ns i = by (get_or fs i 0) (get_or ns i (pos 0))

unfoldable pub table_of : List ℕ → List ℤ → ℕ → List Entry
table_of fs ns n = from 0 n (row fs ns)

-- r is the first slot below n that holds f, or n
pub record Finds (fs : List ℕ) (n f r : ℕ) : Type 0 where
  pub within : r ≤ n
  pub before : (j : ℕ) → j < r → get_or fs j 0 ≡ f → ⊥
  pub found : r < n → get_or fs r 0 ≡ f

-- the same from slot a on
pub record FindsFrom (a : ℕ) (fs : List ℕ) (n f r : ℕ) : Type 0 where
  pub within : r ≤ n
  pub before : (j : ℕ) → j < r → a ≤ j → get_or fs j 0 ≡ f → ⊥
  pub found : r < n → get_or fs r 0 ≡ f

-- the first n slots told: where they held what is sketched for a flow, they hold the flow
abbrev pub told_slots : Params → ℕ → List ℕ → List ℕ
told_slots P n fs = touched (λ i. ltb i n) (λ i x. told P x) fs

-- what a take leaves in the table, and what the close does
pub record Credited (f : ℕ) (c : ℤ) (fs : List ℕ) (ns : List ℤ) (n : ℕ) (fs' : List ℕ) (ns' : List ℤ) (r : ℕ) : Type 0 where
  pub table : table_of fs' ns' r ≡ credited f c (table_of fs ns n)
  pub room : r ≤ length fs

pub record Lists (fs : List ℕ) (ns : List ℤ) (n : ℕ) (r : Listed) (fs' : List ℕ) (ns' : List ℤ) : Type 0 where
  pub table : table_of fs' ns' r.entries ≡ close (table_of fs ns n)
  pub within : r.entries ≤ n
  pub lost : r.lost ≡ lost_by (close (table_of fs ns n))
  pub extra : r.extra ≡ extra_by (close (table_of fs ns n))
  pub long : length fs' ≡ length fs
  pub long_numbers : length ns' ≡ length ns
  pub past : (k : ℕ) → r.entries ≤ k → get_or fs' k 0 ≡ 0
  pub past_numbers : (k : ℕ) → r.entries ≤ k → get_or ns' k (pos 0) ≡ pos 0
