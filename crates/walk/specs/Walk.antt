-- The walk, over any prime for idsums, any placing of flows and any test of a popped bucket; the limits of counts are those of a sketch.
-- It runs over what is sketched: a flow here is what is sketched for it, in the table too. Shown.antt tells the flows.
use Rattle.std.specs.Prelude.{Bool, true, false, cond, ◌&&◌, ◌||◌, List, [], ◌∷◌, ◌++◌, ℕ, zero, suc, ◌+◌, ℤ, pos, ◌+ℤ◌, ◌-ℤ◌, eqb, ltb, length, None, Option, Some}
use Rattle.field.specs.Parts.{up, down}
use Rattle.field.specs.Residue.{residue}
use Rattle.params.specs.Lists.{below, touched}
use Rattle.buckets.specs.Buckets.{in_limits, is_zero}
use Rattle.sketch.specs.Sketch.{Sketch, sketch, Entry, by, count_in, idsum_in}
use Rattle.walk.specs.declared.Ending.{Ending}
use Rattle.walk.specs.declared.Ending.TheVariants.{Clean, Stuck, Spent, Range, Full}

-- what a walk goes by: the prime, the number of arrays, the index of a flow's bucket in array i (arrays count from 1), whether a flow
-- stands in a bucket, and the test of bucket k with count c and idsum s
pub record Rule : Type 0 where
  pub prime : ℕ
  pub arrays : ℕ
  pub index : ℕ → ℕ → ℕ
  pub stands : ℕ → ℕ → Bool
  pub test : ℕ → ℤ → ℕ → Option ℕ

-- what a walk holds: the sketch, the queue of indexes, and the table in the order of first takes
pub record State : Type 0 where
  pub held : Sketch
  pub queue : List ℕ
  pub table : List Entry

unfoldable pub all : {A : Type 0} → (A → Bool) → List A → Bool
all t [] = true
all t (x ∷ xs) = t x && all t xs

unfoldable pub any : {A : Type 0} → (A → Bool) → List A → Bool
any t [] = false
any t (x ∷ xs) = t x || any t xs

-- every count and every idsum is 0
unfoldable pub nothing_remains : Sketch → Bool
nothing_remains S = all is_zero S.counts && all (λ s. eqb s 0) S.idsums

-- c and s subtracted from f's bucket in every array
unfoldable pub less : Rule → ℕ → ℤ → ℕ → Sketch → Sketch
less R f c s S =
    sketch
    (touched (R.stands f) (λ k x. x -ℤ c) S.counts)
    (touched (R.stands f) (λ k x. residue R.prime (pos x -ℤ pos s)) S.idsums)

-- the table has an entry of f; its count, 0 where there is none
unfoldable pub has : ℕ → List Entry → Bool
has f t = any (λ e. eqb e.flow f) t

unfoldable pub entry_of : ℕ → List Entry → ℤ
entry_of f [] = pos 0
entry_of f (e ∷ es) = cond (eqb e.flow f) e.number (entry_of f es)

-- c added to f's entry, or (f, c) appended where f has none
unfoldable pub credited : ℕ → ℤ → List Entry → List Entry
credited f c [] = by f c ∷ []
credited f c (e ∷ es) = cond (eqb e.flow f) (by e.flow (e.number +ℤ c) ∷ es) (e ∷ credited f c es)

-- k goes to the queue's back, unless it is waiting already
unfoldable pub waits : ℕ → List ℕ → Bool
waits k q = any (λ j. eqb j k) q

abbrev pub join : ℕ → List ℕ → List ℕ
join k q = cond (waits k q) q (q ++ (k ∷ []))

-- of n arrays from i on, in rising order: the bucket that `at` gives joins the queue where its count is now not 0
unfoldable pub requeue : (ℕ → ℕ) → Sketch → ℕ → ℕ → List ℕ → List ℕ
requeue at S i zero q = q
requeue at S i (suc n) q = requeue at S (suc i) n (cond (is_zero (count_in S (at i))) q (join (at i) q))

-- the take brings no count of f's buckets, and not f's entry, outside the limits
unfoldable pub in_range : Rule → ℕ → ℤ → State → Bool
in_range R f c st =
    below R.arrays (λ i. in_limits (count_in st.held (R.index (suc i) f) -ℤ c)) && in_limits (entry_of f st.table +ℤ c)

-- the take needs no new table slot, or one is left
unfoldable pub has_room : ℕ → ℕ → List Entry → Bool
has_room slots f t = has f t || ltb (length t) slots

-- what the take of f makes of the sketch, the queue and the table
unfoldable pub taken : Rule → ℕ → ℤ → ℕ → State → State
taken R f c s st =
    let S : Sketch = less R f c s st.held in
    record { held = S; queue = requeue (λ i. R.index i f) S 1 R.arrays st.queue; table = credited f c st.table }

-- a pop ends the walk or leads on
pub data Move : Type 0 where
  stops : Ending → Move
  goes : State → Move

-- range before full; a take that meets either changes nothing
unfoldable pub takes : Rule → ℕ → ℕ → ℤ → ℕ → State → Move
takes R slots f c s st =
    cond (in_range R f c st) (cond (has_room slots f st.table) (goes (taken R f c s st)) (stops Full)) (stops Range)

-- what the test found in a bucket with count c and idsum s
unfoldable pub follows : Rule → ℕ → ℤ → ℕ → State → Option ℕ → Move
follows R slots c s st None = goes st
follows R slots c s st (Some f) = takes R slots f c s st

-- bucket k was popped, and st holds the rest of the queue: c and s are read before any change
unfoldable pub popped : Rule → ℕ → ℕ → State → Move
popped R slots k st =
    let c : ℤ = count_in st.held k in
    let s : ℕ = idsum_in st.held k in
    follows R slots c s st (R.test k c s)

-- how a walk ended, after how many pops, and what remains and is listed then
pub record Outcome : Type 0 where
  pub ending : Ending
  pub pops : ℕ
  pub remainder : Sketch
  pub table : List Entry

abbrev pub out : Ending → ℕ → State → Outcome
out e n st = record { ending = e; pops = n; remainder = st.held; table = st.table }

abbrev pub queued : State → List ℕ → State
queued st q = record { held = st.held; queue = q; table = st.table }

-- clean and stuck, tested before a pop; `pop k q` where k is popped and q waits on
unfoldable pub before : Bool → List ℕ → ℕ → State → (ℕ → List ℕ → Outcome) → Outcome
before true q n st pop = out Clean n st
before false [] n st pop = out Stuck n st
before false (k ∷ q) n st pop = pop k q

unfoldable pub after : Move → ℕ → State → (State → Outcome) → Outcome
after (stops e) n st go = out e n st
after (goes st') n st go = go st'

-- the walk from a state, with an allowance of that many pops more, n made already
unfoldable pub run : Rule → ℕ → ℕ → ℕ → State → Outcome
run R slots zero n st = before (nothing_remains st.held) st.queue n st (λ k q. out Spent n st)
run R slots (suc allowance) n st =
    before (nothing_remains st.held) st.queue n st
    (λ k q. after (popped R slots k (queued st q)) (suc n) st (run R slots allowance (suc n)))

-- the queue at the start: all buckets from k on with count not 0, in rising index
unfoldable pub first_queue : ℕ → List ℤ → List ℕ
first_queue k [] = []
first_queue k (c ∷ cs) = cond (is_zero c) (first_queue (suc k) cs) (k ∷ first_queue (suc k) cs)

-- the whole walk, with that many table slots
unfoldable pub walk : Rule → ℕ → ℕ → Sketch → Outcome
walk R slots allowance S =
    run R slots allowance 0 (record { held = S; queue = first_queue 0 S.counts; table = [] })

-- the close drops entries with count 0 and keeps the order of the others
unfoldable pub close : List Entry → List Entry
close [] = []
close (e ∷ es) = cond (is_zero e.number) (close es) (e ∷ close es)

-- the sum over the entries of a part of their counts
unfoldable pub summed : (ℤ → ℕ) → List Entry → ℕ
summed part [] = 0
summed part (e ∷ es) = part e.number + summed part es

-- the packets lost by a table's account, which is the sum of its positive counts, and the extra ones, which is the sum of the negative counts without their sign
abbrev pub lost_by : List Entry → ℕ
lost_by t = summed up t

abbrev pub extra_by : List Entry → ℕ
extra_by t = summed down t

-- what is returned of an outcome: its table after the close, and the figures of that table
abbrev pub closed_table : Outcome → List Entry
closed_table o = close o.table

abbrev pub lost_of : Outcome → ℕ
lost_of o = lost_by (closed_table o)

abbrev pub extra_of : Outcome → ℕ
extra_of o = extra_by (closed_table o)
