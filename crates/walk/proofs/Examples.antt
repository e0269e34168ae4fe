-- The examples E1 to E10 of the bench, and what they do not come to: flow 0, a walk that ends by its range, losses beside gains, the edges of the purity test, fingerprints, and what each premise of a walk that surely works is for. They are one table, under a single theorem, `all_right`: the checker works every line out by the definitions.
use mathlib.Core.Path.{◌≡◌, refl}
use mathlib.Core.Bool.{Bool, true, false}
use mathlib.Core.List.{List, [], ◌∷◌, map}
use Prim.Native.Nat.{ℕ, zero, suc}
use lib.IntN.{ℤ, pos, negsuc}
use lib.Dec.{leb}
use lib.ListN.{length}
use Rattle.field.specs.Residue.{residue}
use Rattle.field.specs.Parts.{up, down}
use Rattle.field.specs.Flow.{inverse_in, inverse, flow}
use Rattle.params.specs.declared.params.Params.{Params}
use Rattle.params.specs.declared.answers.Refusal.TheVariants.{Flow}
use Rattle.params.specs.Lists.{below, least, map_from, touched, from}
use Rattle.params.specs.Answers.{number_in, index_in, refuse_at, first, kept, given, Answer, Given, Refused}
use Rattle.params.specs.Params.{prime_of, pair_at, twins, good_dimensions, good_params, lengths_answer, dimensions_answer}
use Rattle.params.specs.Sketched.{sketched, told, is_sketched}
use Rattle.params.specs.Positions.{stand, position, position_answer, stands_in}
use Rattle.buckets.specs.Buckets.{in_limits, is_number}
use Rattle.sketch.specs.Sketch.{Sketch, sketch, Entry, by, count_at, weight_at, sketch_of, damaged_in, leaves_in, flow_buckets_answer, changed_in}
use Rattle.sketch.specs.Packets.{packet_answer, entry_answer, step_answer, changed, move_answer}
use Rattle.walk.specs.Endings.{ending_number}
use Rattle.walk.specs.Walk.{State, Move, stops, goes, Outcome, queued, all, any, nothing_remains, less, has, entry_of, credited, waits, requeue, in_range, has_room, taken, takes, follows, popped, before, after, run, first_queue, walk, close, summed, lost_of, extra_of}
use Rattle.walk.specs.Purity.{test_in, wide_test, pure_test, rule_of}
use Rattle.walk.specs.Shown.{shown_table}
use Rattle.walk.specs.Sure.{all_flows, all_positive, all_nonzero, own_buckets, within_limits, parts_by}
use Rattle.std.specs.Prelude.{Ok, None, Option, Some}

-- d = 2, m = 5, pairs (1, 0) and (1073741824, 0)
abbrev pub K : Params
K = record { d = 2; m = 5; a = 1 ∷ 1073741824 ∷ 0 ∷ 0 ∷ []; b = 0 ∷ 0 ∷ 0 ∷ 0 ∷ []; a5 = 0; b5 = 0 }

-- the same with fingerprints, by the fifth pair (2000000110, 7): flows 2, 7, 12, 17 have 228, 15, 58, 100
abbrev pub K5 : Params
K5 = record { d = 2; m = 5; a = K.a; b = K.b; a5 = 2000000110; b5 = 7 }

-- and by the fifth pair (1, 0), whose fingerprints of small flows are the flows themselves
abbrev weak : Params
weak = record { d = 2; m = 5; a = K.a; b = K.b; a5 = 1; b5 = 0 }

-- and with the pairs (1, 0) and (1431655765, 0), by which flows 6, 7 and 14 share a bucket of array 2 alone
abbrev thirds : Params
thirds = record { d = 2; m = 5; a = 1 ∷ 1431655765 ∷ 0 ∷ 0 ∷ []; b = K.b; a5 = 0; b5 = 0 }

-- what is asked
pub data Question : Type 0 where
  position_of : (array flow : ℕ) → Question
  sketch_of_lem : (list : List Entry) → Question
  test_of : (index : ℕ) (count : ℤ) (idsum : ℕ) → Question
  peeling : (S : Sketch) (slots allowance : ℕ) → Question
  queue_after : (pops : ℕ) (S : Sketch) → Question
  inserting : (S : Sketch) (flow number : ℕ) → Question
  peeling_list : (list : List Entry) (slots allowance : ℕ) → Question

-- what a walk asks for that surely works: that the flow numbers are those of flows, the numbers positive, or other than 0 at least, that each flow has a bucket of its own
-- in array 1, that the counts of the sketch are within the limits, of the losses alone and of the gains alone too, and a slot and a pop for each flow
pub data Premise : Type 0 where
  flows : Premise
  positive : Premise
  nonzero : Premise
  own_buckets_lem : Premise
  limits : Premise
  loss_limits : Premise
  gain_limits : Premise
  slot_each : Premise
  pop_each : Premise

-- and what is answered
pub data Reply : Type 0 where
  located : Given ℕ → Reply
  holds : Sketch → Reply
  finds : (number : ℕ) (wide pure : Option ℕ) → Reply
  ends : (ending pops lost extra : ℕ) (table : List Entry) (remainder : Sketch) → Reply
  waits_on : List ℕ → Reply
  says : (number index : ℕ) → Sketch → Reply
  lacks : List Premise → (ending pops : ℕ) (table : List Entry) → Reply

-- the premises that fail
abbrev unless : Bool → Premise → List Premise → List Premise
unless true w ws = ws
unless false w ws = w ∷ ws

abbrev pub failing : Params → List Entry → ℕ → ℕ → List Premise
failing P es slots allowance =
    unless (all_flows P es) flows
    (unless (all_positive es) positive
    (unless (all_nonzero es) nonzero
    (unless (own_buckets P es) own_buckets_lem
    (unless (within_limits P es) limits
    (unless (within_limits P (parts_by up es)) loss_limits
    (unless (within_limits P (parts_by down es)) gain_limits
    (unless (leb (length es) slots) slot_each
    (unless (leb (length es) allowance) pop_each
    []))))))))

-- the ending by its number, and the table that is shown
abbrev ended : Params → Outcome → Reply
ended P o = ends (ending_number o.ending) o.pops (lost_of o) (extra_of o) (shown_table P o) o.remainder

-- the walk's own moves under K, pop by pop
abbrev moved : Move → State → State
moved (stops e) st = st
moved (goes st') st = st'

abbrev one_pop : List ℕ → State → State
one_pop [] st = st
one_pop (k ∷ q) st = moved (popped (rule_of K) 10 k (queued st q)) st

unfoldable pub pops : ℕ → State → State
pops zero st = st
pops (suc n) st = pops n (one_pop st.queue st)

abbrev tabled : Params → List Premise → Outcome → Reply
tabled P ws o = lacks ws (ending_number o.ending) o.pops (shown_table P o)

abbrev judged : Sketch → Answer → Sketch → Reply
judged S r S' = says (number_in r) (index_in r) (kept r S S')

-- what the definitions tell
abbrev pub reply : Params → Question → Reply
reply P (position_of i f) = located (given (position_answer P i f) (position P i f))
reply P (sketch_of_lem es) = holds (sketch_of P es)
reply P (test_of k c s) = finds (flow (prime_of P) c s) (wide_test P k c s) (pure_test P k c s)
reply P (peeling S slots allowance) = ended P (walk (rule_of P) slots allowance S)
reply P (queue_after n S) = waits_on (pops n (record { held = S; queue = first_queue 0 S.counts; table = [] })).queue
reply P (peeling_list es slots allowance) = tabled P (failing P es slots allowance) (walk (rule_of P) slots allowance (sketch_of P es))
reply P (inserting S f n) = judged S (move_answer P false f n S) (changed P false f n S)

-- a line of the table: what is asked, under which parameters, and what is answered; `gives` is under K, and `K5-gives` under K5
pub record Line : Type 0 where
  pub params : Params
  pub asked : Question
  pub answer : Reply

infix 40 ◌gives◌
abbrev ◌gives◌ : Question → Reply → Line
q gives t = record { params = K; asked = q; answer = t }

infix 40 ◌K5-gives◌
abbrev ◌K5-gives◌ : Question → Reply → Line
q K5-gives t = record { params = K5; asked = q; answer = t }

-- a sketch by its ten buckets, those of array 1 first; `o` is all zero
pub record Bucket : Type 0 where
  pub count : ℤ
  pub idsum : ℕ

abbrev pub b : ℤ → ℕ → Bucket
b c s = record { count = c; idsum = s }

abbrev pub o : Bucket
o = b (pos 0) 0

abbrev pub buckets : List Bucket → Sketch
buckets bs = sketch (map (λ b. b.count) bs) (map (λ b. b.idsum) bs)

-- the sketches of the examples, all zero, and what E3 leaves
abbrev pub S0 : Sketch
S0 = buckets (o ∷ o ∷ o ∷ o ∷ o ∷ o ∷ o ∷ o ∷ o ∷ o ∷ [])

abbrev pub S1 : Sketch
S1 = buckets (o ∷ o ∷ b (pos 3) 31 ∷ o ∷ o ∷ o ∷ b (pos 2) 24 ∷ b (pos 1) 7 ∷ o ∷ o ∷ [])

abbrev pub S3 : Sketch
S3 = buckets (o ∷ o ∷ b (pos 2) 14 ∷ o ∷ o ∷ o ∷ b (pos 2) 14 ∷ o ∷ o ∷ o ∷ [])

abbrev pub remainder3 : Sketch
remainder3 = buckets (o ∷ o ∷ o ∷ o ∷ o ∷ o ∷ b (pos 2) 14 ∷ b (negsuc 1) 2147483633 ∷ o ∷ o ∷ [])

abbrev pub S5 : Sketch
S5 = buckets (o ∷ o ∷ b (pos 0) 2147483637 ∷ o ∷ o ∷ o ∷ b (pos 0) 2147483637 ∷ o ∷ o ∷ o ∷ [])

abbrev pub S6 : Sketch
S6 = buckets (o ∷ o ∷ b (negsuc 3) 2147483619 ∷ o ∷ o ∷ o ∷ o ∷ b (negsuc 3) 2147483619 ∷ o ∷ o ∷ [])

abbrev S7 : Sketch
S7 = buckets (o ∷ b (pos 2147483646) 1 ∷ o ∷ o ∷ o ∷ o ∷ o ∷ o ∷ b (pos 2147483646) 1 ∷ o ∷ [])

-- flow 0 by 3, by itself, and beside E1's flows
abbrev pub SZ : Sketch
SZ = buckets (b (pos 3) 0 ∷ o ∷ o ∷ o ∷ o ∷ b (pos 3) 0 ∷ o ∷ o ∷ o ∷ o ∷ [])

abbrev SZ1 : Sketch
SZ1 = buckets (b (pos 3) 0 ∷ o ∷ b (pos 3) 31 ∷ o ∷ o ∷ b (pos 3) 0 ∷ b (pos 2) 24 ∷ b (pos 1) 7 ∷ o ∷ o ∷ [])

-- flow 0 by 1 and flow 20 by 1, which stand in the same buckets
abbrev SZ20 : Sketch
SZ20 = buckets (b (pos 2) 20 ∷ o ∷ o ∷ o ∷ o ∷ b (pos 2) 20 ∷ o ∷ o ∷ o ∷ o ∷ [])

-- flow 1 by 1
abbrev Si : Sketch
Si = buckets (o ∷ b (pos 1) 1 ∷ o ∷ o ∷ o ∷ o ∷ o ∷ o ∷ o ∷ b (pos 1) 1 ∷ [])

-- E1's packets gained in place of lost
abbrev SE : Sketch
SE = buckets (o ∷ o ∷ b (negsuc 2) 2147483616 ∷ o ∷ o ∷ o ∷ b (negsuc 1) 2147483623 ∷ b (negsuc 0) 2147483640 ∷ o ∷ o ∷ [])

-- flow 7 lost 5 packets, and flow 20 gained 5
abbrev pub SL : Sketch
SL = buckets (b (negsuc 4) 2147483547 ∷ o ∷ b (pos 5) 35 ∷ o ∷ o ∷ b (negsuc 4) 2147483547 ∷ o ∷ b (pos 5) 35 ∷ o ∷ o ∷ [])

-- flow 7 by 1, and by 5
abbrev S71 : Sketch
S71 = buckets (o ∷ o ∷ b (pos 1) 7 ∷ o ∷ o ∷ o ∷ o ∷ b (pos 1) 7 ∷ o ∷ o ∷ [])

abbrev S75 : Sketch
S75 = buckets (o ∷ o ∷ b (pos 5) 35 ∷ o ∷ o ∷ o ∷ o ∷ b (pos 5) 35 ∷ o ∷ o ∷ [])

-- flows 7, 11 and 20, each by the greatest number
abbrev SB : Sketch
SB = buckets (b (pos 2147483646) 2147483627 ∷ b (pos 2147483646) 2147483636 ∷ b (pos 2147483646) 2147483640 ∷ o ∷ o ∷ b (pos 2147483646) 2147483627 ∷ o ∷ b (pos 2147483646) 2147483640 ∷ o ∷ b (pos 2147483646) 2147483636 ∷ [])

-- flow 20 by 3, E3's two flows, and flow 4 by -4
abbrev pub SC : Sketch
SC = buckets (b (pos 3) 60 ∷ o ∷ b (pos 2) 14 ∷ o ∷ b (negsuc 3) 2147483631 ∷ b (pos 3) 60 ∷ b (pos 2) 14 ∷ b (negsuc 3) 2147483631 ∷ o ∷ o ∷ [])

-- index 2 is pure with flow 7, whose other bucket the take would bring to -2147483647
abbrev SR : Sketch
SR = buckets (o ∷ o ∷ b (pos 2147483646) 2147483640 ∷ o ∷ o ∷ o ∷ o ∷ b (negsuc 0) 0 ∷ o ∷ o ∷ [])

-- with fingerprints: flows 7 by 1 and 17 by 2; E3's two flows, and what is left of them in the plain profile; flow 8388606 by 1; and flows 1 and 61, each by 1
abbrev pub SP : Sketch
SP = buckets (o ∷ o ∷ b (pos 3) 10711 ∷ o ∷ o ∷ o ∷ b (pos 2) 8904 ∷ b (pos 1) 1807 ∷ o ∷ o ∷ [])

abbrev pub SP3 : Sketch
SP3 = buckets (b (pos 2) 3870 ∷ o ∷ o ∷ o ∷ o ∷ b (pos 2) 3870 ∷ o ∷ o ∷ o ∷ o ∷ [])

abbrev SP3' : Sketch
SP3' = buckets (o ∷ o ∷ o ∷ o ∷ o ∷ b (pos 2) 3870 ∷ b (negsuc 1) 2147479777 ∷ o ∷ o ∷ o ∷ [])

abbrev SPM : Sketch
SPM = buckets (b (pos 1) 2147483325 ∷ o ∷ o ∷ o ∷ o ∷ o ∷ b (pos 1) 2147483325 ∷ o ∷ o ∷ o ∷ [])

abbrev pub SP61 : Sketch
SP61 = buckets (o ∷ o ∷ o ∷ b (pos 2) 16106 ∷ o ∷ b (pos 2) 16106 ∷ o ∷ o ∷ o ∷ o ∷ [])

-- E3's two flows by the weak fifth pair, and what is left of them
abbrev SW : Sketch
SW = buckets (o ∷ o ∷ o ∷ o ∷ b (pos 2) 3598 ∷ o ∷ o ∷ b (pos 2) 3598 ∷ o ∷ o ∷ [])

abbrev SW' : Sketch
SW' = buckets (o ∷ o ∷ o ∷ o ∷ o ∷ o ∷ o ∷ b (pos 2) 3598 ∷ b (negsuc 1) 2147480049 ∷ o ∷ [])

abbrev pub examples : List Line
examples =
    -- K
    (position_of 1 2 gives located (Ok 2))
    ∷ (position_of 1 7 gives located (Ok 2))
    ∷ (position_of 1 11 gives located (Ok 1))
    ∷ (position_of 1 12 gives located (Ok 2))
    ∷ (position_of 1 20 gives located (Ok 0))
    ∷ (position_of 2 2 gives located (Ok 1))
    ∷ (position_of 2 7 gives located (Ok 2))
    ∷ (position_of 2 11 gives located (Ok 4))
    ∷ (position_of 2 12 gives located (Ok 1))
    ∷ (position_of 2 20 gives located (Ok 0))
    -- E1
    ∷ (sketch_of_lem (by 7 (pos 1) ∷ by 12 (pos 2) ∷ []) gives holds S1)
    -- E2
    ∷ (test_of 2 (pos 3) 31 gives finds 1431655775 None None)
    ∷ (peeling S1 10 80 gives ends 1 3 3 0 (by 12 (pos 2) ∷ by 7 (pos 1) ∷ []) S0)
    ∷ (queue_after 0 S1 gives waits_on (2 ∷ 6 ∷ 7 ∷ []))
    ∷ (queue_after 3 S1 gives waits_on (2 ∷ []))
    -- E3
    ∷ (sketch_of_lem (by 2 (pos 1) ∷ by 12 (pos 1) ∷ []) gives holds S3)
    ∷ (test_of 2 (pos 2) 14 gives finds 7 (Some 7) (Some 7))
    ∷ (peeling S3 10 10 gives ends 3 10 2 0 (by 7 (pos 2) ∷ []) remainder3)
    -- E4
    ∷ (peeling S3 10 9 gives ends 3 9 0 0 [] S3)
    -- E5
    ∷ (sketch_of_lem (by 2 (pos 1) ∷ by 12 (negsuc 0) ∷ []) gives holds S5)
    ∷ (peeling S5 10 80 gives ends 2 0 0 0 [] S5)
    -- E6
    ∷ (sketch_of_lem (by 7 (negsuc 3) ∷ []) gives holds S6)
    ∷ (peeling S6 10 80 gives ends 1 1 0 4 (by 7 (negsuc 3) ∷ []) S0)
    -- E7
    ∷ (sketch_of_lem (by 2147483646 (pos 2147483646) ∷ []) gives holds S7)
    ∷ (inserting S0 2147483646 2147483646 gives says 0 0 S7)
    ∷ (inserting S7 1 1 gives says 6 1 S7)
    -- E8
    ∷ (inserting S0 2147483647 1 gives says 3 0 S0)
    ∷ (inserting S0 1 0 gives says 4 0 S0)
    ∷ (inserting S0 1 2147483647 gives says 4 0 S0)
    -- E9
    ∷ (peeling S0 10 0 gives ends 1 0 0 0 [] S0)
    ∷ (peeling S1 10 0 gives ends 3 0 0 0 [] S1)
    -- E10
    ∷ (peeling S1 0 80 gives ends 6 2 0 0 [] S1)
    -- what one flow lost is not hidden by what another gained; figures are of what is listed, so that a walk that ends early may have only one of them; and they may need more than 32 bits
    ∷ (sketch_of_lem (by 7 (pos 5) ∷ by 20 (negsuc 4) ∷ []) gives holds SL)
    ∷ (peeling SL 10 80 gives ends 1 2 5 5 (by 20 (negsuc 4) ∷ by 7 (pos 5) ∷ []) S0)
    ∷ (peeling SL 10 1 gives ends 3 1 0 5 (by 20 (negsuc 4) ∷ []) S75)
    ∷ (sketch_of_lem (by 7 (negsuc 0) ∷ by 12 (negsuc 1) ∷ []) gives holds SE)
    ∷ (peeling SE 10 80 gives ends 1 3 0 3 (by 12 (negsuc 1) ∷ by 7 (negsuc 0) ∷ []) S0)
    ∷ (peeling S1 1 80 gives ends 6 3 2 0 (by 12 (pos 2) ∷ []) S71)
    ∷ (peeling SB 10 80 gives ends 1 3 6442450938 0 (by 20 (pos 2147483646) ∷ by 11 (pos 2147483646) ∷ by 7 (pos 2147483646) ∷ []) S0)
    -- an entry between the two that are listed came to 0: E3's two flows passed as flow 7, which was taken and put back
    ∷ (sketch_of_lem (by 20 (pos 3) ∷ by 2 (pos 1) ∷ by 12 (pos 1) ∷ by 4 (negsuc 3) ∷ []) gives holds SC)
    ∷ (peeling SC 10 6 gives ends 3 6 3 4 (by 20 (pos 3) ∷ by 4 (negsuc 3) ∷ []) S3)
    -- flow 0 is FLOW, before COUNT, and as a position; flow 1 is a flow
    ∷ (inserting S0 0 1 gives says 3 0 S0)
    ∷ (inserting S0 0 0 gives says 3 0 S0)
    ∷ (inserting S0 1 1 gives says 0 0 Si)
    ∷ (position_of 1 0 gives located (Refused Flow 0))
    ∷ (position_of 2 1 gives located (Ok 4))
    -- an old sketch of flow 0 is stuck, by itself and where all else is listed; its buckets are not pure
    ∷ (sketch_of_lem (by 0 (pos 3) ∷ []) gives holds SZ)
    ∷ (test_of 0 (pos 3) 0 gives finds 0 (Some 0) None)
    ∷ (peeling SZ 10 80 gives ends 2 2 0 0 [] SZ)
    ∷ (sketch_of_lem (by 7 (pos 1) ∷ by 0 (pos 3) ∷ by 12 (pos 2) ∷ []) gives holds SZ1)
    ∷ (peeling SZ1 10 80 gives ends 2 6 3 0 (by 12 (pos 2) ∷ by 7 (pos 1) ∷ []) SZ)
    -- where flow 0 stands beside another flow, the two can pass as a third, as those of E3 do
    ∷ (sketch_of_lem (by 0 (pos 1) ∷ by 20 (pos 1) ∷ []) gives holds SZ20)
    ∷ (peeling SZ20 10 80 gives ends 1 1 2 0 (by 10 (pos 2) ∷ []) S0)
    -- a take that would leave the range
    ∷ (peeling SR 10 80 gives ends 5 1 0 0 [] SR)
    -- counts that are multiples of the prime, where flow 0 would stand, the last two outside the limits; the greatest and the least count within them
    ∷ (test_of 0 (pos 0) 7 gives finds 0 None None)
    ∷ (test_of 0 (pos 2147483647) 7 gives finds 0 None None)
    ∷ (test_of 0 (negsuc 2147483646) 7 gives finds 0 None None)
    ∷ (test_of 1 (pos 2147483646) 1 gives finds 2147483646 (Some 2147483646) (Some 2147483646))
    ∷ (test_of 1 (negsuc 2147483645) 1 gives finds 1 (Some 1) (Some 1))
    -- fingerprints: a flow stands where its extended number does, and flows are 1 to 8388606
    ∷ (position_of 1 2 K5-gives located (Ok 0))
    ∷ (position_of 2 2 K5-gives located (Ok 0))
    ∷ (position_of 1 17 K5-gives located (Ok 2))
    ∷ (position_of 2 17 K5-gives located (Ok 1))
    ∷ (position_of 1 8388606 K5-gives located (Ok 0))
    ∷ (position_of 1 8388607 K5-gives located (Refused Flow 0))
    ∷ (position_of 1 0 K5-gives located (Refused Flow 0))
    ∷ (inserting S0 8388606 1 K5-gives says 0 0 SPM)
    ∷ (inserting S0 8388607 1 K5-gives says 3 0 S0)
    ∷ (peeling SPM 10 80 K5-gives ends 1 1 1 0 (by 8388606 (pos 1) ∷ []) S0)
    -- as E1, E2 and E6
    ∷ (sketch_of_lem (by 7 (pos 1) ∷ by 17 (pos 2) ∷ []) K5-gives holds SP)
    ∷ (test_of 2 (pos 3) 10711 K5-gives finds 1431659335 None None)
    ∷ (test_of 7 (pos 1) 1807 K5-gives finds 1807 (Some 1807) (Some 1807))
    ∷ (peeling SP 10 80 K5-gives ends 1 3 3 0 (by 17 (pos 2) ∷ by 7 (pos 1) ∷ []) S0)
    ∷ (peeling (sketch_of K5 (by 7 (negsuc 3) ∷ [])) 10 80 K5-gives ends 1 1 0 4 (by 7 (negsuc 3) ∷ []) S0)
    -- as E3: the two flows share both buckets. Their number, 7 * 256 + 143, stands there and passes in the plain profile; the fingerprint of flow 7 is 15
    ∷ (sketch_of_lem (by 2 (pos 1) ∷ by 12 (pos 1) ∷ []) K5-gives holds SP3)
    ∷ (test_of 0 (pos 2) 3870 K5-gives finds 1935 (Some 1935) None)
    ∷ (peeling SP3 10 80 K5-gives ends 2 2 0 0 [] SP3)
    ∷ (test_of 0 (pos 2) 3870 gives finds 1935 (Some 1935) (Some 1935))
    ∷ (peeling SP3 10 10 gives ends 3 10 2 0 (by 1935 (pos 2) ∷ []) SP3')
    -- extended numbers whose last eight bits are right, of 0 and of 8388607, which are no flows
    ∷ (test_of 2 (pos 1) 7 K5-gives finds 7 (Some 7) None)
    ∷ (test_of 1 (pos 1) 2147483436 K5-gives finds 2147483436 (Some 2147483436) None)
    -- a clean table need not be the only one that fits: flows 1 and 61 pass as flow 31
    ∷ (sketch_of_lem (by 1 (pos 1) ∷ by 61 (pos 1) ∷ []) K5-gives holds SP61)
    ∷ (sketch_of_lem (by 31 (pos 2) ∷ []) K5-gives holds SP61)
    ∷ (peeling SP61 10 80 K5-gives ends 1 1 2 0 (by 31 (pos 2) ∷ []) S0)
    -- by a fifth pair that is too small E3's flows pass as flow 7 again
    ∷ record { params = weak; asked = sketch_of_lem (by 2 (pos 1) ∷ by 12 (pos 1) ∷ []); answer = holds SW }
    ∷ record { params = weak; asked = peeling SW 10 10; answer = ends 3 10 2 0 (by 7 (pos 2) ∷ []) SW' }
    -- a walk that surely works: with a slot and a pop for each flow it is clean, though flows 7 and 14 share a bucket of array 2, and five buckets have a count; so with fingerprints
    ∷ (peeling_list (by 7 (pos 1) ∷ by 14 (pos 2) ∷ by 11 (pos 3) ∷ []) 3 3 gives lacks [] 1 3 (by 11 (pos 3) ∷ by 7 (pos 1) ∷ by 14 (pos 2) ∷ []))
    ∷ (peeling_list (by 1 (pos 1) ∷ by 3 (pos 2) ∷ by 2 (pos 3) ∷ []) 3 3 K5-gives lacks [] 1 3 (by 2 (pos 3) ∷ by 3 (pos 2) ∷ by 1 (pos 1) ∷ []))
    -- and with gains beside losses, of a bucket both up to the limit
    ∷ (peeling_list (by 7 (pos 5) ∷ by 20 (negsuc 4) ∷ []) 2 2 gives lacks (positive ∷ []) 1 2 (by 20 (negsuc 4) ∷ by 7 (pos 5) ∷ []))
    ∷ record { params = thirds; asked = peeling_list (by 7 (negsuc 2147483645) ∷ by 6 (pos 2147483646) ∷ []) 2 2; answer = lacks (positive ∷ []) 1 2 (by 6 (pos 2147483646) ∷ by 7 (negsuc 2147483645) ∷ []) }
    -- what each premise is for. Flow 0 stays, and a number past the flows is listed as another
    ∷ (peeling_list (by 0 (pos 3) ∷ by 11 (pos 1) ∷ []) 10 80 gives lacks (flows ∷ []) 2 4 (by 11 (pos 1) ∷ []))
    ∷ (peeling_list (by 2147483654 (pos 1) ∷ []) 10 80 gives lacks (flows ∷ []) 1 1 (by 7 (pos 1) ∷ []))
    -- two flows that share a bucket of array 1 can pass as a third without end, and two entries of one flow make one
    ∷ (peeling_list (by 2 (pos 1) ∷ by 12 (pos 1) ∷ []) 10 80 gives lacks (own_buckets_lem ∷ []) 3 80 (by 7 (pos 2) ∷ []))
    ∷ (peeling_list (by 7 (pos 1) ∷ by 7 (pos 2) ∷ []) 10 80 gives lacks (own_buckets_lem ∷ []) 1 1 (by 7 (pos 3) ∷ []))
    -- where numbers are negative, the first take leaves the range, by the gains of a bucket or by its losses; and so where a count is outside the limits at the start
    ∷ record { params = thirds; asked = peeling_list (by 6 (pos 2147483646) ∷ by 7 (negsuc 2147483645) ∷ by 14 (negsuc 2147483645) ∷ []) 10 80; answer = lacks (positive ∷ gain_limits ∷ []) 5 1 [] }
    ∷ record { params = thirds; asked = peeling_list (by 6 (negsuc 2147483645) ∷ by 7 (pos 2147483646) ∷ by 14 (pos 2147483646) ∷ []) 10 80; answer = lacks (positive ∷ loss_limits ∷ []) 5 1 [] }
    ∷ record { params = thirds; asked = peeling_list (by 6 (pos 2147483646) ∷ by 7 (pos 2147483646) ∷ by 14 (pos 2147483646) ∷ []) 10 80; answer = lacks (limits ∷ loss_limits ∷ []) 5 1 [] }
    -- an entry with the number 0 is not listed
    ∷ (peeling_list (by 7 (pos 0) ∷ by 11 (pos 1) ∷ []) 10 80 gives lacks (positive ∷ nonzero ∷ []) 1 1 (by 11 (pos 1) ∷ []))
    -- one slot fewer, and one pop fewer
    ∷ (peeling_list (by 7 (pos 1) ∷ by 14 (pos 2) ∷ by 11 (pos 3) ∷ []) 2 80 gives lacks (slot_each ∷ []) 6 3 (by 11 (pos 3) ∷ by 7 (pos 1) ∷ []))
    ∷ (peeling_list (by 7 (pos 1) ∷ by 14 (pos 2) ∷ by 11 (pos 3) ∷ []) 10 2 gives lacks (pop_each ∷ []) 3 2 (by 11 (pos 3) ∷ by 7 (pos 1) ∷ []))
    ∷ []

-- every line of the table is right, and the walk of E3 goes on without end: it is spent whatever it is allowed
pub all_right : (map (λ l. reply l.params l.asked) examples ≡ map (λ l. l.answer) examples) × ((n : ℕ) → ending_number (walk (rule_of K) 10 n S3).ending ≡ 3)
unfolding residue inverse_in inverse flow below least map_from touched from refuse_at first kept pair_at twins good_dimensions good_params lengths_answer dimensions_answer sketched told is_sketched stand position_answer stands_in in_limits is_number count_at weight_at sketch_of damaged_in leaves_in flow_buckets_answer changed_in packet_answer entry_answer step_answer changed move_answer all any nothing_remains less has entry_of credited waits requeue in_range has_room taken takes follows popped before after run first_queue walk close summed test_in own_buckets pops
all_right = (refl, without_end)
  where
    -- flow 7 goes in and comes out
    in_and_out : (n i : ℕ) → (ending_number (run (rule_of K) 10 n i (record { held = S3; queue = 2 ∷ []; table = by 7 (pos 0) ∷ [] })).ending ≡ 3)
        × (ending_number (run (rule_of K) 10 n i (record { held = remainder3; queue = 7 ∷ []; table = by 7 (pos 2) ∷ [] })).ending ≡ 3)
    in_and_out zero i = (refl, refl)
    in_and_out (suc n) i = ((in_and_out n (suc i)).1, (in_and_out n (suc i)).0)

    without_end : (n : ℕ) → ending_number (walk (rule_of K) 10 n S3).ending ≡ 3
    without_end zero = refl
    without_end (suc zero) = refl
    without_end (suc (suc zero)) = refl
    without_end (suc (suc (suc n))) = (in_and_out n 3).0
