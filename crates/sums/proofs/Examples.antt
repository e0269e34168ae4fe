-- Bad input in one table, with the number and the index that it gets, and what is only just accepted, computed from the definitions.
-- The examples E1 to E10 of the bench stand in one table of their own, in the crate walk.
use mathlib.Core.Path.{◌≡◌, refl}
use mathlib.Core.Bool.{true, false}
use mathlib.Core.List.{List, [], ◌∷◌, map}
use Prim.Native.Nat.{ℕ}
use lib.IntN.{ℤ, pos, negsuc}
use lib.ListN.{replicate, set}
use Rattle.params.specs.declared.params.Params.{Params}
use Rattle.params.specs.Lists.{below, least}
use Rattle.params.specs.Answers.{number_in, index_in, refuse_at, first, Answer}
use Rattle.params.specs.Params.{pair_at, twins, good_dimensions, good_params, same_pair, same_params, lengths_answer, dimensions_answer}
use Rattle.params.specs.Sketched.{sketched}
use Rattle.params.specs.Positions.{stand, position_answer, stands_in}
use Rattle.buckets.specs.Buckets.{in_limits, is_number}
use Rattle.sketch.specs.Sketch.{Sketch, sketch, zeros, damaged_in, leaves_in, flow_buckets_answer}
use Rattle.sketch.specs.Packets.{packet_answer, entry_answer, step_answer, move_answer}
use Rattle.sketch.specs.Arrays.{array_answer}
use Rattle.sums.specs.Sums.{both_lent_answer, either_damaged, leaves, buckets_answer, combine_answer}

-- what a row has: an answer's number and index
pub record Returned : Type 0 where
  pub number : ℕ
  pub index : ℕ

abbrev answer : ℕ → ℕ → Returned
answer n k = record { number = n; index = k }

abbrev returned : Answer → Returned
returned r = answer (number_in r) (index_in r)

-- d arrays of m buckets
abbrev params : ℕ → ℕ → List ℕ → List ℕ → Params
params d m xs ys = record { d = d; m = m; a = xs; b = ys; a5 = 0; b5 = 0 }

-- the bench's parameters
abbrev pub K : Params
K = params 2 5 (1 ∷ 1073741824 ∷ 0 ∷ 0 ∷ []) (0 ∷ 0 ∷ 0 ∷ 0 ∷ [])

-- the same with fingerprints, by this fifth pair
abbrev with_fifth : ℕ → ℕ → Params
with_fifth a b = record { d = 2; m = 5; a = K.a; b = K.b; a5 = a; b5 = b }

-- zeros in slices of these lengths, a fresh sketch under K, and one with bucket k set
abbrev long : ℕ → ℕ → Sketch
long c s = sketch (replicate c (pos 0)) (replicate s 0)

abbrev fresh : Sketch
fresh = zeros K

abbrev holding : ℕ → ℤ → ℕ → Sketch
holding k c s = sketch (set fresh.counts k c) (set fresh.idsums k s)

-- what is returned where n packets of flow f go in, and where the second sketch is added or subtracted
abbrev inserting : Params → ℕ → ℕ → Sketch → Returned
inserting P f n S = returned (move_answer P false f n S)

abbrev adding : Params → Params → Sketch → Sketch → Returned
adding P Q S T = returned (combine_answer false P Q S T)

abbrev subtracting : Params → Params → Sketch → Sketch → Returned
subtracting P Q S T = returned (combine_answer true P Q S T)

-- each row: what is computed, and what it has to be
abbrev pub table : List (Returned × Returned)
table =
    -- parameters that break a rule: the number of arrays, of buckets, the pairs in use and those that are not
    (inserting (params 0 5 (0 ∷ 0 ∷ 0 ∷ 0 ∷ []) (0 ∷ 0 ∷ 0 ∷ 0 ∷ [])) 7 1 (long 0 0), answer 1 0)
    ∷ (inserting (params 1 5 (1 ∷ 0 ∷ 0 ∷ 0 ∷ []) (0 ∷ 0 ∷ 0 ∷ 0 ∷ [])) 7 1 (long 5 5), answer 1 0)
    ∷ (inserting (params 5 5 (1 ∷ 2 ∷ 3 ∷ 4 ∷ []) (0 ∷ 0 ∷ 0 ∷ 0 ∷ [])) 7 1 (long 25 25), answer 1 0)
    ∷ (inserting (params 2 0 K.a K.b) 7 1 (long 0 0), answer 1 0)
    ∷ (inserting (params 2 16385 K.a K.b) 7 1 fresh, answer 1 0)
    ∷ (inserting (params 2 5 (1 ∷ 1 ∷ 0 ∷ 0 ∷ []) (0 ∷ 0 ∷ 0 ∷ 0 ∷ [])) 7 1 fresh, answer 1 0)
    ∷ (inserting (params 2 5 (1 ∷ 0 ∷ 0 ∷ 0 ∷ []) (0 ∷ 0 ∷ 0 ∷ 0 ∷ [])) 7 1 fresh, answer 1 0)
    ∷ (inserting (params 2 5 (1 ∷ 2147483647 ∷ 0 ∷ 0 ∷ []) (0 ∷ 0 ∷ 0 ∷ 0 ∷ [])) 7 1 fresh, answer 1 0)
    ∷ (inserting (params 2 5 (1 ∷ 1073741824 ∷ 0 ∷ 0 ∷ []) (0 ∷ 2147483647 ∷ 0 ∷ 0 ∷ [])) 7 1 fresh, answer 1 0)
    ∷ (inserting (params 2 5 (1 ∷ 1073741824 ∷ 1 ∷ 0 ∷ []) (0 ∷ 0 ∷ 0 ∷ 0 ∷ [])) 7 1 fresh, answer 1 0)
    ∷ (inserting (params 2 5 (1 ∷ 1073741824 ∷ 0 ∷ 0 ∷ []) (0 ∷ 0 ∷ 0 ∷ 1 ∷ [])) 7 1 fresh, answer 1 0)
    ∷ (returned (position_answer K 0 7), answer 1 0)
    ∷ (returned (position_answer K 3 7), answer 1 0)
    ∷ (returned (position_answer K 2 2147483647), answer 3 0)
    ∷ (returned (array_answer K 0 10), answer 1 0)
    ∷ (returned (array_answer K 3 10), answer 1 0)
    ∷ (returned (array_answer K 2 11), answer 2 0)
    -- the fifth pair: at its limits, past them, equal to another, and half of one
    ∷ (inserting (with_fifth 1 0) 7 1 fresh, answer 0 0)
    ∷ (inserting (with_fifth 2147483646 2147483646) 7 1 fresh, answer 0 0)
    ∷ (inserting (with_fifth 2147483647 0) 7 1 fresh, answer 1 0)
    ∷ (inserting (with_fifth 1 2147483647) 7 1 fresh, answer 1 0)
    ∷ (inserting (with_fifth 0 1) 7 1 fresh, answer 1 0)
    -- and the flows that there are with it
    ∷ (inserting (with_fifth 1 0) 8388606 1 fresh, answer 0 0)
    ∷ (inserting (with_fifth 1 0) 8388607 1 fresh, answer 3 0)
    ∷ (inserting (with_fifth 1 0) 0 1 fresh, answer 3 0)
    ∷ (returned (position_answer (with_fifth 1 0) 2 8388606), answer 0 0)
    ∷ (returned (position_answer (with_fifth 1 0) 2 8388607), answer 3 0)
    ∷ (inserting K 8388607 1 fresh, answer 0 0)
    -- slices one short and one long, which come before the packet
    ∷ (inserting K 7 1 (long 9 10), answer 2 0)
    ∷ (inserting K 7 1 (long 11 10), answer 2 0)
    ∷ (inserting K 7 1 (long 10 9), answer 2 0)
    ∷ (inserting K 2147483647 0 (long 10 11), answer 2 0)
    ∷ (inserting K 2147483647 0 fresh, answer 3 0)
    -- buckets outside their limits, of the flow and of another
    ∷ (inserting K 7 1 (holding 2 (negsuc 2147483647) 0), answer 5 2)
    ∷ (inserting K 7 1 (holding 2 (negsuc 2147483646) 0), answer 5 2)
    ∷ (inserting K 7 1 (holding 2 (negsuc 2147483645) 0), answer 0 0)
    ∷ (inserting K 7 1 (holding 7 (pos 2147483647) 0), answer 5 7)
    ∷ (inserting K 7 1 (holding 7 (pos 0) 2147483647), answer 5 7)
    ∷ (inserting K 7 1 (holding 3 (pos 2147483647) 2147483647), answer 0 0)
    ∷ (inserting K 7 1 (holding 7 (pos 2147483646) 0), answer 6 7)
    ∷ (returned (move_answer K true 7 1 (holding 7 (negsuc 2147483645) 0)), answer 6 7)
    -- two sketches: every bucket is looked at, in either
    ∷ (adding K K fresh fresh, answer 0 0)
    ∷ (adding K K (holding 3 (pos 2147483646) 0) (holding 3 (pos 1) 0), answer 6 3)
    ∷ (subtracting K K (holding 3 (negsuc 2147483645) 0) (holding 3 (pos 1) 0), answer 6 3)
    ∷ (subtracting K K (holding 3 (pos 2147483646) 0) (holding 3 (pos 1) 0), answer 0 0)
    ∷ (adding K K (holding 9 (pos 2147483647) 0) (holding 4 (pos 0) 2147483647), answer 5 4)
    ∷ (adding K K (holding 9 (pos 2147483647) 0) fresh, answer 5 9)
    ∷ (adding K (params 2 5 (2 ∷ 1073741824 ∷ 0 ∷ 0 ∷ []) K.b) fresh (long 9 10), answer 7 0)
    ∷ (adding K (params 2 0 K.a K.b) fresh (long 9 10), answer 1 0)
    ∷ (adding K K fresh (long 9 10), answer 2 0)
    -- across profiles, and across fifth pairs
    ∷ (adding K (with_fifth 1 0) fresh fresh, answer 7 0)
    ∷ (subtracting (with_fifth 1 0) K fresh fresh, answer 7 0)
    ∷ (adding (with_fifth 1 0) (with_fifth 2 0) fresh fresh, answer 7 0)
    ∷ (adding (with_fifth 1 0) (with_fifth 1 1) fresh (long 9 10), answer 7 0)
    ∷ (subtracting (with_fifth 1 0) (with_fifth 1 0) fresh fresh, answer 0 0)
    ∷ (adding (with_fifth 1 0) (with_fifth 0 1) fresh fresh, answer 1 0)
    ∷ []

pub examples : map (λ row. row.0) table ≡ map (λ row. row.1) table
unfolding below least refuse_at first pair_at twins good_dimensions good_params same_pair same_params lengths_answer dimensions_answer sketched stand position_answer stands_in in_limits is_number zeros damaged_in leaves_in flow_buckets_answer packet_answer entry_answer step_answer move_answer array_answer both_lent_answer either_damaged leaves buckets_answer combine_answer
examples = refl
