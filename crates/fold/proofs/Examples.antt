-- Folds computed from the definitions, in one table: what each returns and leaves, and what is refused or only just accepted.
use mathlib.Core.Path.{◌≡◌, refl}
use mathlib.Core.List.{List, [], ◌∷◌, map}
use Prim.Native.Nat.{ℕ}
use lib.IntN.{ℤ, pos, negsuc}
use lib.ListN.{replicate}
use Rattle.field.specs.Residue.{residue}
use Rattle.std.specs.Prelude.{Ok}
use Rattle.params.specs.declared.params.Params.{Params}
use Rattle.params.specs.declared.answers.Refusal.{Refusal}
use Rattle.params.specs.declared.answers.Refusal.TheVariants.{Param, Length, Damage, Range, Fold}
use Rattle.params.specs.Lists.{below, least, from, padded}
use Rattle.params.specs.Answers.{refuse_at, first, kept, Given, Refused}
use Rattle.params.specs.Params.{size, pair_at, twins, good_dimensions, good_params, lengths_answer, lent_answer}
use Rattle.params.specs.Sketched.{sketched}
use Rattle.params.specs.Positions.{stand, stands_in}
use Rattle.buckets.specs.Buckets.{in_limits}
use Rattle.sketch.specs.Sketch.{Sketch, sketch, by, count_at, weight_at, sketch_of, zeros}
use Rattle.fold.specs.Fold.{total, target, gathered, whole_count, whole_idsum, folded, in_slices, leaves_folded, fold_buckets_answer, fold_answer, fold_returns}

-- what a row has: what is returned, and the slices after it
pub record Row : Type 0 where
  pub returned : Given Params
  pub after : Sketch

-- what a fold returns and leaves
abbrev folding : Params → ℕ → Sketch → Row
folding P m2 S =
    let r = fold_returns P m2 S in
    record { returned = r; after = kept r S (in_slices (size P) (folded P m2 S)) }

-- the bench's pairs, with m buckets in each of the two arrays
abbrev arrays : ℕ → Params
arrays m = record { d = 2; m = m; a = 1 ∷ 1073741824 ∷ 0 ∷ 0 ∷ []; b = 0 ∷ 0 ∷ 0 ∷ 0 ∷ []; a5 = 0; b5 = 0 }

-- the same with fingerprints
abbrev with_fifth : ℕ → Params
with_fifth m = record { d = 2; m = m; a = 1 ∷ 1073741824 ∷ 0 ∷ 0 ∷ []; b = 0 ∷ 0 ∷ 0 ∷ 0 ∷ []; a5 = 1234567891; b5 = 5 }

-- a fold to so many buckets, and one that is refused
abbrev done : ℕ → Sketch → Row
done m S = record { returned = Ok (arrays m); after = S }

abbrev refused : Refusal → ℕ → Sketch → Row
refused w k S = record { returned = Refused w k; after = S }

-- four buckets an array, with these counts and idsums of 0
abbrev counts : List ℤ → Sketch
counts cs = sketch cs (replicate 8 0)

-- the sketch of flows 7 and 12 of the bench's first example
abbrev listed : ℕ → Sketch
listed m = sketch_of (arrays m) (by 7 (pos 1) ∷ by 12 (pos 2) ∷ [])

abbrev listed_fifth : ℕ → Sketch
listed_fifth m = sketch_of (with_fifth m) (by 7 (pos 1) ∷ by 12 (pos 2) ∷ [])

-- the greatest count, the least one, and 0
abbrev most : ℤ
most = pos 2147483646

abbrev least_count : ℤ
least_count = negsuc 2147483645

abbrev o : ℤ
o = pos 0

-- each row: what is computed, and what it has to be
abbrev pub table : List (Row × Row)
table =
    -- a list's sketch becomes the list's sketch with the new number of buckets, to each divisor of 6, and in two steps
    (folding (arrays 6) 6 (listed 6), done 6 (listed 6))
    ∷ (folding (arrays 6) 3 (listed 6), done 3 (in_slices 12 (listed 3)))
    ∷ (folding (arrays 6) 2 (listed 6), done 2 (in_slices 12 (listed 2)))
    ∷ (folding (arrays 6) 1 (listed 6), done 1 (in_slices 12 (listed 1)))
    ∷ (folding (arrays 3) 1 (listed 3), done 1 (in_slices 6 (listed 1)))
    -- so with fingerprints
    ∷ (folding (with_fifth 6) 3 (listed_fifth 6), record { returned = Ok (with_fifth 3); after = in_slices 12 (listed_fifth 3) })
    -- bucket by bucket, idsums modulo p, also where they add up to p
    ∷ (folding (arrays 2) 1 (sketch (o ∷ o ∷ o ∷ o ∷ []) (2147483646 ∷ 1 ∷ 0 ∷ 0 ∷ [])), done 1 (sketch (o ∷ o ∷ o ∷ o ∷ []) (0 ∷ 0 ∷ 0 ∷ 0 ∷ [])))
    ∷ (folding (arrays 2) 1 (sketch (pos 1 ∷ pos 2 ∷ negsuc 2 ∷ pos 4 ∷ []) (2147483646 ∷ 2 ∷ 3 ∷ 0 ∷ [])), done 1 (sketch (pos 3 ∷ pos 1 ∷ o ∷ o ∷ []) (1 ∷ 3 ∷ 0 ∷ 0 ∷ [])))
    -- whole sums that only just fit, at the upper and at the lower limit, and 0, though partial sums do not fit
    ∷ (folding (arrays 4) 1 (counts (most ∷ most ∷ negsuc 2147483644 ∷ negsuc 0 ∷ o ∷ o ∷ o ∷ o ∷ [])), done 1 (counts (most ∷ o ∷ o ∷ o ∷ o ∷ o ∷ o ∷ o ∷ [])))
    ∷ (folding (arrays 4) 1 (counts (o ∷ o ∷ o ∷ o ∷ least_count ∷ least_count ∷ pos 2147483645 ∷ pos 1 ∷ [])), done 1 (counts (o ∷ least_count ∷ o ∷ o ∷ o ∷ o ∷ o ∷ o ∷ [])))
    ∷ (folding (arrays 4) 1 (counts (most ∷ most ∷ least_count ∷ least_count ∷ o ∷ o ∷ o ∷ o ∷ [])), done 1 (counts (o ∷ o ∷ o ∷ o ∷ o ∷ o ∷ o ∷ o ∷ [])))
    -- and where nothing is added
    ∷ (folding (arrays 4) 4 (counts (most ∷ o ∷ o ∷ o ∷ o ∷ o ∷ o ∷ least_count ∷ [])), done 4 (counts (most ∷ o ∷ o ∷ o ∷ o ∷ o ∷ o ∷ least_count ∷ [])))
    -- and that only just leave the limits: the index is that of the folded sketch, the lowest
    ∷ (folding (arrays 4) 2 (counts (o ∷ most ∷ o ∷ pos 1 ∷ o ∷ o ∷ o ∷ o ∷ [])), refused Range 1 (counts (o ∷ most ∷ o ∷ pos 1 ∷ o ∷ o ∷ o ∷ o ∷ [])))
    ∷ (folding (arrays 4) 1 (counts (o ∷ o ∷ o ∷ o ∷ o ∷ least_count ∷ negsuc 0 ∷ o ∷ [])), refused Range 1 (counts (o ∷ o ∷ o ∷ o ∷ o ∷ least_count ∷ negsuc 0 ∷ o ∷ [])))
    ∷ (folding (arrays 4) 2 (counts (most ∷ o ∷ most ∷ o ∷ most ∷ most ∷ most ∷ most ∷ [])), refused Range 0 (counts (most ∷ o ∷ most ∷ o ∷ most ∷ most ∷ most ∷ most ∷ [])))
    ∷ (folding (arrays 4) 2 (counts (o ∷ o ∷ o ∷ o ∷ o ∷ most ∷ o ∷ pos 1 ∷ [])), refused Range 3 (counts (o ∷ o ∷ o ∷ o ∷ o ∷ most ∷ o ∷ pos 1 ∷ [])))
    -- damage, by its index in the larger sketch, the lowest there, which comes before any sum and does not cancel out
    ∷ (folding (arrays 4) 2 (counts (o ∷ pos 2147483647 ∷ pos 2147483647 ∷ o ∷ o ∷ o ∷ o ∷ o ∷ [])), refused Damage 1 (counts (o ∷ pos 2147483647 ∷ pos 2147483647 ∷ o ∷ o ∷ o ∷ o ∷ o ∷ [])))
    ∷ (folding (arrays 4) 2 (counts (negsuc 2147483646 ∷ o ∷ pos 1 ∷ o ∷ o ∷ o ∷ o ∷ o ∷ [])), refused Damage 0 (counts (negsuc 2147483646 ∷ o ∷ pos 1 ∷ o ∷ o ∷ o ∷ o ∷ o ∷ [])))
    ∷ (folding (arrays 4) 2 (counts (most ∷ o ∷ most ∷ o ∷ o ∷ o ∷ o ∷ pos 2147483647 ∷ [])), refused Damage 7 (counts (most ∷ o ∷ most ∷ o ∷ o ∷ o ∷ o ∷ pos 2147483647 ∷ [])))
    ∷ (folding (arrays 2) 2 (sketch (o ∷ o ∷ o ∷ o ∷ []) (0 ∷ 0 ∷ 2147483647 ∷ 0 ∷ [])), refused Damage 2 (sketch (o ∷ o ∷ o ∷ o ∷ []) (0 ∷ 0 ∷ 2147483647 ∷ 0 ∷ [])))
    -- m2 that is 0, does not divide m or is above it, which comes before damage and before sums
    ∷ (folding (arrays 4) 3 (counts (most ∷ most ∷ most ∷ most ∷ o ∷ o ∷ o ∷ o ∷ [])), refused Fold 0 (counts (most ∷ most ∷ most ∷ most ∷ o ∷ o ∷ o ∷ o ∷ [])))
    ∷ (folding (arrays 4) 0 (counts (pos 2147483647 ∷ o ∷ o ∷ o ∷ o ∷ o ∷ o ∷ o ∷ [])), refused Fold 0 (counts (pos 2147483647 ∷ o ∷ o ∷ o ∷ o ∷ o ∷ o ∷ o ∷ [])))
    ∷ (folding (arrays 4) 3 (zeros (arrays 4)), refused Fold 0 (zeros (arrays 4)))
    ∷ (folding (arrays 4) 8 (zeros (arrays 4)), refused Fold 0 (zeros (arrays 4)))
    -- lengths before m2, and parameters before lengths
    ∷ (folding (arrays 4) 0 (zeros (arrays 3)), refused Length 0 (zeros (arrays 3)))
    ∷ (folding (arrays 0) 0 (zeros (arrays 3)), refused Param 0 (zeros (arrays 3)))
    ∷ []

pub examples : map (λ row. row.0) table ≡ map (λ row. row.1) table
unfolding below least from refuse_at first kept residue pair_at twins good_dimensions good_params lengths_answer lent_answer sketched stand stands_in in_limits zeros count_at weight_at sketch_of total target gathered whole_count whole_idsum folded in_slices padded leaves_folded fold_buckets_answer fold_answer
examples = refl
