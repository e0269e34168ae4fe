-- What a stream that is read into a fresh sketch leaves: a sketch of the right size, undamaged, in which no count is below 0.
use mathlib.Core.Path.{◌≡◌, refl, sym, ap, subst, ◌∙◌}
use mathlib.Core.Bool.{Bool, true, false}
use mathlib.Core.List.{List}
use Prim.Native.Nat.{ℕ, zero, suc, ◌≤◌, ◌<◌}
use native.Mathlib.Numerals.{add-one}
use native.Mathlib.Decide.{dec_lt}
use native.Mathlib.Omega.{arith}
use lib.IntN.{ℤ, pos, ◌+ℤ◌}
use lib.Signed.{◌≤ℤ◌}
use lib.ListN.{length, get_or, take, replicate, length-replicate, get_or-replicate, get_or-eq_default}
use Rattle.field.proofs.Parts.{int, up_down_add, le_of_parts}
use Rattle.params.specs.declared.params.Params.{Params}
use Rattle.params.specs.Answers.{kept, Done}
use Rattle.params.specs.Params.{size, good_params}
use Rattle.params.specs.Positions.{stands}
use Rattle.params.proofs.Rules.{lengths_done}
use Rattle.sketch.specs.Sketch.{Sketch, count_in, damaged_at, zeros}
use Rattle.sketch.specs.Packets.{step_answer, changed, after, Accepted}
use Rattle.sketch.proofs.TakenBack.{count_changed}
use Rattle.sketch.proofs.ManyPackets.{after_more, after_end_lem}
use Rattle.sketch.proofs.Whole.{count_stays, step_long, step_whole}
use Rattle.streamfile.specs.Streams.{packets_in, flows_in, numbers_in, StreamRead}
use Rattle.streamfile.proofs.Found.{length_flows, length_numbers}
use Rattle.streamfile.proofs.Accepting.{stream_done}
use Rattle.files.specs.Records.{head_length_in}

-- good parameters, and a sketch of their size, undamaged, in which no count is below 0
pub record Grown (P : Params) (S : Sketch) : Type 0 where
  pub good : good_params P ≡ true
  pub counts_long : length S.counts ≡ size P
  pub idsums_long : length S.idsums ≡ size P
  pub undamaged : (k : ℕ) → k < size P → damaged_at S k ≡ false
  pub none_below : (k : ℕ) → pos 0 ≤ℤ count_in S k

-- numbers that are not below 0: 0, and such a number with more added
zero_not_below : (z : ℤ) → z ≡ pos 0 → pos 0 ≤ℤ z
zero_not_below z e = subst (λ (x : ℤ). pos 0 ≤ℤ x) (sym e) (le_of_parts (pos 0) (pos 0) (omega arith))

more_not_below : (z : ℤ) (n : ℕ) → pos 0 ≤ℤ z → pos 0 ≤ℤ (z +ℤ pos n)
more_not_below z n h = omega (int, up_down_add z (pos n))

-- past its end a list of counts reads as 0, so a count may be asked for at any place
past_not_below : (S : Sketch) (k : ℕ) → length S.counts ≤ k → pos 0 ≤ℤ count_in S k
past_not_below S k l = zero_not_below (count_in S k) (get_or-eq_default S.counts (pos 0) {n = k} l)

-- one packet, n times
module _ (P : Params) (f n : ℕ) (S : Sketch) where
  module _ (done : step_answer P false f n S ≡ Done) where
    module _ (g : Grown P S) (k : ℕ) where
      step_not_below : Dec (k < length S.counts) → (b : Bool) → stands P f k ≡ b → pos 0 ≤ℤ count_in (changed P false f n S) k
      step_not_below (yes l) true s =
          subst (λ (x : ℤ). pos 0 ≤ℤ x) (sym (count_changed P false f n S k l s)) (more_not_below (count_in S k) n (g.none_below k))
      step_not_below (yes l) false s = subst (λ (x : ℤ). pos 0 ≤ℤ x) (sym (count_stays P f n S k l s)) (g.none_below k)
      step_not_below (no l) b s = past_not_below (changed P false f n S) k (omega (arith, (step_long P f n S done).counts))

    -- so packets that are accepted keep all of it
    step_grown : Grown P S → Grown P (changed P false f n S)
    step_grown g =
        let w = step_whole P f n S done (record { counts_long = g.counts_long; idsums_long = g.idsums_long; undamaged = g.undamaged }) in
        record {
          good = g.good;
          counts_long = w.counts_long;
          idsums_long = w.idsums_long;
          undamaged = w.undamaged;
          none_below = λ k. step_not_below g k (dec_lt k (length S.counts)) (stands P f k) refl;
        }

-- and so do any number of them in turn
pub after_grown : (P : Params) (fs ns : List ℕ) (S : Sketch) → Grown P S → (i : ℕ) → i ≤ length fs → i ≤ length ns → Accepted P fs ns S i
    → Grown P (after P (take i fs) (take i ns) S)
unfolding after
after_grown P fs ns S g zero h l accepted = g
after_grown P fs ns S g (suc i) h l accepted =
    let T : Sketch = after P (take i fs) (take i ns) S in
    let next : Sketch = changed P false (get_or fs i 0) (get_or ns i 0) T in
    let before : Grown P T = after_grown P fs ns S g i (omega arith) (omega arith) (λ j m. accepted j (omega arith)) in
    subst (λ (U : Sketch). Grown P U)
    (after_more P fs ns S i T next (omega arith) (omega arith) refl refl ∙ ap (λ (j : ℕ). after P (take j fs) (take j ns) S) (add-one i))
    (step_grown P (get_or fs i 0) (get_or ns i 0) T (accepted i (omega arith)) before)

-- every count of a fresh sketch is 0
fresh_count : (P : Params) (k : ℕ) → count_in (zeros P) k ≡ pos 0
unfolding zeros
fresh_count P k = found (dec_lt k (size P))
  where
    found : Dec (k < size P) → get_or (replicate (size P) (pos 0)) k (pos 0) ≡ pos 0
    found (yes l) = get_or-replicate (size P) k (pos 0) (pos 0) l
    found (no l) = get_or-eq_default (replicate (size P) (pos 0)) (pos 0) {n = k} (omega (arith, length-replicate (size P) (pos 0)))

-- A stream that is accepted into a fresh sketch: its parameters and the lengths are right, and its packets only add.
pub fresh_grown : {P : Params} {bs : List ℕ} {S : Sketch} → StreamRead P bs (zeros P) Done S → Grown P S
unfolding kept
fresh_grown {P} {bs} {S} r =
    let done = stream_done P bs (zeros P) (sym r.answer) in
    let long = lengths_done P (length (zeros P).counts) (length (zeros P).idsums) done.opened.lengths in
    let start : Grown P (zeros P) =
    record {
      good = done.opened.good;
      counts_long = long.0;
      idsums_long = long.1;
      undamaged = done.undamaged;
      none_below = λ k. zero_not_below (count_in (zeros P) k) (fresh_count P k);
    }
    in
    subst (λ (U : Sketch). Grown P U)
    (after_end_lem P (flows_in bs) (numbers_in bs) (packets_in bs) (zeros P) (omega (arith, length_flows (head_length_in bs) bs)) (omega (arith, length_numbers (head_length_in bs) bs)) ∙ sym r.after_all)
    (after_grown P (flows_in bs) (numbers_in bs) (zeros P) start (packets_in bs) (omega (arith, length_flows (head_length_in bs) bs)) (omega (arith, length_numbers (head_length_in bs) bs)) done.accepted)
