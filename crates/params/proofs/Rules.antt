-- Laws of the rules that parameters obey, of what follows where nothing was refused, and of the positions that the code keeps.
use mathlib.Core.Path.{◌≡◌, refl, sym, ap₂, ◌∙◌}
use mathlib.Core.List.{List}
use mathlib.Core.Bool.{Bool, true, false, not, cond, ◌&&◌}
use Prim.Native.Nat.{ℕ, ◌+◌, ◌-◌, ◌*◌, ◌≤◌, ◌<◌}
use native.Mathlib.Omega.{arith}
use borrow.Author.Tests.{le-leb, leb-true, lt-ltb, eq-eqb, eqb-true, not-false}
use lib.Dec.{eqb, ltb, leb}
use lib.ListN.{length}
use Rattle.params.specs.declared.params.Params.{Params}
use Rattle.params.specs.declared.answers.Refusal.TheVariants.{Param, Length, Flow}
use Rattle.params.specs.Answers.{refuse_if, Done}
use Rattle.params.specs.Lists.{below, touched}
use Rattle.params.specs.Params.{prime_of, fingerprinted, most_flow, is_flow, size, Dimensions, pair_ok, pair_at, twins, good_dimensions, good_params, lengths_answer, dimensions_answer, lent_answer, resized, plain, no_params}
use Rattle.params.specs.Positions.{stand, position_answer, positions_in, Positioned}
use Rattle.params.proofs.Searches.{and_true}
use Rattle.params.proofs.Changes.{length_touched, get_d_touched, touched_none, up_to}
use Rattle.params.proofs.Judging.{refuse_done}
use Rattle.params.proofs.BucketNumbers.{stretch_within, small}

pub dimensions : (P : Params) → good_dimensions P ≡ true → Dimensions P
unfolding good_dimensions
dimensions P e =
    let h = and_true (leb 2 P.d && leb P.d 4 && leb 1 P.m) _ e in
    let k = and_true (leb 2 P.d && leb P.d 4) _ h.0 in
    let l = and_true (leb 2 P.d) _ k.0 in
    record {
      d_low = leb-true 2 _ l.0;
      d_high = leb-true _ 4 l.1;
      m_low = leb-true 1 _ k.1;
      m_high = leb-true _ 16384 h.1;
    }

pub dimensions_small : {P : Params} → Dimensions P → size P ≤ 65536
dimensions_small {P} h = small P.d P.m h.d_high h.m_high

pub good_has_dimensions : (P : Params) → good_params P ≡ true → good_dimensions P ≡ true
unfolding good_params
good_has_dimensions P e = (and_true (good_dimensions P) _ (and_true _ _ (and_true _ _ e).0).0).0

-- the fifth pair keeps the rule of its place
pub good_fifth : (P : Params) → good_params P ≡ true → pair_ok (prime_of P) (fingerprinted P) P.a5 P.b5 ≡ true
unfolding good_params
good_fifth P e = (and_true (good_dimensions P && _ && _) _ e).1

pub good_dimensions_lem : (P : Params) → good_params P ≡ true → Dimensions P
good_dimensions_lem P e = dimensions P (good_has_dimensions P e)

-- a flow's number is below the prime, and is not 0
below_prime : (b : Bool) (p : ℕ) → 8388606 < p → cond b 8388606 (p - 1) < p
below_prime true p l = l
below_prime false p l = omega arith

pub flow_below : (P : Params) (f : ℕ) → is_flow P f ≡ true → f < prime_of P
flow_below P f e = omega (arith, leb-true f (most_flow P) (and_true (leb 1 f) _ e).1, below_prime (fingerprinted P) (prime_of P) (omega arith))

pub flow_above : (P : Params) (f : ℕ) → is_flow P f ≡ true → 1 ≤ f
flow_above P f e = leb-true 1 f (and_true (leb 1 f) _ e).0

-- and the other way round
pub dimensions_good : {P : Params} → Dimensions P → good_dimensions P ≡ true
unfolding good_dimensions
dimensions_good {P} z = rw (le-leb 2 P.d z.d_low, le-leb P.d 4 z.d_high, le-leb 1 P.m z.m_low, le-leb P.m 16384 z.m_high)

-- array i, counted from 1, is one of those that the parameters give, and lies within the sketch, which is small
pub record Asked (P : Params) (i : ℕ) : Type 0 where
  pub dimensions : Dimensions P
  pub low : 1 ≤ i
  pub high : i ≤ P.d
  pub end : (i - 1) * P.m + P.m ≤ size P
  pub short : size P ≤ 65536

-- where nothing was refused
module _ (P : Params) where
  pub lengths_done : (c s : ℕ) → lengths_answer P c s ≡ Done → (c ≡ size P) × (s ≡ size P)
  unfolding lengths_answer
  lengths_done c s e =
      let h = refuse_done (not (eqb c (size P) && eqb s (size P))) Length 0 Done e in
      let k = and_true (eqb c (size P)) _ (not-false _ h.0) in
      (eqb-true _ _ k.0, eqb-true _ _ k.1)

  rule_done : (b : Bool) (c s : ℕ) → refuse_if (not b) Param 0 (lengths_answer P c s) ≡ Done → (b ≡ true) × (c ≡ size P) × (s ≡ size P)
  rule_done b c s e =
      let h = refuse_done (not b) Param 0 _ e in
      let k = lengths_done c s h.1 in
      (not-false b h.0, k.0, k.1)

  pub dimensions_done : (c s : ℕ) → dimensions_answer P c s ≡ Done → Dimensions P × (c ≡ size P) × (s ≡ size P)
  unfolding dimensions_answer
  dimensions_done c s e = let h = rule_done (good_dimensions P) c s e in (dimensions P h.0, h.1, h.2)

  pub lent_done : (c s : ℕ) → lent_answer P c s ≡ Done → Dimensions P × (c ≡ size P) × (s ≡ size P)
  unfolding lent_answer
  lent_done c s e = let h = rule_done (good_params P) c s e in (good_dimensions_lem P h.0, h.1, h.2)

  pub lent_good : (c s : ℕ) → lent_answer P c s ≡ Done → good_params P ≡ true
  unfolding lent_answer
  lent_good c s e = (rule_done (good_params P) c s e).0

  -- and the other way round
  pub lengths_back : (c s : ℕ) → c ≡ size P → s ≡ size P → lengths_answer P c s ≡ Done
  unfolding lengths_answer
  lengths_back c s e h = rw (eq-eqb c (size P) e, eq-eqb s (size P) h)

  pub lent_back : (c s : ℕ) → good_params P ≡ true → c ≡ size P → s ≡ size P → lent_answer P c s ≡ Done
  unfolding lent_answer
  lent_back c s g e h = rw g (lengths_back c s e h)

  -- other buckets in each array, from 1 to 16384, keep the rules too
  pub resized_good : (n : ℕ) → good_params P ≡ true → 1 ≤ n → n ≤ 16384 → good_params (resized P n) ≡ true
  unfolding good_params
  resized_good n g l h =
      let i = and_true _ _ g in
      let k = and_true _ _ i.0 in
      let j = and_true _ _ k.0 in
      let s = dimensions P j.0 in
      let sized : good_dimensions (resized P n) ≡ true = dimensions_good (record { d_low = s.d_low; d_high = s.d_high; m_low = l; m_high = h }) in
      rw (sized, j.1, k.1, i.1)

  pub asked : (i : ℕ) → not (good_params P && (leb 1 i && leb i P.d)) ≡ false → Asked P i
  asked i e =
      let k = and_true (good_params P) _ (not-false _ e) in
      let l = and_true (leb 1 i) _ k.1 in
      let s = good_dimensions_lem P k.0 in
      let low : 1 ≤ i = leb-true _ _ l.0 in
      let high : i ≤ P.d = leb-true _ _ l.1 in
      record {
        dimensions = s;
        low = low;
        high = high;
        end = stretch_within P.d P.m (i - 1) (omega arith);
        short = dimensions_small s;
      }

  pub asked_done : (i f : ℕ) → position_answer P i f ≡ Done → Asked P i
  unfolding position_answer
  asked_done i f e = asked i (refuse_done (not (good_params P && (leb 1 i && leb i P.d))) Param 0 _ e).0

  pub flow_done : (i f : ℕ) → position_answer P i f ≡ Done → is_flow P f ≡ true
  unfolding position_answer
  flow_done i f e = not-false (is_flow P f) (refuse_done (not (is_flow P f)) Flow 0 Done (refuse_done (not (good_params P && (leb 1 i && leb i P.d))) Param 0 _ e).1).0

module _ (P : Params) (f : ℕ) (ks : List ℕ) where
  -- the positions of what is sketched, f, in a list that is as long as there can be arrays
  pub positions_found : Dimensions P → length ks ≡ 4 → Positioned P f (positions_in P f ks)
  unfolding positions_in
  positions_found z e =
      record {
        at = λ i l. rw (get_d_touched (λ j. good_dimensions P && ltb j P.d) (λ j k. stand P j f) ks i 0 (omega (arith, z.d_high)), dimensions_good z, lt-ltb i P.d l);
      }

  pub positions_long : length (positions_in P f ks) ≡ length ks
  unfolding positions_in
  positions_long = length_touched _ _ ks

  -- nothing is written where the dimensions break a rule, and d positions where they keep it
  pub no_positions : good_dimensions P ≡ false → ks ≡ positions_in P f ks
  unfolding positions_in
  no_positions e = rw e (sym (touched_none (λ j k. stand P j f) ks 0))

  pub all_positions : {ys : List ℕ} (n : ℕ) → good_dimensions P ≡ true → P.d ≡ n → ys ≡ touched (up_to n) (λ j k. stand P j f) ks → ys ≡ positions_in P f ks
  unfolding positions_in
  all_positions n e h q = q ∙ ap₂ (λ (b : Bool) (m : ℕ). touched (λ j. b && ltb j m) (λ j k. stand P j f) ks) (sym e) (sym h)

-- parameters that stand for none break a rule
pub none_bad : good_params no_params ≡ false
unfolding good_params good_dimensions
none_bad = refl

-- without their fifth pair parameters that keep the rules keep them too
pub plain_good : (P : Params) → good_params P ≡ true → good_params (plain P) ≡ true
unfolding good_params good_dimensions pair_at twins
plain_good P g =
    go (good_dimensions P && below 4 (pair_at (prime_of P) P.d P.a P.b) && below 4 (λ i. below i (λ j. not (twins P.d P.a P.b i j)))) (pair_ok (prime_of P) (fingerprinted P) P.a5 P.b5) g
  where
    go : (b c : Bool) → (b && c) ≡ true → (b && true) ≡ true
    go true c e = refl
    go false c e = e
