-- The balance: what the table lists and the remainder make up the input, in both fields, after every walk by a rule whose test is sound.
use Rattle.std.proofs.Common.{rules}
use mathlib.Core.Path.{◌≡◌, sym, ap, ◌∙◌}
use mathlib.Core.Bool.{Bool, true, false, cond}
use mathlib.Core.List.{List, []}
use Prim.Native.Nat.{ℕ, ◌<◌}
use lib.IntN.{ℤ, pos, neg_ℤ, ◌+ℤ◌, ◌-ℤ◌, ◌*ℤ◌, +ℤ_idr, *ℤ-zero, one}
use lib.ListN.{length, get_or-eq_default}
use Rattle.field.specs.Residue.{residue}
use Rattle.field.proofs.Parts.{int, up_down_add, up_neg, down_neg}
use Rattle.field.proofs.Residues.{residue_below, residue_own, residue_twice, residue_add_same}
use Rattle.sketch.specs.Sketch.{Sketch, count_in, idsum_in, Entry}
use Rattle.sums.proofs.Weighted.{weighted}
use Rattle.walk.specs.Walk.{Rule, State, Outcome, less, taken, walk, close}
use Rattle.walk.proofs.Carried.{carried}
use Rattle.walk.proofs.Lessened.{less_counts, less_idsums, less_count, less_idsum}
use Rattle.walk.proofs.Credits.{weighted_credited, weighted_close}
use Rattle.std.specs.Prelude.{None, Some}

-- a rule with a prime above 0, and a test that finds only flows f with c * f congruent to s, in buckets where they stand, and none where the count is 0
pub record Sound (R : Rule) : Type 0 where
  pub positive : 0 < R.prime
  pub solves : (k : ℕ) (c : ℤ) (s f : ℕ) → s < R.prime → R.test k c s ≡ Some f → residue R.prime (c *ℤ pos f) ≡ s
  pub standing : (k : ℕ) (c : ℤ) (s f : ℕ) → R.test k c s ≡ Some f → R.stands f k ≡ true
  pub empty : (k s : ℕ) → R.test k (pos 0) s ≡ None

-- what one packet of f brings to the count of bucket k, and to its idsum
abbrev pub once : Rule → ℕ → ℕ → ℤ
once R k f = cond (R.stands f k) (pos 1) (pos 0)

abbrev pub own : Rule → ℕ → ℕ → ℤ
own R k f = cond (R.stands f k) (pos f) (pos 0)

-- a remainder and the table t make up the sketch S
pub record Balanced (R : Rule) (S remainder : Sketch) (t : List Entry) : Type 0 where
  pub counts_long : length remainder.counts ≡ length S.counts
  pub idsums_long : length remainder.idsums ≡ length S.idsums
  pub below : (k : ℕ) → idsum_in remainder k < R.prime
  pub counts : (k : ℕ) → k < length S.counts → count_in remainder k +ℤ weighted (once R k) t ≡ count_in S k
  pub idsums : (k : ℕ) → k < length S.idsums → residue R.prime (pos (idsum_in remainder k) +ℤ weighted (own R k) t) ≡ idsum_in S k

-- c less in a bucket, and c more in the table
count_step : (b : Bool) (x w c : ℤ) → cond b (x -ℤ c) x +ℤ (w +ℤ c *ℤ cond b (pos 1) (pos 0)) ≡ x +ℤ w
unfolding one
count_step b x w c = search rules

module _ (p : ℕ) (h : 0 < p) where
  -- s less in a bucket, and a weight z with the residue s more in the table
  winds_over : (x s : ℕ) (w z : ℤ) → s < p → residue p z ≡ s → residue p (pos (residue p (pos x -ℤ pos s)) +ℤ (w +ℤ z)) ≡ residue p (pos x +ℤ w)
  winds_over x s w z l e =
      residue_add_same p h (pos (residue p (pos x -ℤ pos s))) (pos x -ℤ pos s) (w +ℤ z) (residue_twice p h (pos x -ℤ pos s))
      ∙ ap (residue p) (turned (pos x -ℤ pos s) w z)
      ∙ residue_add_same p h z (pos s) (w +ℤ (pos x -ℤ pos s)) (e ∙ sym (residue_own p h s l))
      ∙ ap (residue p) (back (pos x) (pos s) w)
    where
      turned : (a b c : ℤ) → a +ℤ (b +ℤ c) ≡ c +ℤ (b +ℤ a)
      turned a b c = omega (int, up_down_add a (b +ℤ c), up_down_add b c, up_down_add c (b +ℤ a), up_down_add b a)

      back : (a b c : ℤ) → b +ℤ (c +ℤ (a -ℤ b)) ≡ a +ℤ c
      back a b c = omega (int, up_down_add b (c +ℤ (a -ℤ b)), up_down_add c (a -ℤ b), up_down_add a (neg_ℤ b), up_neg b, down_neg b, up_down_add a c)

  idsum_step : (b : Bool) (x s : ℕ) (w c : ℤ) (f : ℕ) → s < p → residue p (c *ℤ pos f) ≡ s
      → residue p (pos (cond b (residue p (pos x -ℤ pos s)) x) +ℤ (w +ℤ c *ℤ cond b (pos f) (pos 0))) ≡ residue p (pos x +ℤ w)
  idsum_step true x s w c f l e = winds_over x s w (c *ℤ pos f) l e
  idsum_step false x s w c f l e = ap (λ (z : ℤ). residue p (pos x +ℤ (w +ℤ z))) (*ℤ-zero c) ∙ ap (λ (z : ℤ). residue p (pos x +ℤ z)) (+ℤ_idr w)

  cond_below : (b : Bool) (x : ℕ) (z : ℤ) → x < p → cond b (residue p z) x < p
  cond_below b x z l = search (rules, residue_below)

module _ (R : Rule) (sound : Sound R) (S : Sketch) where
  abbrev Kept : State → Type 0
  Kept st = Balanced R S st.held st.table

  less_below : (f : ℕ) (c : ℤ) (s : ℕ) (T : Sketch) → ((k : ℕ) → idsum_in T k < R.prime) → (k : ℕ) → Dec (k < length T.idsums) → idsum_in (less R f c s T) k < R.prime
  less_below f c s T h k e = search (rules, cond_below, get_or-eq_default, less_idsum, less_idsums)

  taken_keeps : (st : State) (f : ℕ) (c : ℤ) (s : ℕ) → s < R.prime → residue R.prime (c *ℤ pos f) ≡ s → Kept st → Kept (taken R f c s st)
  unfolding taken
  taken_keeps st f c s l e h = search (rules, count_step, idsum_step, less_below, less_count, less_counts, less_idsum, less_idsums, weighted, weighted_credited)

  -- at the start the table is empty, and all remains
  at_start : ((k : ℕ) → idsum_in S k < R.prime) → Balanced R S S []
  unfolding weighted
  at_start below = search (rules, residue_own)

  pub balanced : (slots allowance : ℕ) → ((k : ℕ) → idsum_in S k < R.prime) → let o : Outcome = walk R slots allowance S in Balanced R S o.remainder o.table
  unfolding walk
  balanced slots allowance below =
      carried R slots Kept (λ o. Balanced R S o.remainder o.table) (λ e n st h x. h) (λ k q st h e i. h)
      (λ k f q st h e t. taken_keeps _ f (count_in st.held k) (idsum_in st.held k) (h.below k) (sound.solves k _ _ f (h.below k) t.pure) h)
      allowance 0 _ (at_start below)

-- the close changes nothing of it
pub balanced_closed : {R : Rule} {S remainder : Sketch} {t : List Entry} → Balanced R S remainder t → Balanced R S remainder (close t)
balanced_closed h = search (rules, weighted_close)
