-- Laws of what a take leaves: by the positions that the code keeps, the sketch that the definition says, and one within its limits.
use mathlib.Core.Path.{◌≡◌, refl, sym, ap, subst, ◌∙◌}
use mathlib.Core.Bool.{Bool, true, false, cond}
use mathlib.Core.List.{List, []}
use Prim.Native.Nat.{ℕ, ◌+◌, ◌*◌, ◌/◌, ◌%◌, ◌<◌}
use native.Mathlib.Nat.{mod-add-div'}
use native.Mathlib.Decide.{dec_lt}
use native.Mathlib.Omega.{arith}
use lib.IntN.{ℤ, pos, ◌-ℤ◌}
use lib.Dec.{eqb, ltb, lit<}
use lib.ListN.{length, get_or, get_or-eq_default}
use borrow.Author.Tests.{ltb-true, eqb-true}
use Rattle.field.specs.Residue.{residue}
use Rattle.field.proofs.Residues.{residue_below}
use Rattle.params.specs.declared.params.Params.{Params}
use Rattle.params.specs.Lists.{touched}
use Rattle.params.specs.Params.{prime}
use Rattle.params.specs.Positions.{bucket_of, stands_in, Positioned}
use Rattle.buckets.specs.Buckets.{in_limits}
use Rattle.sketch.specs.Sketch.{Sketch, Entry, sketch, changed_in}
use Rattle.params.proofs.Searches.{and_true}
use Rattle.params.proofs.Changes.{length_touched, get_d_touched}
use Rattle.sketch.proofs.Steps.{placed}
use Rattle.walk.specs.Walk.{State, less, requeue, taken}
use Rattle.walk.specs.Purity.{rule_of}
use Rattle.walk.proofs.Purity.{index_next}
use Rattle.peel.specs.Slices.{Slices}
use Rattle.peel.specs.Ring.{ring, Requeued}
use Rattle.peel.specs.Chains.{chain_key, Relinked}
use Rattle.peel.specs.Table.{Credited}
use Rattle.peel.specs.Nonzero.{Sane, Applied}
use Rattle.peel.specs.Rep.{fits_at, Takes, Took}
use Rattle.peel.proofs.Rings.{ring_same}
use Rattle.peel.proofs.Chains.{chains_kept}
use Rattle.peel.proofs.Moves.{requeue_same}

-- what holds of each element of a list that is changed where a test holds
touched_each : {A : Type 0} (K : A → Type 0) (z : A) (t : ℕ → Bool) (g : ℕ → A → A) (xs : List A) → K z → ((k : ℕ) (b : Bool) → t k ≡ b → K (cond b (g k (get_or xs k z)) (get_or xs k z))) → (k : ℕ) → K (get_or (touched t g xs) k z)
touched_each K z t g xs o h k = at (dec_lt k (length xs))
  where
    at : Dec (k < length xs) → K (get_or (touched t g xs) k z)
    at (yes l) = rw (get_d_touched t g xs k z l) (h k (t k) refl)
    at (no l) = rw (get_or-eq_default (touched t g xs) z {n = k} (rw (length_touched t g xs) (omega arith))) o

-- the take changes the buckets that the positions ks name, of d arrays with m buckets each
module _ (d m : ℕ) (ks : List ℕ) (c : ℤ) (s : ℕ) (cs : List ℤ) (ss : List ℕ) (sane : Sane (d * m) cs ss) (fits : (i : ℕ) → i < d → fits_at m ks cs c i ≡ true) where
  count_in_lem : (k : ℕ) (b : Bool) → stands_in d m (λ i. get_or ks i 0) k ≡ b → in_limits (cond b (get_or cs k (pos 0) -ℤ c) (get_or cs k (pos 0))) ≡ true
  unfolding stands_in
  count_in_lem k true e =
      let h = and_true (ltb (k / m) d) (eqb (get_or ks (k / m) 0) (k % m)) e in
      let bucket : k / m * m + get_or ks (k / m) 0 ≡ k = omega (arith, mod-add-div' k m, eqb-true (get_or ks (k / m) 0) (k % m) h.1) in
      subst (λ (j : ℕ). in_limits (get_or cs j (pos 0) -ℤ c) ≡ true) bucket (fits (k / m) (ltb-true (k / m) d h.0))
  count_in_lem k false e = sane.counts k

  idsum_in_lem : (k : ℕ) (b : Bool) → cond b (residue prime (pos (get_or ss k 0) -ℤ pos s)) (get_or ss k 0) < prime
  idsum_in_lem k true = residue_below prime (lit< tt) _
  idsum_in_lem k false = sane.idsums k

  pub applied_sane : {cs' : List ℤ} {ss' : List ℕ} {nonzero : ℕ} → Applied d m ks c s cs ss cs' ss' nonzero → Sane (d * m) cs' ss'
  unfolding changed_in in_limits
  applied_sane a =
      rw (ap (λ (S : Sketch). S.counts) a.after, ap (λ (S : Sketch). S.idsums) a.after)
      (record {
        long = length_touched _ _ cs ∙ sane.long;
        long_ids = length_touched _ _ ss ∙ sane.long_ids;
        counts = touched_each (λ x. in_limits x ≡ true) (pos 0) _ _ cs refl count_in_lem;
        idsums = touched_each (λ x. x < prime) 0 _ _ ss (lit< tt) (λ k b e. idsum_in_lem k b);
      })

-- they are the flow's
pub applied_less : {P : Params} {f : ℕ} {ks : List ℕ} {c : ℤ} {s : ℕ} {cs : List ℤ} {ss : List ℕ} {cs' : List ℤ} {ss' : List ℕ} {nonzero : ℕ}
    → Positioned P f ks → Applied P.d P.m ks c s cs ss cs' ss' nonzero → sketch cs' ss' ≡ less (rule_of P) f c s (sketch cs ss)
unfolding less changed_in
applied_less {P} {f} {ks} {c} {s} {cs} {ss} p a = a.after ∙ ap (λ (on : ℕ → Bool). changed_in on true c s (sketch cs ss)) (placed p)

same_state : {S T : Sketch} {q r : List ℕ} {t u : List Entry} → S ≡ T → q ≡ r → t ≡ u
    → ◌≡◌ {A = State} (record { held = S; queue = q; table = t }) (record { held = T; queue = r; table = u })
same_state a b c = λ i. record { held = a i; queue = b i; table = c i }

-- the calls of a take leave what the definition says: q₁ and ms₁ are the queue and the marks once f is credited
module _ {P : Params} {L : Slices} {head waiting nonzero entries : ℕ} {ks : List ℕ} {chain at f : ℕ} {c : ℤ} {s : ℕ} (t : Takes P L head waiting nonzero entries ks chain at f c s) where
  module _ {L' : Slices} {nonzero' entries' waiting' : ℕ} {q₁ ms₁ : List ℕ} (a : Applied P.d P.m ks c s L.counts L.idsums L'.counts L'.idsums nonzero')
      (long : length L'.flows ≡ length L.flows) (long_numbers : length L'.numbers ≡ length L.numbers) (credit : Credited f c L.flows L.numbers entries L'.flows L'.numbers entries')
      (long-queue : length q₁ ≡ length L.queue) (l : Relinked f chain L.flows L.queue L.marks entries L'.flows q₁ ms₁ entries')
      (r : Requeued P.d P.m ks L'.counts q₁ ms₁ head waiting L'.queue L'.marks waiting') where
    pub took : Took P L head waiting entries f c s (record { waiting = waiting'; nonzero = nonzero'; entries = entries' }) L'
    unfolding taken
    took =
        let h = t.holds in
        record {
          holds = record {
            dimensions = h.dimensions;
            sane = applied_sane P.d P.m ks c s L.counts L.idsums h.sane t.fits a;
            slots = omega (arith, h.slots);
            ringed = r.ringed;
            chained =
                chains_kept r.above r.above_marks
                (rw h.ringed.long at (l.chains (chain_key P) (sym t.keyed) (rw h.ringed.long h.chained)));
            counted = a.counted;
            room = omega (arith, credit.room);
          };
          state =
              same_state (applied_less t.positions a)
              (r.list
              ∙ ap (requeue (λ i. i * P.m + get_or ks i 0) (sketch L'.counts []) 0 P.d) (ring_same L.queue q₁ long-queue l.below head waiting)
              ∙ requeue_same _ (λ i. bucket_of P i f) L'.counts [] L'.idsums 0 P.d (λ i u. ap (λ (n : ℕ). i * P.m + n) (t.positions.at i (omega arith)) ∙ sym (index_next P i f)) _
              ∙ ap (λ (S : Sketch). requeue (λ i. bucket_of P i f) S 1 P.d (ring L.queue head waiting)) (applied_less t.positions a))
              credit.table;
        }
