-- The requeueing, an array at a time, and the first queue, a bucket at a time.
use mathlib.Core.Path.{◌≡◌, refl, sym, ap, ◌∙◌}
use mathlib.Core.Bool.{true, false, cond}
use mathlib.Core.List.{List, [], ◌∷◌, ◌++◌, append_assoc, append-nil}
use Prim.Native.Nat.{ℕ, suc, ◌+◌, ◌-◌, ◌<◌, ◌≤◌}
use native.Mathlib.Numerals.{add-one}
use native.Mathlib.Omega.{arith}
use lib.IntN.{ℤ, pos}
use lib.ListN.{length, get_or, drop}
use lib.Seq.{drop-cons, drop-length}
use Rattle.sketch.specs.Sketch.{Sketch, count_in}
use Rattle.walk.specs.Walk.{join, requeue, first_queue}
use Rattle.buckets.specs.Buckets.{is_zero}
use Rattle.peel.specs.Ring.{occ}
use Rattle.peel.proofs.Occurrences.{bit_other, occ_nil, occ_snoc, join_new}

-- the rest of the requeueing, from q on, gives the goal
pub record Requeueing (at : ℕ → ℕ) (S : Sketch) (d i : ℕ) (q goal : List ℕ) : Type 0 where
  pub list : requeue at S i (d - i) q ≡ goal

module _ {at : ℕ → ℕ} {S : Sketch} {d i : ℕ} {q goal : List ℕ} (v : Requeueing at S d i q goal) where
  requeue_step : i < d → Requeueing at S d (i + 1) (cond (is_zero (count_in S (at i))) q (join (at i) q)) goal
  unfolding requeue
  requeue_step l =
      let e : d - i ≡ suc (d - (i + 1)) = omega arith in
      record { list = sym (ap (λ (n : ℕ). requeue at S i n q) e ∙ rw add-one) ∙ v.list }

  pub requeue_past : i < d → is_zero (count_in S (at i)) ≡ true → Requeueing at S d (i + 1) q goal
  requeue_past l e = rw e at (requeue_step l)

  pub requeue_join : i < d → is_zero (count_in S (at i)) ≡ false → {q' : List ℕ} → q' ≡ join (at i) q → Requeueing at S d (i + 1) q' goal
  requeue_join l e j = rw j (rw e at (requeue_step l))

  pub requeue_all : d ≤ i → q ≡ goal
  unfolding requeue
  requeue_all l =
      let e : d - i ≡ 0 = omega arith in
      rw e at v.list

-- q and the buckets that are still to be queued give the goal, and none of these waits yet
pub record Starting (cs : List ℤ) (i : ℕ) (q goal : List ℕ) : Type 0 where
  pub new : (k : ℕ) → i ≤ k → occ k q ≡ 0
  pub list : q ++ first_queue i (drop i cs) ≡ goal

pub first_none : {cs : List ℤ} {q : List ℕ} → q ≡ [] → Starting cs 0 q (first_queue 0 cs)
first_none e = rw e (record { new = λ k h. occ_nil k; list = refl })

module _ {cs : List ℤ} {i : ℕ} {q goal : List ℕ} (v : Starting cs i q goal) where
  module _ (l : i < length cs) where
    first_step : first_queue i (drop i cs) ≡ cond (is_zero (get_or cs i (pos 0))) (first_queue (i + 1) (drop (i + 1) cs)) (i ∷ first_queue (i + 1) (drop (i + 1) cs))
    unfolding first_queue
    first_step = rw (drop-cons cs i (pos 0) l, add-one i)

    pub first_past : is_zero (get_or cs i (pos 0)) ≡ true → Starting cs (i + 1) q goal
    first_past e = record {
      new = λ k h. v.new k (omega arith);
      list = sym (ap (λ (t : List ℕ). q ++ t) (first_step ∙ rw e)) ∙ v.list;
    }

    pub first_join : is_zero (get_or cs i (pos 0)) ≡ false → {q' : List ℕ} → q' ≡ join i q → Starting cs (i + 1) q' goal
    first_join e j = rw (j, join_new i q (v.new i (omega arith))) (record {
      new = λ k h. occ_snoc k i q ∙ omega (arith, v.new k (omega arith), bit_other i k (λ e. omega arith));
      list =
          append_assoc q (i ∷ []) (first_queue (i + 1) (drop (i + 1) cs))
          ∙ sym (ap (λ (t : List ℕ). q ++ t) (first_step ∙ rw e))
          ∙ v.list;
    })

  pub first_all : length cs ≤ i → i ≤ length cs → q ≡ goal
  unfolding first_queue
  first_all h l =
      let e : i ≡ length cs = omega arith in
      sym (append-nil q) ∙ rw (e, drop-length cs) at v.list
