-- A walk by a sound rule that places flows by its arrays is stuck only where no bucket of the remainder passes the test.
use Rattle.std.proofs.Common.{rules}
use mathlib.Core.Path.{◌≡◌, refl, sym, ap, ap₂, subst, ◌∙◌}
use mathlib.Core.Bool.{Bool, true, false, true≢false}
use mathlib.Core.List.{List, ◌∷◌}
use Prim.Native.Nat.{ℕ, ◌<◌, ◌≤◌}
use native.Mathlib.Nat.{zero-add}
use native.Mathlib.Omega.{arith}
use lib.IntN.{ℤ}
use lib.ListN.{length}
use Rattle.sketch.specs.Sketch.{Sketch, count_in, idsum_in}
use Rattle.walk.specs.declared.Ending.TheVariants.{Stuck}
use Rattle.walk.specs.Walk.{Rule, State, Outcome, queued, less, waits, requeue, taken, walk}
use Rattle.buckets.specs.Buckets.{is_zero}
use Rattle.walk.proofs.Carried.{found, taken_at, carried}
use Rattle.walk.proofs.Lessened.{less_counts, less_idsums, less_count, less_idsum}
use Rattle.walk.proofs.Waiting.{none_waits, waits_behind, requeue_keeps, requeue_adds, starts}
use Rattle.walk.proofs.Balance.{Sound}
use Rattle.std.specs.Prelude.{None, Some}

-- a bucket in which a flow stands is the flow's bucket in one of the arrays
pub record ByArrays (R : Rule) : Type 0 where
  pub array : (k f : ℕ) → R.stands f k ≡ true → (i : ℕ) × (1 ≤ i) × (i ≤ R.arrays) × (R.index i f ≡ k)

module _ (R : Rule) (sound : Sound R) (size : ℕ) (by_arrays : ByArrays R) where
  -- a bucket that passes the test waits
  record Waiting (st : State) : Type 0 where
    counts_long : length st.held.counts ≡ size
    idsums_long : length st.held.idsums ≡ size
    pure_waits : (k f : ℕ) → k < size → found R k st.held ≡ Some f → waits k st.queue ≡ true

  never : (k f : ℕ) (S : Sketch) → found R k S ≡ Some f → found R k S ≡ None → ⊥
  never k f S p q = let z : ◌≡◌ {A = ℕ} 0 1 = cc in omega arith

  -- what passes has a count
  passes : (k f : ℕ) (S : Sketch) (b : Bool) → is_zero (count_in S k) ≡ b → found R k S ≡ Some f → b ≡ false
  passes k f S b z p = search rules

  impure_keeps : (k : ℕ) (q : List ℕ) (st : State) → Waiting st → st.queue ≡ k ∷ q → found R k st.held ≡ None → Waiting (queued st q)
  impure_keeps k q st h e x = search (rules, found, never, waits_behind)

  taken_keeps : (k f : ℕ) (q : List ℕ) (st : State) → Waiting st → st.queue ≡ k ∷ q → found R k st.held ≡ Some f → Waiting (taken_at R k f (queued st q))
  unfolding taken
  taken_keeps k f q st h e x =
      record {
        counts_long = less_counts R f c s st.held ∙ h.counts_long;
        idsums_long = less_idsums R f c s st.held ∙ h.idsums_long;
        pure_waits = λ j g l p. go j g l (R.stands f j) refl p;
      }
    where
      c : ℤ
      c = count_in st.held k

      s : ℕ
      s = idsum_in st.held k

      S : Sketch
      S = less R f c s st.held

      at : ℕ → ℕ
      at i = R.index i f

      same : (j : ℕ) → j < size → R.stands f j ≡ false → found R j S ≡ found R j st.held
      same j l w =
          ap₂ (R.test j)
          (less_count R f c s st.held j (omega (arith, h.counts_long)) ∙ rw w)
          (less_idsum R f c s st.held j (omega (arith, h.idsums_long)) ∙ rw w)

      go : (j g : ℕ) → j < size → (b : Bool) → R.stands f j ≡ b → found R j S ≡ Some g → waits j (requeue at S 1 R.arrays q) ≡ true
      -- in one of f's buckets
      go j g l true w p =
          let a = by_arrays.array j f w in
          let nonzero : is_zero (count_in S j) ≡ false = passes j g S _ refl p in
          subst (λ (j : ℕ). waits j (requeue at S 1 R.arrays q) ≡ true) a.3
          (requeue_adds at S 1 R.arrays a.0 q a.1 (omega (arith, a.2)) (rw a.3 nonzero))
      -- in another, which waited before
      go j g l false w p =
          let was : waits j (k ∷ q) ≡ true = subst (λ (q : List ℕ). waits j q ≡ true) e (h.pure_waits j g l (sym (same j l w) ∙ p)) in
          requeue_keeps at S j 1 R.arrays q
          (waits_behind j k q (λ y. true≢false (sym (sound.standing k c s f x) ∙ ap (R.stands f) y ∙ w)) was)

  -- where the walk is stuck, no bucket passes the test
  abbrev pub NonePasses : Outcome → Type 0
  NonePasses o = o.ending ≡ Stuck → (k f : ℕ) → k < size → found R k o.remainder ≡ Some f → ⊥

  pub stuck_only : (slots allowance : ℕ) (S : Sketch) → length S.counts ≡ size → length S.idsums ≡ size → NonePasses (walk R slots allowance S)
  unfolding walk
  stuck_only slots allowance S lc ls =
      carried R slots Waiting NonePasses
      (λ e n st h x s k f l p. none_waits k (subst (λ (q : List ℕ). waits k q ≡ true) (x.stuck s) (h.pure_waits k f l p)))
      impure_keeps
      (λ k f q st h e t. taken_keeps k f q st h e t.pure)
      allowance 0 _
      (record {
        counts_long = lc;
        idsums_long = ls;
        pure_waits = λ k f l p. rw zero-add at (starts 0 k S.counts (omega arith) (passes k f S _ refl p));
      })
