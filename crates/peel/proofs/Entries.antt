-- Laws of a table in two slices: what a search finds of a flow's entry and of the room for it, and what a credit leaves.
use mathlib.Core.Path.{◌≡◌, refl, sym, ap, ap₂, ◌∙◌}
use mathlib.Core.Logic.{⊎_elim}
use mathlib.Core.Bool.{true, false}
use mathlib.Core.List.{List, [], ◌∷◌, ◌++◌}
use Prim.Native.Nat.{ℕ, zero, suc, ◌+◌, ◌<◌, ◌≤◌}
use native.Mathlib.Nat.{eq-or-lt_of_le}
use native.Mathlib.Omega.{arith}
use lib.IntN.{ℤ, pos, ◌+ℤ◌}
use lib.ListN.{length, get_or, set}
use borrow.Author.Tests.{eq-eqb, ne_eqb, lt-ltb, le-ltb}
use Rattle.params.specs.Lists.{from}
use Rattle.sketch.specs.Sketch.{Entry, by}
use Rattle.sketch.proofs.Tables.{length_from, from_same}
use Rattle.walk.specs.Walk.{any, has, entry_of, credited, has_room}
use Rattle.walk.proofs.Entries.{entry_none, credited_none}
use Rattle.peel.specs.Table.{row, table_of, Finds, Credited}
use Rattle.peel.proofs.Slots.{Holds, holds_written, holds_number, table_more}

module _ (E : ℕ → Entry) (f : ℕ) where
  -- f is in slot r, and in no slot from k on before it
  entry_at : (k n r : ℕ) → k ≤ r → r < k + n → ((j : ℕ) → j < r → (E j).flow ≡ f → ⊥) → (E r).flow ≡ f → entry_of f (from k n E) ≡ (E r).number
  unfolding from entry_of
  entry_at k zero r l u h e = absurd (omega arith)
  entry_at k (suc n) r l u h e =
      ⊎_elim
      (λ (s : k ≡ r). rw (s, eq-eqb (E r).flow f e))
      (λ a. rw (ne_eqb (E k).flow f (h k a)) (entry_at (suc k) n r a (omega arith) h e))
      (eq-or-lt_of_le l)

  has_at : (k n r : ℕ) → k ≤ r → r < k + n → ((j : ℕ) → j < r → (E j).flow ≡ f → ⊥) → (E r).flow ≡ f → has f (from k n E) ≡ true
  unfolding from has any
  has_at k zero r l u h e = absurd (omega arith)
  has_at k (suc n) r l u h e =
      ⊎_elim
      (λ (s : k ≡ r). rw (s, eq-eqb (E r).flow f e))
      (λ a. rw (ne_eqb (E k).flow f (h k a)) (has_at (suc k) n r a (omega arith) h e))
      (eq-or-lt_of_le l)

  -- F is E with c more at r
  credited_at : (F : ℕ → Entry) (c : ℤ) (k n r : ℕ) → k ≤ r → r < k + n → ((j : ℕ) → j < r → (E j).flow ≡ f → ⊥) → (E r).flow ≡ f
      → F r ≡ by (E r).flow ((E r).number +ℤ c) → ((j : ℕ) → (j ≡ r → ⊥) → F j ≡ E j) → from k n F ≡ credited f c (from k n E)
  unfolding from credited
  credited_at F c k zero r l u h e at other = absurd (omega arith)
  credited_at F c k (suc n) r l u h e at other =
      ⊎_elim
      (λ (s : k ≡ r).
      let tail : from (suc r) n F ≡ from (suc r) n E = from_same (suc r) n F E (λ i b d. other i (λ z. omega arith)) in
      rw (s, eq-eqb (E r).flow f e) (ap₂ (λ (x : Entry) (t : List Entry). x ∷ t) at tail))
      (λ a. rw (ne_eqb (E k).flow f (h k a))
      (ap₂ (λ (x : Entry) (t : List Entry). x ∷ t) (other k (λ s. omega arith)) (credited_at F c (suc k) n r a (omega arith) h e at other)))
      (eq-or-lt_of_le l)

  -- f stands nowhere
  Nowhere : ℕ → ℕ → Type 0
  Nowhere k n = (j : ℕ) → k ≤ j → j < k + n → (E j).flow ≡ f → ⊥

  has_nowhere : (k n : ℕ) → Nowhere k n → has f (from k n E) ≡ false
  unfolding from has any Nowhere
  has_nowhere k zero h = refl
  has_nowhere k (suc n) h =
      rw (ne_eqb (E k).flow f (h k (omega arith) (omega arith))) (has_nowhere (suc k) n (λ j l u. h j (omega arith) (omega arith)))

module _ (fs : List ℕ) (ns : List ℤ) (n f r : ℕ) (h : Finds fs n f r) where
  nowhere : n ≤ r → (j : ℕ) → 0 ≤ j → j < 0 + n → get_or fs j 0 ≡ f → ⊥
  nowhere l j a b = h.before j (omega arith)

  -- the entry of f where it has one, and where it has none
  pub table_held : r < n → entry_of f (table_of fs ns n) ≡ get_or ns r (pos 0)
  unfolding table_of
  table_held l = entry_at _ f 0 n r (omega arith) (omega arith) h.before (h.found l)

  pub table_new : n ≤ r → entry_of f (table_of fs ns n) ≡ pos 0
  unfolding table_of Nowhere
  table_new l = entry_none f _ (has_nowhere (row fs ns) f 0 n (nowhere l))

  -- there is room where f has its slot, or a slot is free
  pub table_room : (slots : ℕ) → r < slots → has_room slots f (table_of fs ns n) ≡ true
  unfolding table_of has_room Nowhere
  table_room slots u =
      ⊎_elim
      (λ e. rw (
        has_nowhere (row fs ns) f 0 n (nowhere (omega arith)),
        length_from {A = Entry} 0 n (row fs ns),
      ) (lt-ltb n slots (omega arith)))
      (λ l. rw (has_at (row fs ns) f 0 n r (omega arith) (omega arith) h.before (h.found l)))
      (eq-or-lt_of_le h.within)

  pub table_full : (slots : ℕ) → n ≤ r → slots ≤ r → has_room slots f (table_of fs ns n) ≡ false
  unfolding table_of has_room Nowhere
  table_full slots l u =
      rw (
        has_nowhere (row fs ns) f 0 n (nowhere l),
        length_from {A = Entry} 0 n (row fs ns),
      ) (le-ltb n slots (omega (arith, h.within)))

  -- the credit, to an entry and to a new one
  pub credit_old : (c : ℤ) → r < n → n ≤ length ns → n ≤ length fs → Credited f c fs ns n fs (set ns r (get_or ns r (pos 0) +ℤ c)) n
  unfolding table_of
  credit_old c l u v =
      let x : ℤ = get_or ns r (pos 0) +ℤ c in
      let now : Holds r (by (get_or fs r 0) x) fs ns fs (set ns r x) = holds_number (omega arith) in
      record {
        table = credited_at _ f (row fs (set ns r x)) c 0 n r (omega arith) (omega arith) h.before (h.found l) now.there now.others;
        room = v;
      }

  pub credit_new : (c : ℤ) → n ≤ r → r < length ns → r < length fs → Credited f c fs ns n (set fs r f) (set ns r c) (n + 1)
  unfolding table_of Nowhere
  credit_new c l u v =
      let now : Holds r (by f c) fs ns (set fs r f) (set ns r c) = holds_written v u in
      let e : n ≡ r = omega (arith, h.within) in
      record {
        table =
            ap (λ (k : ℕ). table_of (set fs r f) (set ns r c) (k + 1)) e
            ∙ table_more now
            ∙ ap (λ (k : ℕ). table_of fs ns k ++ (by f c ∷ [])) (sym e)
            ∙ sym (credited_none f c _ (has_nowhere (row fs ns) f 0 n (nowhere l)));
        room = omega (arith, h.within);
      }
