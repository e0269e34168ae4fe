-- Laws of the chains of table slots: there are none at the start, what the ring's changes keep, a look-up along a chain, and a new slot.
use mathlib.Core.Path.{◌≡◌, refl, sym, ap, ◌∙◌}
use mathlib.Core.List.{List}
use Prim.Native.Nat.{ℕ, ◌+◌, ◌*◌, ◌-◌, ◌/◌, ◌%◌, ◌<◌, ◌≤◌, min}
use native.Mathlib.Decide.{ℕ_discrete, dec_lt}
use native.Mathlib.Nat.{mul-le-mul}
use native.Mathlib.Omega.{arith}
use lib.ListN.{length, get_or, set}
use lib.Seq.{get_or-set_same, get_or-set_other}
use Rattle.params.specs.declared.params.Params.{Params}
use Rattle.params.specs.Params.{Dimensions}
use Rattle.peel.specs.Ring.{SameAbove}
use Rattle.peel.specs.Chains.{chain_by, chain_key, Newest, Chains, Chained, Linked, Relinked}
use Rattle.peel.specs.Table.{Finds, FindsFrom}
use Rattle.peel.proofs.Begins.{size_some}
use Rattle.peel.proofs.Rings.{store_keeps}

-- a flow's key is that of a chain
scaled_below : (x n : ℕ) → x ≤ 65535 → 0 < n → x * n / 65536 < n
scaled_below x n h some = omega (arith, mul-le-mul {n₁ = x} {m₁ = n} {n₂ = 65535} {m₂ = n} h (omega arith))

pub key_below : {P : Params} (f : ℕ) → Dimensions P → chain_key P f < P.d * P.m
unfolding chain_by
key_below f s = scaled_below _ _ (omega arith) (size_some s)

module _ {key : ℕ → ℕ} {size : ℕ} {fs q ms : List ℕ} where
  pub chains_kept : {n : ℕ} {q' ms' : List ℕ} → SameAbove 65536 q q' → SameAbove 2 ms ms' → Chains key size fs q ms n → Chains key size fs q' ms' n
  chains_kept a b v = record { newest = λ k. rw (b k) (v.newest k); links = λ e h. rw (a e) (v.links e h); differ = v.differ }

-- the look-up of f along chain k has come to x, which is 1 + a slot of the chain or 0: no slot from x on holds f
pub record Following (size : ℕ) (fs q ms : List ℕ) (n f k x : ℕ) : Type 0 where
  pub held : Chained size fs q ms n f k
  pub within : x ≤ min n size
  pub keyed : 0 < x → held.key (get_or fs (x - 1) 0) ≡ k
  pub past : (j : ℕ) → x ≤ j → j < min n size → get_or fs j 0 ≡ f → ⊥

pub follow_first : {size : ℕ} {fs q ms : List ℕ} {n f k : ℕ} → Chained size fs q ms n f k → Following size fs q ms n f k (get_or ms k 0 / 2)
follow_first {k = k} h =
    let v = h.chains.newest k in
    record { held = h; within = v.within; keyed = v.keyed; past = λ j a b e. v.past j a b (ap h.key e ∙ h.of_flow) }

module _ {size : ℕ} {fs q ms : List ℕ} {n f k x : ℕ} (v : Following size fs q ms n f k x) where
  module _ (some : 0 < x) where
    link_of : Newest v.held.key fs (v.held.key (get_or fs (x - 1) 0)) (x - 1) (get_or q (x - 1) 0 / 65536)
    link_of = v.held.chains.links (x - 1) (omega (arith, v.within))

    pub follow_next : (get_or fs (x - 1) 0 ≡ f → ⊥) → Following size fs q ms n f k (get_or q (x - 1) 0 / 65536)
    follow_next other = record {
      held = v.held;
      within = omega (arith, link_of.within, v.within);
      keyed = λ p. link_of.keyed p ∙ v.keyed some;
      past = λ j a b e. at j a b e (dec_lt j (x - 1)) (ℕ_discrete j (x - 1));
    }
      where
        at : (j : ℕ) → get_or q (x - 1) 0 / 65536 ≤ j → j < min n size → get_or fs j 0 ≡ f → Dec (j < x - 1) → Dec (j ≡ x - 1) → ⊥
        at j a b e (yes l) d = link_of.past j a l (ap v.held.key e ∙ v.held.of_flow ∙ sym (v.keyed some))
        at j a b e (no l) (yes s) = other (sym (ap (λ (i : ℕ). get_or fs i 0) s) ∙ e)
        at j a b e (no l) (no s) = v.past j (omega arith) b e

-- the newest of chain k, one slot later
module _ (key : ℕ → ℕ) (fs : List ℕ) (k b : ℕ) where
  newest_here : key (get_or fs b 0) ≡ k → Newest key fs k (b + 1) (b + 1)
  newest_here e = record {
    within = omega arith;
    keyed = λ h. let s : b + 1 - 1 ≡ b = omega arith in rw s e;
    past = λ j l u. absurd (omega arith);
  }

  newest_later : (x : ℕ) → (key (get_or fs b 0) ≡ k → ⊥) → Newest key fs k b x → Newest key fs k (b + 1) x
  newest_later x d v = record {
    within = omega (arith, v.within);
    keyed = v.keyed;
    past = λ j l u e. at j l u e (ℕ_discrete j b);
  }
    where
      at : (j : ℕ) → x ≤ j → j < b + 1 → key (get_or fs j 0) ≡ k → Dec (j ≡ b) → ⊥
      at j l u e (yes s) = d (sym (ap (λ (i : ℕ). key (get_or fs i 0)) s) ∙ e)
      at j l u e (no s) = v.past j l (omega arith) e

-- f goes to slot n
module _ (key : ℕ → ℕ) (fs : List ℕ) (n f : ℕ) (room : n < length fs) where
  abbrev more : List ℕ
  more = set fs n f

  old : (j : ℕ) → j < n → get_or more j 0 ≡ get_or fs j 0
  old j h = get_or-set_other fs n j f 0 (λ e. omega arith)

  new : get_or more n 0 ≡ f
  new = get_or-set_same fs n f 0 room

  newest_more : (k b x : ℕ) → b ≤ n → Newest key fs k b x → Newest key more k b x
  newest_more k b x h v = record {
    within = v.within;
    keyed = λ p. ap key (old (x - 1) (omega (arith, v.within))) ∙ v.keyed p;
    past = λ j a c e. v.past j a c (sym (ap key (old j (omega arith))) ∙ e);
  }

  module _ {size : ℕ} {q ms : List ℕ} (v : Chains key size fs q ms n) (none : (j : ℕ) → j < n → get_or fs j 0 ≡ f → ⊥) where
    differ_more : (i j : ℕ) → i < j → j < n + 1 → get_or more i 0 ≡ get_or more j 0 → ⊥
    differ_more i j l u e = at (ℕ_discrete j n)
      where
        at : Dec (j ≡ n) → ⊥
        at (yes s) = none i (omega arith) (sym (old i (omega arith)) ∙ e ∙ ap (λ (t : ℕ). get_or more t 0) s ∙ new)
        at (no s) = v.differ i j l (omega arith) (sym (old i (omega arith)) ∙ e ∙ old j (omega arith))

    link_more : (e : ℕ) → e < n → e < size → Newest key more (key (get_or more e 0)) e (get_or q e 0 / 65536)
    link_more e l u = rw (old e l) (newest_more (key (get_or fs e 0)) e (get_or q e 0 / 65536) (omega arith) (v.links e (omega arith)))

    -- past the last slot that is chained
    pub chains_past : size ≤ n → Chains key size more q ms (n + 1)
    chains_past h = record {
      newest = λ k. let e : min (n + 1) size ≡ min n size = omega arith in rw e (newest_more k (min n size) (get_or ms k 0 / 2) (omega arith) (v.newest k));
      links = λ e l. link_more e (omega arith) (omega arith);
      differ = differ_more;
    }

    -- in front of its chain
    module _ (low : n < size) (k : ℕ) (of_flow : key f ≡ k) (in-queue : n < length q) (in-marks : k < length ms) {q' ms' : List ℕ} (l : Linked n k q ms q' ms') where
      newest_old : (j : ℕ) → Newest key more j n (get_or ms j 0 / 2)
      newest_old j = let e : min n size ≡ n = omega arith in newest_more j n (get_or ms j 0 / 2) (omega arith) (rw e at (v.newest j))

      newest_linked : (j : ℕ) → Dec (j ≡ k) → Newest key more j (n + 1) (get_or ms' j 0 / 2)
      newest_linked j (yes s) =
          let u : get_or ms' k 0 / 2 ≡ n + 1 = omega (arith, ap (λ (t : List ℕ). get_or t k 0) l.marks, get_or-set_same ms k ((n + 1) * 2 + get_or ms k 0 % 2) 0 in-marks) in
          rw (s, u) (newest_here key more k n (ap key new ∙ of_flow))
      newest_linked j (no d) =
          rw (l.marks, get_or-set_other ms k j ((n + 1) * 2 + get_or ms k 0 % 2) 0 d)
          (newest_later key more j n (get_or ms j 0 / 2) (λ e. d (sym e ∙ ap key new ∙ of_flow)) (newest_old j))

      links_linked : (e : ℕ) → e < n + 1 → Dec (e ≡ n) → Newest key more (key (get_or more e 0)) e (get_or q' e 0 / 65536)
      links_linked e h (yes s) =
          let u : get_or q' n 0 / 65536 ≡ get_or ms k 0 / 2 = omega (arith, ap (λ (t : List ℕ). get_or t n 0) l.queue, get_or-set_same q n (get_or ms k 0 / 2 * 65536 + get_or q n 0 % 65536) 0 in-queue) in
          rw (s, u, new, of_flow) (newest_old k)
      links_linked e h (no d) =
          rw (l.queue, get_or-set_other q n e (get_or ms k 0 / 2 * 65536 + get_or q n 0 % 65536) 0 d)
          (link_more e (omega arith) (omega arith))

      pub chains_linked : Chains key size more q' ms' (n + 1)
      chains_linked =
          let m : min (n + 1) size ≡ n + 1 = omega arith in
          record {
            newest = λ j. rw m (newest_linked j (ℕ_discrete j k));
            links = λ e h. links_linked e (omega arith) (ℕ_discrete e n);
            differ = differ_more;
          }

-- what a credit leaves of the chains: with an entry's slot, with a new one past the chained, and with a new one in front of its chain
pub relinked_old : {f k : ℕ} {fs q ms : List ℕ} {n : ℕ} → Relinked f k fs q ms n fs q ms n
relinked_old = record { chains = λ key e v. v; below = λ j. refl; below_marks = λ j. refl }

module _ {fs : List ℕ} {n f r : ℕ} (h : Finds fs n f r) (new : n ≤ r) (room : r < length fs) where
  at_end : r ≡ n
  at_end = omega (arith, h.within)

  none : (j : ℕ) → j < n → get_or fs j 0 ≡ f → ⊥
  none j l = h.before j (omega arith)

  pub relinked_past : {k : ℕ} {q ms : List ℕ} → length q ≤ r → Relinked f k fs q ms n (set fs r f) q ms (n + 1)
  relinked_past l = record {
    chains = λ key e v. rw at_end (chains_past key fs n f (omega (arith, at_end)) v none (omega (arith, at_end)));
    below = λ j. refl;
    below_marks = λ j. refl;
  }

  pub relinked_new : {k : ℕ} {q ms : List ℕ} → r < length q → k < length ms → {q' ms' : List ℕ} → Linked r k q ms q' ms' → Relinked f k fs q ms n (set fs r f) q' ms' (n + 1)
  relinked_new {k} {q} {ms} u w l = record {
    chains = λ key e v. rw at_end (chains_linked key fs n f (omega (arith, at_end)) v none (omega (arith, at_end)) k e (omega (arith, at_end)) w (rw at_end at l));
    below = λ j. rw l.queue (store_keeps (λ x. x % 65536) q r (get_or ms k 0 / 2 * 65536 + get_or q r 0 % 65536) u (omega arith) j);
    below_marks = λ j. rw l.marks (store_keeps (λ x. x % 2) ms k ((r + 1) * 2 + get_or ms k 0 % 2) w (omega arith) j);
  }
