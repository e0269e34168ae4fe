-- Laws of the table's entries: what a credit and the close keep of each entry, of their number, and of that no flow has two.
use Rattle.std.proofs.Common.{rules}
use mathlib.Core.Path.{◌≡◌, refl, sym, ap, subst}
use mathlib.Core.Bool.{Bool, true, false, not, cond, ◌&&◌, ◌||◌}
use mathlib.Core.List.{List, [], ◌∷◌, ◌++◌}
use Prim.Native.Nat.{ℕ, zero, suc, ◌<◌, ◌≤◌}
use native.Mathlib.Omega.{arith}
use borrow.Author.Tests.{eqb-false, ne_eqb, ltb-true, not-true}
use lib.Dec.{eqb}
use lib.IntN.{ℤ, pos, ◌+ℤ◌, +ℤ_idl}
use lib.ListN.{length, get_or}
use Rattle.sketch.specs.Sketch.{Entry, by}
use Rattle.params.proofs.Searches.{and_true}
use Rattle.walk.specs.Walk.{all, any, has, entry_of, credited, has_room, close}
use Rattle.buckets.specs.Buckets.{is_zero}
use Rattle.walk.proofs.Alls.{both_true}

-- a test of every entry
module _ (t : Entry → Bool) where
  pub all_credited : (f : ℕ) (c : ℤ) (es : List Entry) → all t es ≡ true → t (by f (entry_of f es +ℤ c)) ≡ true → all t (credited f c es) ≡ true
  unfolding all entry_of credited
  all_credited f c [] a n = both_true _ true (subst (λ (z : ℤ). t (by f z) ≡ true) (+ℤ_idl c) n) refl
  all_credited f c (e ∷ es) a n = search (rules, all_credited f c es (and_true (t e) (all t es) a).1)

  pub all_close : (es : List Entry) → all t es ≡ true → all t (close es) ≡ true
  unfolding all close
  all_close [] a = refl
  all_close (e ∷ es) a = search (rules, all_close es (and_true (t e) (all t es) a).1)

-- the close leaves no entry with count 0
pub close_nonzero : (es : List Entry) → all (λ e. not (is_zero e.number)) (close es) ≡ true
unfolding all close
close_nonzero [] = refl
close_nonzero (e ∷ es) = search (rules, close_nonzero es)

-- how many there are
pub length_credited : (f : ℕ) (c : ℤ) (es : List Entry) → length (credited f c es) ≡ cond (has f es) (length es) (suc (length es))
unfolding credited has any
length_credited f c [] = refl
length_credited f c (e ∷ es) = search (rules, length_credited f c es)

pub credited_fits : (slots f : ℕ) (c : ℤ) (es : List Entry) → length es ≤ slots → has_room slots f es ≡ true → length (credited f c es) ≤ slots
unfolding has_room
credited_fits slots f c es l r = search (rules, length_credited, ltb-true)

pub close_fewer : (es : List Entry) → length (close es) ≤ length es
unfolding close
close_fewer [] = omega arith
close_fewer (e ∷ es) = search (rules, close_fewer es)

pub neither : (s t : Bool) → (s || t) ≡ false → (s ≡ false) × (t ≡ false)
neither s t e = search rules

-- where a flow has no entry, its count is 0, and a credit is appended
module _ (f : ℕ) where
  pub entry_none : (es : List Entry) → has f es ≡ false → entry_of f es ≡ pos 0
  unfolding has any entry_of
  entry_none [] h = refl
  entry_none (e ∷ es) h = let q = neither (eqb e.flow f) (has f es) h in rw q.0 (entry_none es q.1)

  pub credited_none : (c : ℤ) (es : List Entry) → has f es ≡ false → credited f c es ≡ es ++ (by f c ∷ [])
  unfolding has any credited
  credited_none c [] h = refl
  credited_none c (e ∷ es) h = let q = neither (eqb e.flow f) (has f es) h in rw q.0 (ap (λ (t : List Entry). e ∷ t) (credited_none c es q.1))

  -- the entries of two lists together
  pub has_append : (es gs : List Entry) → has f (es ++ gs) ≡ (has f es || has f gs)
  unfolding has any
  has_append [] gs = refl
  has_append (e ∷ es) gs = search (rules, has_append es gs)

-- no flow has two
unfoldable pub once : List Entry → Bool
once [] = true
once (e ∷ es) = not (has e.flow es) && once es

has_credited : (g f : ℕ) (c : ℤ) (es : List Entry) → (f ≡ g → ⊥) → has g (credited f c es) ≡ has g es
unfolding has any credited
has_credited g f c [] d = rw (ne_eqb f g d)
has_credited g f c (e ∷ es) d = search (rules, has_credited g f c es d)

pub once_credited : (f : ℕ) (c : ℤ) (es : List Entry) → once es ≡ true → once (credited f c es) ≡ true
unfolding once credited has any
once_credited f c [] h = refl
once_credited f c (e ∷ es) h = search (rules, once_credited f c es (and_true (not (has e.flow es)) _ h).1, and_true, both_true, eqb-false, has_credited)

has_close : (g : ℕ) (es : List Entry) → has g es ≡ false → has g (close es) ≡ false
unfolding has any close
has_close g [] h = refl
has_close g (e ∷ es) h = search (rules, has_close g es (neither (eqb e.flow g) (has g es) h).1)

pub once_close : (es : List Entry) → once es ≡ true → once (close es) ≡ true
unfolding once close
once_close [] h = refl
once_close (e ∷ es) h = search (rules, once_close es (and_true (not (has e.flow es)) _ h).1, and_true, both_true, has_close, not-true)

-- by place
has_not : (g : ℕ) (es : List Entry) (j : ℕ) (d : Entry) → has g es ≡ false → j < length es → (get_or es j d).flow ≡ g → ⊥
unfolding has any
has_not g [] j d h l e = omega arith
has_not g (x ∷ es) zero d h l e = eqb-false x.flow g (neither (eqb x.flow g) (has g es) h).0 e
has_not g (x ∷ es) (suc j) d h l e = has_not g es j d (neither (eqb x.flow g) (has g es) h).1 (omega arith) e

pub once_at : (es : List Entry) (i j : ℕ) (d : Entry) → once es ≡ true → i < j → j < length es → (get_or es i d).flow ≡ (get_or es j d).flow → ⊥
unfolding once
once_at [] i j d h l u e = omega arith
once_at (x ∷ es) i zero d h l u e = omega arith
once_at (x ∷ es) zero (suc j) d h l u e = has_not x.flow es j d (not-true _ (and_true (not (has x.flow es)) (once es) h).0) (omega arith) (sym e)
once_at (x ∷ es) (suc i) (suc j) d h l u e = once_at es i j d (and_true (not (has x.flow es)) (once es) h).1 (omega arith) (omega arith) e
