-- Laws of packets that go in one after the other, and of taking the first of them out again.
use mathlib.Core.Path.{◌≡◌, refl, sym, ap, ◌∙◌}
use mathlib.Core.Bool.{Bool, true, false}
use mathlib.Core.List.{List, [], ◌∷◌}
use Prim.Native.Nat.{ℕ, zero, suc, ◌+◌, ◌-◌, ◌≤◌, ◌<◌}
use native.Mathlib.Numerals.{add-one}
use native.Mathlib.Omega.{arith}
use borrow.Author.Tests.{eq-eqb}
use lib.ListN.{length, get_or, take, drop, drop_of_length-le}
use lib.Seq.{drop-cons, take_all}
use Rattle.params.specs.declared.params.Params.{Params}
use Rattle.params.specs.Answers.{first, kept, Answer, Done}
use Rattle.params.specs.Params.{lent_answer}
use Rattle.sketch.specs.Sketch.{Sketch, changed_in}
use Rattle.sketch.specs.Packets.{step_answer, changed, Stepped, after, packets_answer, PacketsInserted, all_answer, AllInserted, Accepted}
use Rattle.params.proofs.Changes.{length_touched}
use Rattle.params.proofs.Judging.{Refuses, first_refused, first_passed, kept_new}
use Rattle.sketch.proofs.TakenBack.{step_back}
use Rattle.std.specs.Prelude.{Err}

-- a step keeps the lengths
pub record Long (S S' : Sketch) : Type 0 where
  pub counts : length S'.counts ≡ length S.counts
  pub idsums : length S'.idsums ≡ length S.idsums

kept_long : (r : Answer) (P : Params) (minus : Bool) (f n : ℕ) (S : Sketch) → Long S (kept r S (changed P minus f n S))
unfolding kept changed changed_in
kept_long Done P minus f n S = record { counts = length_touched _ _ _; idsums = length_touched _ _ _ }
kept_long (Err r) P minus f n S = record { counts = refl; idsums = refl }

pub stepped_long : {minus : Bool} {P : Params} {f n : ℕ} {S S' : Sketch} {r : Answer} → Stepped minus P f n S r S' → Long S S'
stepped_long {minus} {P} {f} {n} {S} {S'} {r} s = rw s.after (kept_long r P minus f n S)

-- one packet more
after_next : (P : Params) (fs ns : List ℕ) (i : ℕ) (S : Sketch) → i < length fs → i < length ns
    → after P (take (suc i) fs) (take (suc i) ns) S ≡ changed P false (get_or fs i 0) (get_or ns i 0) (after P (take i fs) (take i ns) S)
unfolding after
after_next P [] ns i S h l = absurd (omega arith)
after_next P (f ∷ fs) [] i S h l = absurd (omega arith)
after_next P (f ∷ fs) (n ∷ ns) zero S h l = none fs ns
  where
    none : (fs ns : List ℕ) → after P (take 0 fs) (take 0 ns) (changed P false f n S) ≡ changed P false f n S
    none fs ns = refl
after_next P (f ∷ fs) (n ∷ ns) (suc i) S h l = after_next P fs ns i (changed P false f n S) (omega arith) (omega arith)

pub after_more : (P : Params) (fs ns : List ℕ) (S : Sketch) (i : ℕ) (T T' : Sketch) → i < length fs → i < length ns → T ≡ after P (take i fs) (take i ns) S
    → T' ≡ changed P false (get_or fs i 0) (get_or ns i 0) T → T' ≡ after P (take (i + 1) fs) (take (i + 1) ns) S
after_more P fs ns S i T T' h l e q =
    q ∙ ap (changed P false (get_or fs i 0) (get_or ns i 0)) e ∙ sym (after_next P fs ns i S h l) ∙ ap (λ (j : ℕ). after P (take j fs) (take j ns) S) (sym (add-one i))

-- the packets from i on, into T, which those before it left
module _ (P : Params) (fs ns : List ℕ) (S : Sketch) (i : ℕ) (T : Sketch) (h : i < length fs) (l : i < length ns) (rest : packets_answer P (drop i fs) (drop i ns) T ≡ packets_answer P fs ns S) where
  abbrev now_next : Sketch
  now_next = changed P false (get_or fs i 0) (get_or ns i 0) T

  opened : packets_answer P fs ns S ≡ first (step_answer P false (get_or fs i 0) (get_or ns i 0) T) (packets_answer P (drop (suc i) fs) (drop (suc i) ns) now_next)
  unfolding packets_answer
  opened = sym rest ∙ rw (drop-cons fs i 0 h, drop-cons ns i 0 l)

  pub packet_refused : (r : Answer) → r ≡ step_answer P false (get_or fs i 0) (get_or ns i 0) T → Refuses r → r ≡ packets_answer P fs ns S
  packet_refused r e q =
      first_refused r (step_answer P false (get_or fs i 0) (get_or ns i 0) T) (packets_answer P (drop (suc i) fs) (drop (suc i) ns) now_next) e q ∙ sym opened

  pub packet_passed : (T' : Sketch) → step_answer P false (get_or fs i 0) (get_or ns i 0) T ≡ Done → T' ≡ now_next → packets_answer P (drop (i + 1) fs) (drop (i + 1) ns) T' ≡ packets_answer P fs ns S
  packet_passed T' e q = rw (add-one i, q) (sym (opened ∙ first_passed _ _ e))

pub packets_end : (P : Params) (fs ns : List ℕ) (i : ℕ) (T : Sketch) → length fs ≤ i → packets_answer P (drop i fs) (drop i ns) T ≡ Done
unfolding packets_answer
packets_end P fs ns i T h = rw (drop_of_length-le fs h)

pub after_end_lem : (P : Params) (fs ns : List ℕ) (i : ℕ) (S : Sketch) → length fs ≤ i → length ns ≤ i → after P (take i fs) (take i ns) S ≡ after P fs ns S
after_end_lem P fs ns i S h l = rw (take_all i fs h, take_all i ns l)

-- the last of i + 1 packets is taken out again
unwind_last : (P : Params) (fs ns : List ℕ) (S : Sketch) (i : ℕ) (r : Answer) (T T' : Sketch) → i < length fs → i < length ns → Accepted P fs ns S (suc i)
    → T ≡ after P (take (suc i) fs) (take (suc i) ns) S → Stepped true P (get_or fs i 0) (get_or ns i 0) T r T' → T' ≡ after P (take i fs) (take i ns) S
unwind_last P fs ns S i r T T' h l a e s =
    let U = after P (take i fs) (take i ns) S in
    let before = e ∙ after_next P fs ns i S h l in
    let b = step_back P (get_or fs i 0) (get_or ns i 0) U (a i (omega arith)) in
    let done : r ≡ Done = s.answer ∙ ap (step_answer P true (get_or fs i 0) (get_or ns i 0)) before ∙ b.0 in
    s.after ∙ sym (kept_new r T (changed P true (get_or fs i 0) (get_or ns i 0) T) done) ∙ ap (changed P true (get_or fs i 0) (get_or ns i 0)) before ∙ b.1

pub unwind : (P : Params) (fs ns : List ℕ) (S : Sketch) (i : ℕ) (r : Answer) (T T' : Sketch) → 0 < i → i ≤ length fs → i ≤ length ns → Accepted P fs ns S i
    → T ≡ after P (take i fs) (take i ns) S → Stepped true P (get_or fs (i - 1) 0) (get_or ns (i - 1) 0) T r T' → T' ≡ after P (take (i - 1) fs) (take (i - 1) ns) S
unwind P fs ns S i r T T' low h l a e s =
    let before : i ≡ suc (i - 1) = omega arith in
    unwind_last P fs ns S (i - 1) r T T' (omega arith) (omega arith) (λ j m. a j (omega arith)) (rw before at e) s

-- many packets at once, after the parameters and the lengths
pub all_in_turn : (P : Params) (fs ns : List ℕ) (S : Sketch) (r : Answer) (S' : Sketch) → lent_answer P (length S.counts) (length S.idsums) ≡ Done → length fs ≡ length ns
    → PacketsInserted P fs ns S r S' → AllInserted P fs ns S r S'
unfolding all_answer
all_in_turn P fs ns S r S' d e p =
    record { answer = p.answer ∙ rw (eq-eqb (length fs) (length ns) e) (sym (first_passed _ _ d)); after_all = p.after_all }
