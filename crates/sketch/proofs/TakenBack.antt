-- Packets that went in come out again: taking them out is not refused, and leaves the sketch that was there before.
use mathlib.Core.Path.{◌≡◌, refl, sym, ap, ap₂, ◌∙◌}
use mathlib.Core.Bool.{Bool, true, false, not, ◌&&◌}
use Prim.Native.Nat.{ℕ, ◌<◌}
use native.Mathlib.Omega.{arith}
use lib.IntN.{ℤ, pos, ◌+ℤ◌, ◌-ℤ◌, +ℤ-neg_ℤ_cancel}
use lib.ListN.{length}
use Rattle.field.specs.Residue.{residue}
use Rattle.field.proofs.Residues.{residue_below}
use Rattle.params.specs.declared.params.Params.{Params}
use Rattle.params.specs.Answers.{kept, Answer, Done}
use Rattle.params.specs.Params.{prime, size}
use Rattle.params.specs.Sketched.{sketched}
use Rattle.params.specs.Positions.{stands}
use Rattle.buckets.specs.Buckets.{in_limits, damaged, plus_minus, weight}
use Rattle.sketch.specs.Sketch.{Sketch, sketch, count_in, idsum_in, damaged_in, leaves_in, flow_buckets_answer, changed_in}
use Rattle.sketch.specs.Packets.{step_answer, changed, Inserted, Withdrawn}
use Rattle.params.proofs.Changes.{length_touched, get_d_touched}
use Rattle.params.proofs.Judging.{first_passed, kept_new, refuse_none}
use Rattle.sketch.proofs.Tables.{touched_back}
use Rattle.buckets.proofs.Limits.{whole_back}
use Rattle.sketch.proofs.Steps.{StepDone, step_done, move_done, move_good}
use Rattle.buckets.proofs.Idsums.{prime_pos, idsum_plus_minus_back}

-- it is enough that the idsums of the flow's buckets are below p
pub changed_back : (P : Params) (f n : ℕ) (S : Sketch) → ((k : ℕ) → k < length S.idsums → stands P f k ≡ true → idsum_in S k < prime)
    → changed P true f n (changed P false f n S) ≡ S
unfolding changed changed_in
changed_back P f n S sound =
    ap₂ sketch
    (touched_back (pos 0) (stands P f) (λ k x. x -ℤ pos n) (λ k x. x +ℤ pos n) S.counts (λ k l e. +ℤ-neg_ℤ_cancel (count_in S k) (pos n)))
    (touched_back 0 (stands P f) (λ k x. residue prime (pos x -ℤ pos (weight (sketched P f) n))) (λ k x. residue prime (pos x +ℤ pos (weight (sketched P f) n))) S.idsums
    (λ k l e. idsum_plus_minus_back (idsum_in S k) (weight (sketched P f) n) (sound k l e)))

-- a flow's buckets after a step
pub count_changed : (P : Params) (minus : Bool) (f n : ℕ) (S : Sketch) (k : ℕ) → k < length S.counts → stands P f k ≡ true
    → count_in (changed P minus f n S) k ≡ plus_minus minus (count_in S k) (pos n)
unfolding changed changed_in
count_changed P minus f n S k l s = rw (get_d_touched (stands P f) (λ j x. plus_minus minus x (pos n)) S.counts k (pos 0) l, s)

pub idsum_changed : (P : Params) (minus : Bool) (f n : ℕ) (S : Sketch) (k : ℕ) → k < length S.idsums → stands P f k ≡ true
    → idsum_in (changed P minus f n S) k ≡ residue prime (plus_minus minus (pos (idsum_in S k)) (pos (weight (sketched P f) n)))
unfolding changed changed_in
idsum_changed P minus f n S k l s = rw (get_d_touched (stands P f) (λ j x. residue prime (plus_minus minus (pos x) (pos (weight (sketched P f) n)))) S.idsums k 0 l, s)

-- a step that is not refused is not refused when it is taken back, and leaves what was there
pub step_back : (P : Params) (f n : ℕ) (S : Sketch) → step_answer P false f n S ≡ Done
    → (step_answer P true f n (changed P false f n S) ≡ Done) × (changed P true f n (changed P false f n S) ≡ S)
unfolding step_answer flow_buckets_answer damaged_in leaves_in changed changed_in
step_back P f n S e = (
  first_passed _ _ (simp length_touched m.entry)
      ∙ refuse_none (size P) _ _ _ (λ k l. sound_after k l (stands P f k) refl)
      ∙ refuse_none (size P) _ _ _ (λ k l. stays_after k l (stands P f k) refl),
  changed_back P f n S (λ k l s. (m.sound k (omega (arith, m.let_in)) s).1),
)
  where
    m : StepDone P false f n S
    m = step_done P false f n S e

    count_after : (k : ℕ) → k < size P → stands P f k ≡ true → count_in (changed P false f n S) k ≡ count_in S k +ℤ pos n
    count_after k l s = count_changed P false f n S k (omega (arith, m.let_in)) s

    sound_after : (k : ℕ) → k < size P → (b : Bool) → stands P f k ≡ b
        → (b && damaged (count_in (changed P false f n S) k) (idsum_in (changed P false f n S) k)) ≡ false
    sound_after k l true s =
        whole_back (count_in (changed P false f n S) k) (idsum_in (changed P false f n S) k) (ap in_limits (count_after k l s) ∙ m.stays k l s)
        (rw (idsum_changed P false f n S k (omega (arith, m.let_in)) s) (residue_below prime prime_pos _))
    sound_after k l false s = refl

    stays_after : (k : ℕ) → k < size P → (b : Bool) → stands P f k ≡ b → (b && not (in_limits (count_in (changed P false f n S) k -ℤ pos n))) ≡ false
    stays_after k l true s =
        ap (λ (z : ℤ). not (in_limits (z -ℤ pos n))) (count_after k l s)
        ∙ ap (λ (z : ℤ). not (in_limits z)) (+ℤ-neg_ℤ_cancel (count_in S k) (pos n))
        ∙ ap not (m.sound k l s).0
    stays_after k l false s = refl

-- a withdrawal right after an insertion
pub taken_back : {P : Params} {f n : ℕ} {S S' S'' : Sketch} {r : Answer} → Inserted P f n S Done S' → Withdrawn P f n S' r S'' → (r ≡ Done) × (S'' ≡ S)
unfolding kept
taken_back {P} {f} {n} {S} {S'} {S''} {r} i w =
    let go = move_done P false f n S (sym i.answer) in
    let back = step_back P f n S go.1 in
    let done : r ≡ Done = w.answer ∙ move_good P true f n S' go.0 ∙ ap (step_answer P true f n) i.after ∙ back.0 in
    (done, w.after ∙ sym (kept_new r S' (changed P true f n S') done) ∙ ap (changed P true f n) i.after ∙ back.1)
