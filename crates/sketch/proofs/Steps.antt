-- Laws of a step: what holds where nothing is refused, and the stages of its answer.
use mathlib.Core.Path.{◌≡◌, refl, ap, ◌∙◌}
use mathlib.Core.Bool.{Bool, true, false, not}
use mathlib.Core.List.{List}
use Prim.Native.Nat.{ℕ, ◌+◌, ◌*◌, ◌≤◌, ◌<◌}
use native.Mathlib.Omega.{arith}
use borrow.Author.Tests.{not-false, eq-eqb}
use lib.IntN.{ℤ, pos, nat_abs}
use lib.ListN.{length, get_or}
use Rattle.params.specs.declared.params.Params.{Params}
use Rattle.params.specs.declared.answers.Refusal.TheVariants.{Param, Flow, Count, Damage, Range}
use Rattle.params.specs.Answers.{Answer, Done}
use Rattle.params.specs.Lists.{below}
use Rattle.params.specs.Params.{prime, is_flow, size, Dimensions, good_params, dimensions_answer}
use Rattle.params.specs.Sketched.{sketched}
use Rattle.params.specs.Positions.{stand, stands_in, sketched_stands, stands, Positioned, WithinArrays}
use Rattle.buckets.specs.Buckets.{in_limits, is_number, damaged, plus_minus}
use Rattle.sketch.specs.Sketch.{Sketch, count_in, idsum_in, damaged_at, leaves_at, small_at, damaged_in, leaves_in, flow_buckets_answer, changed_in}
use Rattle.sketch.specs.Packets.{packet_answer, entry_answer, step_answer, move_answer}
use Rattle.params.proofs.Judging.{first_done, refuse_done, refuse_none, refuse_at_done}
use Rattle.params.proofs.Rules.{dimensions_done}
use Rattle.params.proofs.Searches.{and_rest, below_at}
use Rattle.params.proofs.Indexes.{stand_below}
use Rattle.params.proofs.Standing.{standing_in}
use Rattle.buckets.proofs.Limits.{number_within, whole, small_whole, small_size, small_stays}
use Rattle.sketch.proofs.Standing.{standing_same, none_standing}

-- what an entry that was let in says of its dimensions and its packet
pub record Let (P : Params) (c s f n : ℕ) : Type 0 where
  pub dimensions : Dimensions P
  pub counts : c ≡ P.d * P.m
  pub idsums : s ≡ P.d * P.m
  pub flow : is_flow P f ≡ true
  pub low : 1 ≤ n
  pub high : n < prime

pub entry_done : (P : Params) (c s f n : ℕ) → entry_answer P c s f n ≡ Done → Let P c s f n
unfolding entry_answer packet_answer
entry_done P c s f n e =
    let h = first_done (dimensions_answer P c s) _ e in
    let k = dimensions_done P c s h.0 in
    let l = refuse_done (not (is_flow P f)) Flow 0 _ h.1 in
    let m = number_within n (not-false _ (refuse_done (not (is_number n)) Count 0 _ l.1).0) in
    record {
      dimensions = k.0;
      counts = k.1;
      idsums = k.2;
      flow = not-false _ l.0;
      low = m.0;
      high = m.1;
    }

-- the positions that the code keeps lie within their arrays
pub reached : {P : Params} {x c s : ℕ} {ks : List ℕ} → Dimensions P → c ≡ P.d * P.m → s ≡ P.d * P.m → Positioned P x ks → WithinArrays P.d P.m ks c s
reached {P} {x} h e q p =
    record {
      d_high = h.d_high;
      m_low = h.m_low;
      m_high = h.m_high;
      inside = λ i l. rw (p.at i l) (stand_below P i x h);
      counts_long = e;
      idsums_long = q;
    }

-- the positions that the code keeps are the flow's
pub placed : {P : Params} {x : ℕ} {ks : List ℕ} → Positioned P x ks → stands_in P.d P.m (λ i. get_or ks i 0) ≡ sketched_stands P x
placed {P} {x} {ks} p = standing_same P.d P.m (λ i. get_or ks i 0) (λ i. stand P i x) p.at

-- so is what is judged by them, and what is changed
module _ {P : Params} (f : ℕ) {ks : List ℕ} (p : Positioned P (sketched P f) ks) (minus : Bool) (z : ℤ) (n : ℕ) (e : z ≡ pos n) (S : Sketch) where
  pub placed_answer : (r : Answer) → r ≡ flow_buckets_answer (P.d * P.m) (stands_in P.d P.m (λ i. get_or ks i 0)) minus z S → r ≡ flow_buckets_answer (size P) (stands P f) minus (pos n) S
  placed_answer r h = h ∙ ap (λ (x : ℤ). flow_buckets_answer (size P) (stands_in P.d P.m (λ i. get_or ks i 0)) minus x S) e ∙ ap (λ (on : ℕ → Bool). flow_buckets_answer (size P) on minus (pos n) S) (placed p)

  pub placed_change : (S' : Sketch) (w v : ℕ) → w ≡ v → S' ≡ changed_in (stands_in P.d P.m (λ i. get_or ks i 0)) minus z w S → S' ≡ changed_in (stands P f) minus (pos n) v S
  placed_change S' w v q h =
      h
      ∙ ap (λ (x : ℤ). changed_in (stands_in P.d P.m (λ i. get_or ks i 0)) minus x w S) e
      ∙ ap (λ (on : ℕ → Bool). changed_in on minus (pos n) w S) (placed p)
      ∙ ap (λ (x : ℕ). changed_in (stands P f) minus (pos n) x S) q

-- where no bucket is at fault, each of those that are meant is within its limits, and stays there
pub standing_done : (N : ℕ) (on : ℕ → Bool) (minus : Bool) (n : ℤ) (S : Sketch) → flow_buckets_answer N on minus n S ≡ Done → (k : ℕ) → k < N → on k ≡ true
    → (damaged (count_in S k) (idsum_in S k) ≡ false) × (in_limits (plus_minus minus (count_in S k) n) ≡ true)
unfolding flow_buckets_answer damaged_in leaves_in
standing_done N on minus n S e k l h =
    let d = refuse_at_done N (damaged_in on S) Damage _ e in
    let r = refuse_at_done N (leaves_in on minus n S.counts) Range _ d.1 in
    (and_rest (on k) _ h (d.0 k l), not-false _ (and_rest (on k) _ h (r.0 k l)))

pub has_room : (d m : ℕ) (g : ℕ → ℕ) (minus : Bool) (n : ℤ) (S : Sketch) → flow_buckets_answer (d * m) (stands_in d m g) minus n S ≡ Done
    → (i : ℕ) → i < d → g i < m → i * m + m ≤ d * m
    → (in_limits (plus_minus minus (count_in S (i * m + g i)) n) ≡ true) × (idsum_in S (i * m + g i) < prime)
has_room d m g minus n S e i h l end =
    let b =
    standing_done (d * m) (stands_in d m g) minus n S e (i * m + g i) (omega arith)
    (standing_in d m g i (i * m + g i) h (omega arith) (omega arith) ∙ eq-eqb (i * m + g i) (i * m + g i) refl)
    in
    (b.1, (whole _ _ b.0).1)

-- where each of them is small, and the number is as small, none is at fault
pub small_done : (d m : ℕ) (g : ℕ → ℕ) (minus : Bool) (n : ℤ) (S : Sketch) → nat_abs n ≤ 1000000000 → below d (λ i. small_at S (i * m + g i)) ≡ true
    → flow_buckets_answer (d * m) (stands_in d m g) minus n S ≡ Done
unfolding flow_buckets_answer damaged_in leaves_in
small_done d m g minus n S small e =
    refuse_none (d * m) (damaged_in (stands_in d m g) S) Damage _ (λ k l. none_standing d m g (damaged_at S) (λ i h. small_whole _ _ (below_at d i _ e h)) k)
    ∙ refuse_none (d * m) (leaves_in (stands_in d m g) minus n S.counts) Range Done
    (λ k l. none_standing d m g (leaves_at minus n S.counts) (λ i h. ap not (small_stays minus _ n (small_size _ _ (below_at d i _ e h)) small)) k)

-- what a step that is not refused tells
pub record StepDone (P : Params) (minus : Bool) (f n : ℕ) (S : Sketch) : Type 0 where
  pub entry : entry_answer P (length S.counts) (length S.idsums) f n ≡ Done
  pub let_in : Let P (length S.counts) (length S.idsums) f n
  pub sound : (k : ℕ) → k < size P → stands P f k ≡ true → (in_limits (count_in S k) ≡ true) × (idsum_in S k < prime)
  pub stays : (k : ℕ) → k < size P → stands P f k ≡ true → in_limits (plus_minus minus (count_in S k) (pos n)) ≡ true

pub step_done : (P : Params) (minus : Bool) (f n : ℕ) (S : Sketch) → step_answer P minus f n S ≡ Done → StepDone P minus f n S
unfolding step_answer
step_done P minus f n S e =
    let a = first_done _ _ e in
    let b = standing_done (size P) (stands P f) minus (pos n) S a.1 in
    record {
      entry = a.0;
      let_in = entry_done P _ _ f n a.0;
      sound = λ k l s. whole (count_in S k) (idsum_in S k) (b k l s).0;
      stays = λ k l s. (b k l s).1;
    }

-- what an insertion that was not refused tells, and the same of a withdrawal
pub move_done : (P : Params) (minus : Bool) (f n : ℕ) (S : Sketch) → move_answer P minus f n S ≡ Done → (good_params P ≡ true) × (step_answer P minus f n S ≡ Done)
unfolding move_answer
move_done P minus f n S e = let q = refuse_done (not (good_params P)) Param 0 _ e in (not-false _ q.0, q.1)

pub move_good : (P : Params) (minus : Bool) (f n : ℕ) (S : Sketch) → good_params P ≡ true → move_answer P minus f n S ≡ step_answer P minus f n S
unfolding move_answer
move_good P minus f n S e = rw e
