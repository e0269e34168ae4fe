-- Packets taken as they come: how many go in, the answer for the next, and what they make.
use mathlib.Core.Path.{◌≡◌, refl, sym, ap, ◌∙◌}
use mathlib.Core.Bool.{Bool, true, false, cond, true≢false}
use mathlib.Core.List.{List}
use Prim.Native.Nat.{ℕ, zero, suc, ◌+◌, ◌-◌, ◌*◌, ◌≤◌, ◌<◌}
use native.Mathlib.Nat.{zero-add}
use native.Mathlib.Omega.{arith}
use borrow.Author.Tests.{ltb-true, ltb-false, lt-ltb, le-ltb}
use lib.Dec.{ltb}
use lib.ListN.{length}
use Rattle.params.specs.declared.params.Params.{Params}
use Rattle.params.specs.Lists.{least}
use Rattle.sketch.specs.Sketch.{Sketch}
use Rattle.sketch.specs.Packets.{step_answer}
use Rattle.params.proofs.Searches.{least_here, least_skip, none_found}
use Rattle.params.proofs.Judging.{Refuses}
use Rattle.params.proofs.Lowest.{least_lowest}
use Rattle.files.specs.Records.{record_at, is_kind, packets_kind, packets_length}
use Rattle.files.specs.Turns.{packet_from}
use Rattle.streamfile.specs.Streams.{packets_from}
use Rattle.streamfile.proofs.Found.{There, packet_within, flow_is, number_is}
use Rattle.streamfile.proofs.InTurn.{Gone, gone_within, one_of_them, all_gone}
use Rattle.desk.specs.declared.stages.Run.{Run}
use Rattle.desk.specs.Desk.{refuses, record_answer, taken, taken_answer, after_taken}
use Rattle.params.specs.Answers.{Answer, Done}
use Rattle.std.specs.Prelude.{Err, is_err}

-- a search by what it meets: the first number that passes, or none
least_at : (n k : ℕ) (t : ℕ → Bool) → k < n → ((j : ℕ) → j < k → t j ≡ false) → t k ≡ true → least 0 n t ≡ k
least_at n k t l before here =
    ap (λ (x : ℕ). least 0 x t) (omega arith)
    ∙ least_skip k 0 (suc (n - suc k)) t (λ j a b. before j (omega arith))
    ∙ least_here (0 + k) (n - suc k) t (ap t (zero-add k) ∙ here)
    ∙ zero-add k

least_past_all : (n : ℕ) (t : ℕ → Bool) → ((j : ℕ) → j < n → t j ≡ false) → least 0 n t ≡ n
unfolding least
least_past_all n t none =
    let all : n + 0 ≡ n = omega arith in
    ap (λ (x : ℕ). least 0 x t) (sym all) ∙ least_skip n 0 0 t (λ j a b. none j (omega arith)) ∙ zero-add n

least_within : (n k : ℕ) (t : ℕ → Bool) → least k n t ≤ k + n
unfolding least
least_within zero k t = omega arith
least_within (suc n) k t = at (t k) (least_within n (suc k) t)
  where
    at : (b : Bool) → least (suc k) n t ≤ suc k + n → cond b k (least (suc k) n t) ≤ k + suc n
    at true h = omega arith
    at false h = omega arith

refusal_refuses : (r : Answer) → Refuses r → refuses r ≡ true
refusal_refuses Done h = absurd (true≢false (sym h))
refusal_refuses (Err r) h = refl

pub not_err : (r : Answer) → is_err r ≡ false → r ≡ Done
not_err Done e = refl
not_err (Err r) e = absurd (true≢false e)

not_refused : (r : Answer) → refuses r ≡ false → r ≡ Done
not_refused Done e = refl
not_refused (Err r) e = absurd (true≢false e)

module _ (P : Params) (bs : List ℕ) (S : Sketch) where
  abbrev refused_at : ℕ → Bool
  refused_at k = refuses (record_answer P bs S k)

  -- they are at most the packets at hand, which lie within the bytes
  pub taken_within : taken P bs S ≤ packets_from 0 bs
  unfolding taken
  taken_within = omega (arith, least_within (packets_from 0 bs) 0 refused_at)

  pub taken_bytes : packets_length * taken P bs S ≤ length bs
  taken_bytes = at (packets_from 0 bs) refl
    where
      at : (n : ℕ) → packets_from 0 bs ≡ n → packets_length * taken P bs S ≤ length bs
      at zero e = omega (arith, taken_within)
      at (suc n) e = omega (arith, taken_within, packet_within 0 bs n (omega arith))

  -- each of them was accepted
  pub accepted_before : (j : ℕ) → j < taken P bs S → record_answer P bs S j ≡ Done
  unfolding taken
  accepted_before j l = at (ltb (taken P bs S) (packets_from 0 bs)) refl
    where
      at : (b : Bool) → ltb (taken P bs S) (packets_from 0 bs) ≡ b → record_answer P bs S j ≡ Done
      at true e = not_refused _ ((least_lowest (packets_from 0 bs) refused_at (ltb-true _ _ e)).none_lower j l)
      at false e = not_refused _ (none_found (packets_from 0 bs) refused_at e j (omega (arith, taken_within)))

  -- the next one, if there is one, was not
  pub next_refused : taken P bs S < packets_from 0 bs
      → (taken_answer P bs S ≡ record_answer P bs S (taken P bs S)) × (refuses (record_answer P bs S (taken P bs S)) ≡ true)
  unfolding taken taken_answer
  next_refused l = (rw (lt-ltb (taken P bs S) (packets_from 0 bs) l), (least_lowest (packets_from 0 bs) refused_at l).here)

  -- where nothing is refused, all packets at hand were taken
  pub record AllTaken : Type 0 where
    pub number : taken P bs S ≡ packets_from 0 bs
    pub each : (k : ℕ) → k < packets_from 0 bs → record_answer P bs S k ≡ Done

  pub all_taken : taken_answer P bs S ≡ Done → AllTaken
  unfolding taken taken_answer
  all_taken = at (ltb (taken P bs S) (packets_from 0 bs)) refl
    where
      at : (b : Bool) → ltb (taken P bs S) (packets_from 0 bs) ≡ b → cond b (record_answer P bs S (taken P bs S)) Done ≡ Done → AllTaken
      at true l e = absurd (true≢false (sym (least_lowest (packets_from 0 bs) refused_at (ltb-true _ _ l)).here ∙ ap refuses e))
      at false l e =
          let past : packets_from 0 bs ≤ taken P bs S = ltb-false (taken P bs S) (packets_from 0 bs) l in
          record { number = omega (arith, taken_within); each = λ k m. not_refused _ (none_found (packets_from 0 bs) refused_at l k m) }

  -- and the other way
  pub none_refused : ((k : ℕ) → k < packets_from 0 bs → record_answer P bs S k ≡ Done) → (taken P bs S ≡ packets_from 0 bs) × (taken_answer P bs S ≡ Done)
  unfolding taken taken_answer
  none_refused each =
      let all = least_past_all (packets_from 0 bs) refused_at (λ k l. ap refuses (each k l)) in
      (all, rw (all, le-ltb (packets_from 0 bs) (packets_from 0 bs) (omega arith)))

  abbrev pub ran : Run
  ran = record { taken = taken P bs S; answer = taken_answer P bs S }

  -- n packets went in and made T
  module _ (n : ℕ) (T : Sketch) (g : Gone P 0 bs S n T) where
    accepted_each : (j : ℕ) → j < n → record_answer P bs S j ≡ Done
    unfolding record_answer
    accepted_each j l =
        let one : j < packets_from 0 bs = omega (arith, gone_within P 0 bs S n T g) in
        rw (flow_is 0 bs j one, number_is 0 bs j one, g.accepted j l)

    none_refuse : (j : ℕ) → j < n → refuses (record_answer P bs S j) ≡ false
    none_refuse j l = ap refuses (accepted_each j l)

    made_so : taken P bs S ≡ n → T ≡ after_taken P bs S
    unfolding after_taken
    made_so e = rw e g.made

    -- the next is refused
    module _ (f k : ℕ) (there : There bs (packet_from 0 n) f k) (r : Answer) (e : r ≡ step_answer P false f k T) (h : Refuses r) where
      next_answer : record_answer P bs S n ≡ r
      unfolding record_answer
      next_answer = sym (e ∙ rw (← there.flow, ← there.number, ← g.made))

      next : n < packets_from 0 bs
      next = one_of_them P 0 bs S n T g f k there

      taken_before : taken P bs S ≡ n
      unfolding taken
      taken_before = least_at (packets_from 0 bs) n refused_at next none_refuse (ap refuses next_answer ∙ refusal_refuses r h)

      pub run_refused : (◌≡◌ {A = Run} (record { taken = n; answer = r }) ran) × (T ≡ after_taken P bs S)
      unfolding taken_answer
      run_refused = (rw (taken_before, lt-ltb n (packets_from 0 bs) next, next_answer), made_so taken_before)

    -- no more are at hand
    module _ (none : is_kind packets_kind (record_at bs (packet_from 0 n)) ≡ false) where
      taken_all : taken P bs S ≡ n
      unfolding taken
      taken_all =
          let all = all_gone P 0 bs S n T g none in
          ap (λ (m : ℕ). least 0 m refused_at) (sym all) ∙ least_past_all n _ none_refuse

      pub run_ended : (◌≡◌ {A = Run} (record { taken = n; answer = Done }) ran) × (T ≡ after_taken P bs S)
      unfolding taken_answer
      run_ended =
          let all = all_gone P 0 bs S n T g none in
          (rw (taken_all, le-ltb n (packets_from 0 bs) (omega arith)), made_so taken_all)
