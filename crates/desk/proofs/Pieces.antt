-- The input may come in pieces: feeding one, and then what it left with the next behind it, is feeding both at once.
use mathlib.Core.Path.{◌≡◌, refl, ap, ap₂, ◌∙◌}
use mathlib.Core.Bool.{true, false}
use mathlib.Core.List.{List, ◌++◌}
use Prim.Native.Nat.{ℕ, ◌+◌, ◌≤◌}
use native.Mathlib.Omega.{arith}
use lib.ListN.{length, drop, length-append, length-drop}
use Rattle.params.specs.declared.params.Params.{Params}
use Rattle.params.specs.Answers.{kept, Answer, Done}
use Rattle.sketch.specs.Sketch.{Sketch}
use Rattle.desk.specs.declared.states.State.{State}
use Rattle.desk.specs.declared.states.Fed.{Fed}
use Rattle.desk.specs.Desk.{packets_sketch, rest, offsets_fit, upstream_taken, upstream_ended, downstream_headed, downstream_taken, downstream_ended, fed_state, lent_both, turned_down, TakesRecords, Feeds}
use Rattle.desk.proofs.OffsetsFit.{bounded, offsets_fit_lem}
use Rattle.desk.proofs.Onward.{Onward, packets_onward, end_onward, head_onward, nothing_onward, onward_then}
use Rattle.desk.proofs.OneRecord.{Moment, waits}
use Rattle.desk.proofs.Reaching.{Reaches, then, one_end, with_more, rest_rest}
use Rattle.desk.proofs.StagesReach.{end_reach, head_reach, nothing_reach}
use Rattle.desk.proofs.PacketsReach.{packets_reach}
use Rattle.desk.proofs.AtRest.{fed_waits}
use Rattle.desk.proofs.Lending.{taken_fed, fed_taken, fed_turned_down, turned_down_waits, turned_down_again, still_lent}
use Rattle.std.specs.Prelude.{Err}

abbrev pub moment : State → Sketch → Sketch → Moment
moment s up down = record { state = s; up = up; down = down }

-- feeding comes to its state and its sketches record by record; the states after each stage
module _ (P : Params) (bs : List ℕ) (up down : Sketch) (s : State) where
  abbrev first_packets : State
  first_packets = upstream_taken P bs up down s

  abbrev first_end : State
  first_end = upstream_ended P bs up down s

  abbrev headed : State
  headed = downstream_headed P bs up down s

  abbrev second_packets : State
  second_packets = downstream_taken P bs up down s

  abbrev second_end : State
  second_end = downstream_ended P bs up down s

  abbrev last : State
  last = fed_state P bs up down s

  abbrev up_left : Sketch
  up_left = packets_sketch false P bs up s

  abbrev down_left : Sketch
  down_left = packets_sketch true P (rest s headed bs) down headed

  -- one stage more
  further : (t u : State) (k l : Moment) → Onward bs s t → Onward (rest s t bs) t u → Reaches P bs (moment s up down) (rest s t bs) k
      → Reaches P (rest s t bs) k (rest t u (rest s t bs)) l → Onward bs s u × Reaches P bs (moment s up down) (rest s u bs) l
  further t u k l h m r q = (onward_then bs s t u h m, then r (rw (rest_rest bs s t u h m) at q))

  fed_reach : Onward bs s last × Reaches P bs (moment s up down) (rest s last bs) (moment last up_left down_left)
  fed_reach =
      let after-first-packets = packets_reach P false bs (moment s up down) in
      let after-first-end = further first_packets first_end _ _ (packets_onward false P bs up s) (end_onward (rest s first_packets bs) first_packets) after-first-packets (end_reach P (rest s first_packets bs) (moment first_packets up_left down)) in
      let after-headed = further first_end headed _ _ after-first-end.0 (head_onward P (rest s first_end bs) first_end) after-first-end.1 (head_reach P (rest s first_end bs) (moment first_end up_left down)) in
      let after-second-packets = further headed second_packets _ _ after-headed.0 (packets_onward true P (rest s headed bs) down headed) after-headed.1 (packets_reach P true (rest s headed bs) (moment headed up_left down)) in
      let after-second-end = further second_packets second_end _ _ after-second-packets.0 (end_onward (rest s second_packets bs) second_packets) after-second-packets.1 (end_reach P (rest s second_packets bs) (moment second_packets up_left down_left)) in
      further second_end last _ _ after-second-end.0 (nothing_onward (rest s second_end bs) second_end) after-second-end.1 (nothing_reach P (rest s second_end bs) (moment second_end up_left down_left))

-- what feeding comes to: from s to t, where more bytes are waited for
record Fully (P : Params) (bs : List ℕ) (up down : Sketch) (s t : State) (up' down' : Sketch) : Type 0 where
  onward : Onward bs s t
  come : Reaches P bs (moment s up down) (rest s t bs) (moment t up' down')
  waited : waits (rest s t bs) t ≡ true

all_fed : (P : Params) (bs : List ℕ) (up down : Sketch) (s : State) → Fully P bs up down s (last P bs up down s) (up_left P bs up down s) (down_left P bs up down s)
all_fed P bs up down s = let h = fed_reach P bs up down s in record { onward = h.0; come = h.1; waited = fed_waits P bs up down s }

fully : {P : Params} {bs : List ℕ} {up down : Sketch} {s : State} {r : Fed} {up' down' : Sketch} → offsets_fit bs s ≡ true → TakesRecords P bs up down s r up' down'
    → Fully P bs up down s r.state up' down'
fully {P} {bs} {up} {down} {s} near fed =
    rw (rw near at fed.state, rw near at fed.upstream, rw near at fed.downstream) (all_fed P bs up down s)

-- no more bytes are used than are at hand
pub used_within : {P : Params} {bs : List ℕ} {up down : Sketch} {s : State} {r : Fed} {up' down' : Sketch} → offsets_fit bs s ≡ true → Feeds P bs up down s r up' down'
    → r.used ≤ length bs
used_within {P} {bs} {up} {down} {s} {r} near fed = at (lent_both P up down) refl
  where
    at : (a : Answer) → lent_both P up down ≡ a → r.used ≤ length bs
    at Done e = let t = fed_taken e fed in omega (arith, (fully near t).onward, t.used)
    at (Err r) e = omega (arith, (fed_turned_down e fed).used)

-- and of those that are left more are waited for, if the input is not refused
pub fed_waiting : {P : Params} {bs : List ℕ} {up down : Sketch} {s : State} {r : Fed} {up' down' : Sketch} → offsets_fit bs s ≡ true → Feeds P bs up down s r up' down'
    → waits (drop r.used bs) r.state ≡ true
fed_waiting {P} {bs} {up} {down} {s} {r} near fed = at (lent_both P up down) refl
  where
    at : (a : Answer) → lent_both P up down ≡ a → waits (drop r.used bs) r.state ≡ true
    at Done e = let t = fed_taken e fed in rw t.used (fully near t).waited
    at (Err r) e = rw (fed_turned_down e fed).state (turned_down_waits r.0 s.stage _)

-- xs are taken, and then what they leave, with ys behind
module _ {P : Params} {xs : List ℕ} {up down : Sketch} {s : State} {r : Fed} {up₁ down₁ : Sketch} (ys : List ℕ) (near : offsets_fit (xs ++ ys) s ≡ true)
    (one : TakesRecords P xs up down s r up₁ down₁) where
  abbrev behind : List ℕ
  behind = drop r.used xs ++ ys

  first_fully : Fully P xs up down s r.state up₁ down₁
  first_fully = let h = bounded (xs ++ ys) s near in fully (offsets_fit_lem xs s (omega (arith, length-append xs ys))) one

  second_near : offsets_fit behind r.state ≡ true
  second_near =
      let h = bounded (xs ++ ys) s near in
      offsets_fit_lem behind r.state
      (omega (arith, first_fully.onward, one.used, length-append xs ys, length-append (drop r.used xs) ys, length-drop r.used xs))

  both_taken : {r₂ : Fed} {up₂ down₂ : Sketch} → TakesRecords P (drop r.used xs ++ ys) up₁ down₁ r.state r₂ up₂ down₂
      → TakesRecords P (xs ++ ys) up down s record { state = r₂.state; used = r.used + r₂.used } up₂ down₂
  both_taken {r₂} {up₂} {down₂} two =
      let h = first_fully in
      let k = fully second_near two in
      let m = all_fed P (xs ++ ys) up down s in
      let left : drop r.used xs ≡ rest s r.state xs = ap (λ (i : ℕ). drop i xs) one.used in
      let come : Reaches P (xs ++ ys) (moment s up down) behind (moment r.state up₁ down₁) = rw left (with_more ys h.come) in
      let same : moment r₂.state up₂ down₂ ≡ moment (last P (xs ++ ys) up down s) (up_left P (xs ++ ys) up down s) (down_left P (xs ++ ys) up down s) = one_end (then come k.come) m.come k.waited m.waited in
      record {
        state = rw near (ap (λ k. k.state) same);
        used = omega (arith, one.used, two.used, h.onward, k.onward);
        upstream = rw near (ap (λ k. k.up) same);
        downstream = rw near (ap (λ k. k.down) same);
      }

-- xs are fed, and then what they leave, with ys behind
module _ {P : Params} {xs : List ℕ} {up down : Sketch} {s : State} {r : Fed} {up₁ down₁ : Sketch} (ys : List ℕ) (near : offsets_fit (xs ++ ys) s ≡ true)
    (one : Feeds P xs up down s r up₁ down₁) where
  -- that is feeding xs ++ ys: the state and the sketches are the same, and so many bytes were used in all
  pub pieces : {r₂ : Fed} {up₂ down₂ : Sketch} → Feeds P (drop r.used xs ++ ys) up₁ down₁ r.state r₂ up₂ down₂
      → Feeds P (xs ++ ys) up down s record { state = r₂.state; used = r.used + r₂.used } up₂ down₂
  unfolding kept
  pieces {r₂} {up₂} {down₂} two = at (lent_both P up down) refl
    where
      at : (a : Answer) → lent_both P up down ≡ a → Feeds P (xs ++ ys) up down s record { state = r₂.state; used = r.used + r₂.used } up₂ down₂
      at Done e =
          let t = fed_taken e one in
          taken_fed e (both_taken ys near t (fed_taken (still_lent t ∙ e) two))
      at (Err r) e =
          let q = fed_turned_down e one in
          let q₂ = fed_turned_down (ap₂ (lent_both P) q.upstream q.downstream ∙ e) two in
          let state : r₂.state ≡ turned_down r.0 s = q₂.state ∙ ap (turned_down r.0) q.state ∙ turned_down_again r.0 s in
          record {
            state = rw e state;
            used = omega (arith, q.used, q₂.used, ap (λ u. u.at) state);
            upstream = rw e (q₂.upstream ∙ q.upstream);
            downstream = rw e (q₂.downstream ∙ q.downstream);
          }
