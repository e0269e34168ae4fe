-- Moments that are come to record by record: where one of them waits is settled by the bytes, and more bytes behind change nothing before it.
use mathlib.Core.Path.{◌≡◌, refl, sym, ap, ◌∙◌}
use mathlib.Core.Bool.{true, false, true≢false}
use mathlib.Core.List.{List, ◌++◌}
use Prim.Native.Nat.{ℕ, ◌+◌, ◌-◌}
use native.Mathlib.Omega.{arith}
use lib.ListN.{drop}
use lib.Seq.{drop-append-le, drop-drop}
use Rattle.params.specs.declared.params.Params.{Params}
use Rattle.desk.specs.declared.states.State.{State}
use Rattle.desk.specs.Desk.{rest}
use Rattle.desk.proofs.Onward.{Onward}
use Rattle.desk.proofs.OneRecord.{Moment, one, waits, one_onward, one_more}

-- from k, with the bytes bs at hand, to l, with cs of them left
pub data Reaches (P : Params) : List ℕ → Moment → List ℕ → Moment → Type 0 where
  stays : {bs : List ℕ} {k : Moment} → Reaches P bs k bs k
  goes : {bs cs : List ℕ} {k l : Moment} → waits bs k.state ≡ false → Reaches P (rest k.state (one P bs k).state bs) (one P bs k) cs l → Reaches P bs k cs l

module _ {P : Params} where
  pub then : {bs cs ds : List ℕ} {k l m : Moment} → Reaches P bs k cs l → Reaches P cs l ds m → Reaches P bs k ds m
  then stays q = q
  then (goes w r) q = goes w (then r q)

  -- one record
  pub by_one : (bs : List ℕ) (k l : Moment) → waits bs k.state ≡ false → one P bs k ≡ l → Reaches P bs k (rest k.state l.state bs) l
  by_one bs k l w e = rw (← e) (goes w stays)

  -- two moments that wait are one
  pub one_end : {bs cs ds : List ℕ} {k l m : Moment} → Reaches P bs k cs l → Reaches P bs k ds m → waits cs l.state ≡ true → waits ds m.state ≡ true → l ≡ m
  one_end stays stays v w = refl
  one_end stays (goes u q) v w = absurd (true≢false (sym v ∙ u))
  one_end (goes t r) stays v w = absurd (true≢false (sym w ∙ t))
  one_end (goes t r) (goes u q) v w = one_end r q v w

  -- more bytes behind
  pub with_more : {bs cs : List ℕ} {k l : Moment} (ys : List ℕ) → Reaches P bs k cs l → Reaches P (bs ++ ys) k (cs ++ ys) l
  with_more ys stays = stays
  with_more ys (goes {bs} {cs} {k} {l} w r) =
      let m = one_more P bs ys k w in
      let left = drop-append-le ((one P bs k).state.at - k.state.at) bs ys (one_onward P bs k).within in
      let next : Reaches P (rest k.state (one P (bs ++ ys) k).state (bs ++ ys)) (one P (bs ++ ys) k) (cs ++ ys) l = rw (m.1, left) (with_more ys r) in
      goes m.0 next

-- what is left after two stretches is what is left after both
pub rest_rest : (bs : List ℕ) (s t u : State) → Onward bs s t → Onward (rest s t bs) t u → rest t u (rest s t bs) ≡ rest s u bs
rest_rest bs s t u h k =
    drop-drop (u.at - t.at) (t.at - s.at) bs ∙ ap (λ (i : ℕ). drop i bs) {x = t.at - s.at + (u.at - t.at)} {y = u.at - s.at} (omega arith)

pub rest_none : (bs : List ℕ) (s : State) → rest s s bs ≡ bs
rest_none bs s = ap (λ (i : ℕ). drop i bs) {x = s.at - s.at} {y = 0} (omega arith)
