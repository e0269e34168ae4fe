-- What a desk is lent is judged first: where it is refused nothing is taken, else feeding is taking records. A fresh pair of sketches is never refused.
use mathlib.Core.Path.{◌≡◌, refl, ap, ap₂, ◌∙◌}
use mathlib.Core.Bool.{Bool, true, false, cond}
use mathlib.Core.List.{List, [], ◌∷◌}
use Prim.Native.Nat.{ℕ}
use native.Mathlib.Omega.{arith}
use lib.ListN.{length, take}
use Rattle.params.specs.declared.params.Params.{Params}
use Rattle.params.specs.declared.answers.Refusal.{Refusal}
use Rattle.params.specs.Answers.{kept, Done, Refused}
use Rattle.params.specs.Params.{good_params, lent_answer}
use Rattle.params.proofs.Judging.{first_passed}
use Rattle.params.proofs.Changes.{length_touched}
use Rattle.sketch.specs.Sketch.{Sketch, zeros, changed_in}
use Rattle.sketch.specs.Packets.{changed, after}
use Rattle.sketch.proofs.ManyPackets.{Long}
use Rattle.streamfile.specs.Streams.{flows_from, numbers_from}
use Rattle.desk.specs.declared.states.Stage.{Stage}
use Rattle.desk.specs.declared.states.Stage.TheVariants.{UpstreamPackets, DownstreamHead, DownstreamPackets, Nothing, Refused as Stopped}
use Rattle.desk.specs.declared.states.State.{State}
use Rattle.desk.specs.declared.states.Fed.{Fed}
use Rattle.desk.specs.Desk.{is_due, taken, after_taken, packets_sketch, offsets_fit, lent_both, stage_turned_down, turned_down, TakesRecords, Feeds}
use Rattle.desk.proofs.SameBytes.{fresh_lengths}
use Rattle.desk.proofs.OneRecord.{waits_at}

-- where what is lent is refused, all is left as it was
pub record TurnedDown (s : State) (up down : Sketch) (w : Refusal) (r : Fed) (up' down' : Sketch) : Type 0 where
  pub state : r.state ≡ turned_down w s
  pub used : r.used ≡ 0
  pub upstream : up' ≡ up
  pub downstream : down' ≡ down

module _ {P : Params} {bs : List ℕ} {up down : Sketch} {s : State} where
  pub turned_down_lem : {w : Refusal} {k : ℕ} {t : State} → lent_both P up down ≡ Refused w k → t ≡ turned_down w s → Feeds P bs up down s record { state = t; used = 0 } up down
  unfolding kept
  turned_down_lem {w} {k} {t} e h = record { state = rw e h; used = omega (arith, ap (λ u. u.at) h); upstream = rw e; downstream = rw e }

  pub fed_turned_down : {w : Refusal} {k : ℕ} {r : Fed} {up' down' : Sketch} → lent_both P up down ≡ Refused w k → Feeds P bs up down s r up' down' → TurnedDown s up down w r up' down'
  unfolding kept
  fed_turned_down {w} {k} {r} e f =
      let state : r.state ≡ turned_down w s = rw e at f.state in
      record { state = state; used = omega (arith, f.used, ap (λ u. u.at) state); upstream = rw e at f.upstream; downstream = rw e at f.downstream }

  module _ {r : Fed} {up' down' : Sketch} (done : lent_both P up down ≡ Done) where
    pub taken_fed : TakesRecords P bs up down s r up' down' → Feeds P bs up down s r up' down'
    unfolding kept
    taken_fed t = record { state = rw done t.state; used = t.used; upstream = rw done t.upstream; downstream = rw done t.downstream }

    pub fed_taken : Feeds P bs up down s r up' down' → TakesRecords P bs up down s r up' down'
    unfolding kept
    fed_taken f = record { state = rw done at f.state; used = f.used; upstream = rw done at f.upstream; downstream = rw done at f.downstream }

pub fresh_lent : (P : Params) → good_params P ≡ true → lent_both P (zeros P) (zeros P) ≡ Done
unfolding lent_both lent_answer
fresh_lent P good = let right : lent_answer P (length (zeros P).counts) (length (zeros P).idsums) ≡ Done = rw good (fresh_lengths P) in first_passed _ _ right ∙ right

-- a state that was turned down waits for nothing, and is turned down once
pub turned_down_waits : (w : Refusal) (g : Stage) (bs : List ℕ) → waits_at (stage_turned_down w g) bs ≡ true
unfolding waits_at
turned_down_waits w UpstreamPackets bs = refl
turned_down_waits w DownstreamHead bs = refl
turned_down_waits w DownstreamPackets bs = refl
turned_down_waits w Nothing bs = refl
turned_down_waits w (Stopped v) bs = refl

stage_again : (w : Refusal) (g : Stage) → stage_turned_down w (stage_turned_down w g) ≡ stage_turned_down w g
stage_again w UpstreamPackets = refl
stage_again w DownstreamHead = refl
stage_again w DownstreamPackets = refl
stage_again w Nothing = refl
stage_again w (Stopped v) = refl

pub turned_down_again : (w : Refusal) (s : State) → turned_down w (turned_down w s) ≡ turned_down w s
turned_down_again w s = ap (λ g. record { stage = g; at = s.at; records = s.records }) (stage_again w s.stage)

-- packets leave the sketches as long as they were, so what was right to lend stays so
after_long : (P : Params) (fs ns : List ℕ) (S : Sketch) → Long S (after P fs ns S)
unfolding after changed changed_in
after_long P [] ns S = record { counts = refl; idsums = refl }
after_long P (f ∷ fs) [] S = record { counts = refl; idsums = refl }
after_long P (f ∷ fs) (n ∷ ns) S =
    let h = after_long P fs ns (changed P false f n S) in
    record { counts = h.counts ∙ length_touched _ _ _; idsums = h.idsums ∙ length_touched _ _ _ }

packets_long : (downstream : Bool) (P : Params) (bs : List ℕ) (S : Sketch) (s : State) → Long S (packets_sketch downstream P bs S s)
unfolding packets_sketch after_taken
packets_long downstream P bs S s = at (is_due downstream s.stage)
  where
    at : (b : Bool) → Long S (cond b (after P (take (taken P bs S) (flows_from 0 bs)) (take (taken P bs S) (numbers_from 0 bs)) S) S)
    at true = after_long P _ _ S
    at false = record { counts = refl; idsums = refl }

unless_far : (b : Bool) (S T : Sketch) → Long S T → Long S (cond b T S)
unless_far true S T h = h
unless_far false S T h = record { counts = refl; idsums = refl }

lent_long : (P : Params) (up down up' down' : Sketch) → Long up up' → Long down down' → lent_both P up' down' ≡ lent_both P up down
unfolding lent_both
lent_long P up down up' down' h k = rw (h.counts, h.idsums, k.counts, k.idsums)

pub still_lent : {P : Params} {bs : List ℕ} {up down : Sketch} {s : State} {r : Fed} {up' down' : Sketch} → TakesRecords P bs up down s r up' down' → lent_both P up' down' ≡ lent_both P up down
still_lent {P} {bs} {up} {down} {s} t =
    ap₂ (lent_both P) t.upstream t.downstream
    ∙ lent_long P up down _ _ (unless_far (offsets_fit bs s) up _ (packets_long false P bs up s)) (unless_far (offsets_fit bs s) down _ (packets_long true P _ down _))
