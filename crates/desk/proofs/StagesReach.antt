-- Each stage comes to its state record by record.
use mathlib.Core.Path.{◌≡◌, refl, sym}
use mathlib.Core.Bool.{Bool, true, false, cond, true≢false}
use mathlib.Core.List.{List}
use Prim.Native.Nat.{ℕ}
use native.Mathlib.Omega.{arith}
use borrow.Author.Tests.{eq-eqb, lt-leb}
use lib.Dec.{leb}
use lib.ListN.{length, get_or}
use Rattle.params.specs.declared.params.Params.{Params}
use Rattle.params.proofs.Searches.{same_either}
use Rattle.files.specs.Records.{record_at, is_kind, packets_kind}
use Rattle.desk.proofs.Whole.{whole_record}
use Rattle.desk.specs.declared.states.Stage.{Stage}
use Rattle.desk.specs.declared.states.Stage.TheVariants.{UpstreamPackets, DownstreamHead, DownstreamPackets, Nothing, Refused as Stopped}
use Rattle.desk.specs.declared.states.State.{State}
use Rattle.desk.specs.declared.stages.Due.{Due}
use Rattle.desk.specs.declared.stages.Due.TheVariants.{Here, NotYet, Other}
use Rattle.desk.specs.Desk.{packets_due, head_due, due_end, due_head, end_state, head_state, end_stage, head_stage, nothing_stage, rest}
use Rattle.desk.proofs.MoreBytes.{not_yet}
use Rattle.desk.proofs.OneRecord.{Moment, into, one_at, waits_at}
use Rattle.desk.proofs.Reaching.{Reaches, stays, by_one, rest_none}

-- a stage that finds nothing, or is not due, leaves the state
end_waits : (bs : List ℕ) (s : State) → not_yet (due_end bs) ≡ true → end_stage bs s ≡ s
unfolding end_stage
end_waits bs s = at (due_end bs)
  where
    at : (d : Due) → not_yet d ≡ true → cond (packets_due s.stage) (end_state d bs s) s ≡ s
    at NotYet e = same_either (packets_due s.stage) s
    at Here e = absurd (true≢false (sym e))
    at Other e = absurd (true≢false (sym e))

head_waits : (P : Params) (bs : List ℕ) (s : State) → not_yet (due_head bs) ≡ true → head_stage P bs s ≡ s
unfolding head_stage
head_waits P bs s = at (due_head bs)
  where
    at : (d : Due) → not_yet d ≡ true → cond (head_due s.stage) (head_state d P bs s) s ≡ s
    at NotYet e = same_either (head_due s.stage) s
    at Here e = absurd (true≢false (sym e))
    at Other e = absurd (true≢false (sym e))

-- packets stand first: no end does
packets_no_end : (bs : List ℕ) → is_kind packets_kind (record_at bs 0) ≡ true → not_yet (due_end bs) ≡ true
unfolding due_end
packets_no_end bs w =
    let r = whole_record bs 0 packets_kind w in
    rw (lt-leb (length bs) 0 (omega (arith, r.1)), eq-eqb (get_or bs 0 0) packets_kind r.0)

module _ (P : Params) (bs : List ℕ) (k : Moment) where
  unmoved : (t : State) → t ≡ k.state → Reaches P bs k (rest k.state t bs) (into t k)
  unmoved t e = rw (e, rest_none bs k.state) stays

  pub end_reach : Reaches P bs k (rest k.state (end_stage bs k.state) bs) (into (end_stage bs k.state) k)
  unfolding end_stage one_at waits_at
  end_reach = at k.state.stage refl (is_kind packets_kind (record_at bs 0)) refl (not_yet (due_end bs)) refl
    where
      at : (g : Stage) → k.state.stage ≡ g → (x : Bool) → is_kind packets_kind (record_at bs 0) ≡ x → (y : Bool) → not_yet (due_end bs) ≡ y
          → Reaches P bs k (rest k.state (end_stage bs k.state) bs) (into (end_stage bs k.state) k)
      at UpstreamPackets e true w y f = unmoved _ (end_waits bs k.state (packets_no_end bs w))
      at UpstreamPackets e false w true f = unmoved _ (end_waits bs k.state f)
      at UpstreamPackets e false w false f = by_one bs k (into (end_stage bs k.state) k) (rw (e, w) f) (rw (e, w))
      at DownstreamPackets e true w y f = unmoved _ (end_waits bs k.state (packets_no_end bs w))
      at DownstreamPackets e false w true f = unmoved _ (end_waits bs k.state f)
      at DownstreamPackets e false w false f = by_one bs k (into (end_stage bs k.state) k) (rw (e, w) f) (rw (e, w))
      at DownstreamHead e x w y f = unmoved _ (rw e)
      at Nothing e x w y f = unmoved _ (rw e)
      at (Stopped v) e x w y f = unmoved _ (rw e)

  pub head_reach : Reaches P bs k (rest k.state (head_stage P bs k.state) bs) (into (head_stage P bs k.state) k)
  unfolding head_stage one_at waits_at
  head_reach = at k.state.stage refl (not_yet (due_head bs)) refl
    where
      at : (g : Stage) → k.state.stage ≡ g → (y : Bool) → not_yet (due_head bs) ≡ y
          → Reaches P bs k (rest k.state (head_stage P bs k.state) bs) (into (head_stage P bs k.state) k)
      at DownstreamHead e true f = unmoved _ (head_waits P bs k.state f)
      at DownstreamHead e false f = by_one bs k (into (head_stage P bs k.state) k) (rw e f) (rw e)
      at UpstreamPackets e y f = unmoved _ (rw e)
      at DownstreamPackets e y f = unmoved _ (rw e)
      at Nothing e y f = unmoved _ (rw e)
      at (Stopped v) e y f = unmoved _ (rw e)

  pub nothing_reach : Reaches P bs k (rest k.state (nothing_stage bs k.state) bs) (into (nothing_stage bs k.state) k)
  unfolding nothing_stage one_at waits_at
  nothing_reach = at k.state.stage refl (leb (length bs) 0) refl
    where
      at : (g : Stage) → k.state.stage ≡ g → (y : Bool) → leb (length bs) 0 ≡ y
          → Reaches P bs k (rest k.state (nothing_stage bs k.state) bs) (into (nothing_stage bs k.state) k)
      at Nothing e true f = unmoved _ (rw (e, f))
      at Nothing e false f = by_one bs k (into (nothing_stage bs k.state) k) (rw e f) (rw e)
      at UpstreamPackets e y f = unmoved _ (rw e)
      at DownstreamHead e y f = unmoved _ (rw e)
      at DownstreamPackets e y f = unmoved _ (rw e)
      at (Stopped v) e y f = unmoved _ (rw e)
