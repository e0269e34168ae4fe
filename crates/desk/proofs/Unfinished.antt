-- What feeding leaves, where the input is not refused, is less than one record: fewer bytes than the head has that its first byte says.
use mathlib.Core.Path.{◌≡◌, refl, sym, ◌∙◌}
use mathlib.Core.Bool.{Bool, true, false, not, ◌&&◌, true≢false}
use mathlib.Core.List.{List}
use Prim.Native.Nat.{ℕ, ◌≤◌, ◌<◌}
use native.Mathlib.Omega.{arith}
use borrow.Author.Tests.{eqb-true, lt-leb, leb-true, leb-false}
use lib.Dec.{eqb, leb}
use lib.ListN.{length, get_or, drop}
use Rattle.params.specs.declared.params.Params.{Params}
use Rattle.sketch.specs.Sketch.{Sketch}
use Rattle.files.specs.Records.{record_length, head_length_in, record_at, is_kind, head_kind, packets_kind, end_kind}
use Rattle.files.proofs.RecordTrips.{record_whole}
use Rattle.desk.specs.declared.states.Stage.{Stage}
use Rattle.desk.specs.declared.states.Stage.TheVariants.{UpstreamPackets, DownstreamHead, DownstreamPackets, Nothing, Refused as Stopped}
use Rattle.desk.specs.declared.states.State.{State}
use Rattle.desk.specs.declared.states.Fed.{Fed}
use Rattle.desk.specs.Desk.{due_end, offsets_fit, Feeds}
use Rattle.desk.proofs.Back.{live}
use Rattle.desk.proofs.MoreBytes.{not_yet, head_least, due_long, head_long}
use Rattle.desk.proofs.OneRecord.{waits_at}
use Rattle.desk.proofs.Pieces.{fed_waiting}

-- among as many bytes as a head has any record is whole, so none is waited for
module _ (bs : List ℕ) (long : head_length_in bs ≤ length bs) where
  packets_or_end : (not (is_kind packets_kind (record_at bs 0)) && not_yet (due_end bs)) ≡ false
  unfolding due_end
  packets_or_end = at (is_kind packets_kind (record_at bs 0)) refl (eqb (get_or bs 0 0) packets_kind) refl
    where
      enough : record_length head_kind ≤ length bs
      enough = omega (arith, long, head_least bs)

      at : (w : Bool) → is_kind packets_kind (record_at bs 0) ≡ w → (e : Bool) → eqb (get_or bs 0 0) packets_kind ≡ e → (not w && not_yet (due_end bs)) ≡ false
      at true w e f = refl
      at false w true f = absurd (true≢false (sym (record_whole bs 0 packets_kind (eqb-true (get_or bs 0 0) 2 f) (omega arith) (omega (arith, enough))) ∙ w))
      at false w false f = rw (lt-leb (length bs) 0 (omega (arith, enough)), f) (due_long end_kind bs (omega arith) (omega (arith, enough)))

  none_waits : (g : Stage) → live g ≡ true → waits_at g bs ≡ false
  unfolding waits_at
  none_waits UpstreamPackets h = packets_or_end
  none_waits DownstreamPackets h = packets_or_end
  none_waits DownstreamHead h = head_long bs long
  none_waits Nothing h = lt-leb (length bs) 0 (omega (arith, long, head_least bs))
  none_waits (Stopped w) h = absurd (true≢false (sym h))

-- so where the input is not refused, less than a head is left
pub few_left : {P : Params} {bs : List ℕ} {up down : Sketch} {s : State} {r : Fed} {up' down' : Sketch} → offsets_fit bs s ≡ true → Feeds P bs up down s r up' down'
    → live r.state.stage ≡ true → length (drop r.used bs) < head_length_in (drop r.used bs)
few_left {bs = bs} {r = r} near fed h = at (leb (head_length_in (drop r.used bs)) (length (drop r.used bs))) refl
  where
    at : (b : Bool) → leb (head_length_in (drop r.used bs)) (length (drop r.used bs)) ≡ b → length (drop r.used bs) < head_length_in (drop r.used bs)
    at true e = absurd (true≢false (sym (fed_waiting near fed) ∙ none_waits (drop r.used bs) (leb-true _ _ e) r.state.stage h))
    at false e = leb-false (head_length_in (drop r.used bs)) _ e
