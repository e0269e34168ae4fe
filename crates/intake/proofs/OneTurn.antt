-- One turn: of what is held, the bytes behind those that were used are held then, in their order; where the input is not refused they are fewer than the longer head has.
use mathlib.Core.Path.{◌≡◌, refl, sym, ap, ◌∙◌}
use mathlib.Core.Bool.{true}
use mathlib.Core.List.{List}
use Prim.Native.Nat.{ℕ, ◌-◌, ◌<◌, min}
use native.Mathlib.Omega.{arith}
use lib.ListN.{length, take, drop}
use lib.Seq.{take_at}
use Rattle.params.specs.declared.params.Params.{Params}
use Rattle.sketch.specs.Sketch.{Sketch}
use Rattle.files.specs.Records.{record_length, extended_head_kind}
use Rattle.desk.specs.declared.states.State.{State}
use Rattle.desk.specs.declared.states.Fed.{Fed}
use Rattle.desk.specs.Desk.{offsets_fit, Feeds}
use Rattle.desk.proofs.Back.{live}
use Rattle.desk.proofs.MoreBytes.{head_most}
use Rattle.desk.proofs.Unfinished.{few_left}
use Rattle.intake.specs.declared.turning.Turned.{Turned}
use Rattle.intake.specs.Intake.{part, Moves, Turns}
use Rattle.intake.proofs.Moved.{take_smaller}

-- what is fed and moved is a turn
pub turn_is : {P : Params} {bs bs' : List ℕ} {held end n : ℕ} {up down up' down' : Sketch} {s : State} {r : Fed} → end ≡ min held (length bs) → Feeds P (take (end - 0) bs) up down s r up' down'
    → Moves r.used held bs n bs' → Turns P bs held up down s record { state = r.state; held = n } up' down' bs'
turn_is {P} {bs} {bs'} {held} {end} {n} {up} {down} {up'} {down'} {s} {r} e fed moves =
    let from-0 : end - 0 ≡ end = omega arith in
    let all : take (end - 0) bs ≡ take held bs = ap (λ (k : ℕ). take k bs) (from-0 ∙ e) ∙ take_smaller held bs in
    let whole : Feeds P (take held bs) up down s r up' down' = rw (← all) fed in
    record {
      fed = record { state = whole.state; used = refl; upstream = whole.upstream; downstream = whole.downstream };
      left = rw (← fed.used) moves;
    }

-- the first bytes are those that were moved
pub moved_first : {from to n : ℕ} {bs bs' : List ℕ} → Moves from to bs n bs' → take n bs' ≡ part from to bs
moved_first {from} {to} {n} {bs} m = ap (take n) m.bytes ∙ take_at (part from to bs) (drop (length (part from to bs)) bs) n (sym m.number)

module _ {P : Params} {bs bs' : List ℕ} {held : ℕ} {up down up' down' : Sketch} {s : State} {r : Turned} (t : Turns P bs held up down s r up' down' bs') where
  -- none of the bytes that are held is lost or comes twice: those that were used, and those that are held then
  pub held_then : take r.held bs' ≡ drop (r.state.at - s.at) (take held bs)
  held_then = moved_first t.left

  -- so there is room for the next read
  pub few_held : offsets_fit (take held bs) s ≡ true → live r.state.stage ≡ true → r.held < record_length extended_head_kind
  few_held near h = rw t.left.number (omega (arith, few_left near t.fed h, head_most (drop (r.state.at - s.at) (take held bs))))
