-- The input may come in any reads: turn after turn, the last state and sketches are those of the whole input fed at once. No byte is lost, none is taken twice.
use mathlib.Core.Path.{◌≡◌, sym, ap, ◌∙◌}
use mathlib.Core.Bool.{true}
use mathlib.Core.List.{List, [], ◌∷◌, ◌++◌}
use Prim.Native.Nat.{ℕ, ◌-◌}
use lib.ListN.{take, drop}
use lib.Seq.{drop-append-le}
use Rattle.params.specs.declared.params.Params.{Params}
use Rattle.sketch.specs.Sketch.{Sketch}
use Rattle.files.specs.Heads.{head_length_of}
use Rattle.desk.specs.declared.states.State.{State}
use Rattle.desk.specs.Desk.{begin_of, started, offsets_fit, Feeds}
use Rattle.desk.proofs.AnyPieces.{joined, InTurn, all_fed, next_fed, any_pieces}
use Rattle.intake.specs.declared.turning.Turned.{Turned}
use Rattle.intake.specs.Intake.{Moves, Turns}
use Rattle.intake.proofs.OneTurn.{moved_first, held_then}
use Rattle.intake.proofs.HeadSettled.{head_begun, begun_whole}
use Rattle.std.specs.Prelude.{Ok}

-- Reads one after another, of the pieces xs: from a buffer, how many of its bytes are held, a state and two sketches, to the last state and what is then in the sketches.
-- A read leaves the bytes that are held as they are, with its piece behind them, and a turn follows.
pub data Reads (P : Params) : List ℕ → ℕ → List (List ℕ) → State → Sketch → Sketch → State → Sketch → Sketch → Type 0 where
  no_more : {bs : List ℕ} {held : ℕ} {s : State} {up down : Sketch} → Reads P bs held [] s up down s up down
  read_on : {bs bs₁ bs₂ x : List ℕ} {held held₁ : ℕ} {xs : List (List ℕ)} {s t : State} {r : Turned} {up down up₁ down₁ up' down' : Sketch} → take held₁ bs₁ ≡ take held bs ++ x
      → Turns P bs₁ held₁ up down s r up₁ down₁ bs₂ → Reads P bs₂ r.held xs r.state up₁ down₁ t up' down' → Reads P bs held (x ∷ xs) s up down t up' down'

-- then each piece is fed behind what those before it left
reads_feed : {P : Params} {bs ys : List ℕ} {held : ℕ} {xs : List (List ℕ)} {s t : State} {up down up' down' : Sketch} → take held bs ≡ ys
    → Reads P bs held xs s up down t up' down' → InTurn P ys xs s up down t up' down'
reads_feed is no_more = all_fed
reads_feed {P} {bs} {ys} is (read_on {bs₁ = bs₁} {bs₂ = bs₂} {x = x} {held₁ = held₁} {s = s} {r = r} {up = up} {down = down} {up₁ = up₁} {down₁ = down₁} behind turn more) =
    let all : take held₁ bs₁ ≡ ys ++ x = behind ∙ ap (λ (zs : List ℕ). zs ++ x) is in
    let one : Feeds P (ys ++ x) up down s record { state = r.state; used = r.state.at - s.at } up₁ down₁ = rw (← all) turn.fed in
    next_fed one (reads_feed (held_then turn ∙ ap (drop (r.state.at - s.at)) all) more)

module _ {P : Params} {up down up₁ down₁ up' down' : Sketch} {t : State} {r : Turned} {xs : List (List ℕ)} where
  -- a first turn over what is held, and reads behind what it leaves
  pub any_reads : {bs bs' : List ℕ} {held : ℕ} {s : State} → offsets_fit (take held bs ++ joined xs) s ≡ true → Turns P bs held up down s r up₁ down₁ bs' → Reads P bs' r.held xs r.state up₁ down₁ t up' down'
      → Feeds P (take held bs ++ joined xs) up down s record { state = t; used = t.at - s.at } up' down'
  any_reads {bs} {held = held} near turn more = any_pieces (take held bs) xs near turn.fed (reads_feed (held_then turn) more)

  -- The whole input: the first `got` bytes, among which the head is accepted and put aside, and the pieces that reads gave behind them.
  -- The head is that of the whole input, and the rest of the input is fed as at once.
  pub whole_input : {bs bs₁ bs₂ : List ℕ} {got held : ℕ} → begin_of (take got bs) ≡ Ok P → Moves (head_length_of P) got bs held bs₁ → Turns P bs₁ held up down (started P) r up₁ down₁ bs₂
      → Reads P bs₂ r.held xs r.state up₁ down₁ t up' down' → offsets_fit (drop (head_length_of P) (take got bs ++ joined xs)) (started P) ≡ true
      → (begin_of (take got bs ++ joined xs) ≡ Ok P)
      × Feeds P (drop (head_length_of P) (take got bs ++ joined xs)) up down (started P) record { state = t; used = t.at - head_length_of P } up' down'
  whole_input {bs} {bs₁} {got = got} {held = held} head aside turn more near =
      let whole = begun_whole (take got bs) head in
      let behind : drop (head_length_of P) (take got bs ++ joined xs) ≡ take held bs₁ ++ joined xs = drop-append-le (head_length_of P) (take got bs) (joined xs) whole ∙ ap (λ (ys : List ℕ). ys ++ joined xs) (sym (moved_first aside)) in
      (head_begun (take got bs) head (joined xs), rw behind (any_reads (rw behind at near) turn more))
