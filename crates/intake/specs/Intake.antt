-- What is held of an input that comes in reads. Below, bs are the bytes of a buffer, of which the first are held: those that came and were not taken yet.
use Rattle.std.specs.Prelude.{◌≡◌, Bool, not, ◌&&◌, ◌||◌, List, ◌++◌, ℕ, ◌-◌, eqb, leb, length, get_or, take, drop}
use Rattle.params.specs.declared.params.Params.{Params}
use Rattle.sketch.specs.Sketch.{Sketch}
use Rattle.files.specs.Records.{head_kind, extended_head_kind, head_length_in}
use Rattle.desk.specs.declared.states.State.{State}
use Rattle.desk.specs.Desk.{Feeds}
use Rattle.intake.specs.declared.turning.Turned.{Turned}

-- the first head is settled: all its bytes are at hand, or a first byte that no head has
unfoldable pub head_settled : List ℕ → Bool
head_settled bs =
    not (leb (length bs) 0)
    && (leb (head_length_in bs) (length bs) || not (eqb (get_or bs 0 0) head_kind || eqb (get_or bs 0 0) extended_head_kind))

-- the bytes from one offset up to another
abbrev pub part : ℕ → ℕ → List ℕ → List ℕ
part from to bs = drop from (take to bs)

-- those bytes come to the front, and the others stay as they are
abbrev pub to_front : ℕ → ℕ → List ℕ → List ℕ
to_front from to bs = part from to bs ++ drop (length (part from to bs)) bs

pub record Moves (from to : ℕ) (bs : List ℕ) (r : ℕ) (bs' : List ℕ) : Type 0 where
  pub number : r ≡ length (part from to bs)
  pub bytes : bs' ≡ to_front from to bs

-- One turn: what is held is fed to the desk, and what that leaves comes to the front and is held then.
module _ (P : Params) (bs : List ℕ) (held : ℕ) (up down : Sketch) (s : State) where
  abbrev pub used_by : Turned → ℕ
  used_by r = r.state.at - s.at

  pub record Turns (r : Turned) (up' down' : Sketch) (bs' : List ℕ) : Type 0 where
    pub fed : Feeds P (take held bs) up down s record { state = r.state; used = used_by r } up' down'
    pub left : Moves (used_by r) held bs r.held bs'
