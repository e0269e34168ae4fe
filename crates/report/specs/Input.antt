-- One read of the input. Which bytes it gives is the system's part; that it leaves those alone that are held is proved.
use Rattle.std.specs.Prelude.{◌≡◌, List, ℕ, ◌+◌, ◌-◌, ◌≤◌, ◌<◌, length, take, Option, Some, None, Result, Ok, Err}
use Rattle.report.specs.declared.input.ReadFailed.{ReadFailed}

-- how many bytes came
abbrev pub came : Result (Option ℕ) ReadFailed → ℕ
came (Ok (Some n)) = n
came (Ok None) = 0
came (Err e) = 0

-- the first `held` bytes stay as they are, and those that came fit behind them; 64 bits hold how many that is
pub record ReadOn (bs : List ℕ) (held : ℕ) (r : Result (Option ℕ) ReadFailed) (bs' : List ℕ) : Type 0 where
  pub kept : take held bs' ≡ take held bs
  pub fits : came r ≤ length bs' - held
  pub small : held + came r < 18446744073709551616
