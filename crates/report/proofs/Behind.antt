-- A part behind the bytes that are held is lent to the read, and put back as the read left it.
use mathlib.Core.Path.{◌≡◌, sym, ap, ◌∙◌}
use mathlib.Core.List.{List, ◌++◌}
use Prim.Native.Nat.{ℕ, ◌+◌, ◌-◌, ◌≤◌, ◌<◌}
use native.Mathlib.Omega.{arith}
use borrow.Rule.Slice.PartMut.{put_mid, take_put, same_len_mid, mid_len}
use lib.ListN.{length, take, drop, take-append-drop}
use lib.Seq.{take-take}
use Rattle.std.specs.Prelude.{Option, Result}
use Rattle.report.specs.declared.input.ReadFailed.{ReadFailed}
use Rattle.report.specs.Input.{came, ReadOn}

pub read_behind : (held : ℕ) (bs ys : List ℕ) (r : Result (Option ℕ) ReadFailed) → held ≤ length bs → length bs < 18446744073709551616 → length ys ≡ length bs - held → came r ≤ length ys
    → ReadOn bs held r (put_mid held (length bs - held) bs ys)
read_behind held bs ys r h few same fits =
    let mid = mid_len held (length bs) bs (omega arith) in
    let whole = same_len_mid held (length bs - held) bs ys (omega (arith, mid)) in
    record { kept = take_put held (length bs - held) bs ys h; fits = omega (arith, whole); small = omega arith }

-- so a read is one as the theorem on any reads asks for (intake `AnyReads`): what is held then is what was held, and a piece behind it
pub piece_behind : {held : ℕ} {bs bs' : List ℕ} {r : Result (Option ℕ) ReadFailed} → ReadOn bs held r bs' → take (held + came r) bs' ≡ take held bs ++ drop held (take (held + came r) bs')
piece_behind {held} {bs} {bs'} {r} read =
    let all : List ℕ = take (held + came r) bs' in
    sym (take-append-drop held all) ∙ ap (λ (ys : List ℕ). ys ++ drop held all) (take-take held (held + came r) bs' (omega arith) ∙ read.kept)
