-- `sketch::arrays::array_part` meets its contract: where `array` does not refuse, the stretch lies within the slice.
use native.Mathlib.Omega.{arith}
use Prim.Native.Nat.{◌-◌, ◌*◌, ◌≤◌}
use lib.ListN.{length}
use borrow.Author.Rules.{rules, scaled_fits≤}
use Rattle.sketch.proofs.Stretches.{array_done, refused_stretch, done_stretch}
use Rattle.sketch.proofs.arrays.array_part.Goals as goal

pub returns-then-is_err : goal.returns-then-is_err
returns-then-is_err g c = refused_stretch _ c.array.ensures c.if-is_err.ensures.value

pub overflow_sub-at : goal.overflow_sub-at
overflow_sub-at g c = (array_done _ _ _ _ c.array.ensures c.if-is_err.ensures.value).0.low

pub overflow_mul-at : goal.overflow_mul-at
overflow_mul-at g c = omega (arith, array_done _ _ _ _ c.array.ensures c.if-is_err.ensures.value)

pub overflow_add-end : goal.overflow_add-end
overflow_add-end g c = omega (arith, array_done _ _ _ _ c.array.ensures c.if-is_err.ensures.value)

pub offset_bounds-xs-at : goal.offset_bounds-xs-at
offset_bounds-xs-at g c =
    let h : (c.args.i - 1) * c.args.p.m ≤ length c.args.xs.now = omega (arith, array_done _ _ _ _ c.array.ensures c.if-is_err.ensures.value) in
    search (rules, scaled_fits≤)

pub slice_bounds-xs-end : goal.slice_bounds-xs-end
slice_bounds-xs-end g c = omega (arith, array_done _ _ _ _ c.array.ensures c.if-is_err.ensures.value)

pub returns : goal.returns
returns g c = done_stretch _ c.array.ensures c.if-is_err.ensures.value
