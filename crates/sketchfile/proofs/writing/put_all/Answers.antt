-- `sketchfile::writing::put_all` meets its contract. The invariant: the records that are left, written from `at` on, give what is asked for.
use mathlib.Core.Path.{◌≡◌, sym, ap, ◌∙◌}
use mathlib.Core.Bool.{false}
use mathlib.Core.List.{◌++◌}
use Prim.Native.Nat.{◌+◌, ◌-◌, ◌≤◌}
use native.Mathlib.Omega.{arith}
use lib.ListN.{length}
use mir.Syntax.{w32}
use Rattle.field.proofs.Casts.{back}
use Rattle.sketch.specs.Sketch.{sketch, count_in, idsum_in}
use Rattle.files.specs.Bytes.{overwritten, word_bytes}
use Rattle.files.specs.Layout.{bucket_bytes}
use Rattle.files.specs.Writing.{written}
use Rattle.files.specs.Records.{bucket_length}
use Rattle.files.proofs.Overwriting.{overwritten_none, written_next}
use Rattle.sketchfile.specs.Writing.{zero_at, buckets_bytes}
use Rattle.sketchfile.proofs.Written.{buckets_long, all_left, none_left, zero_next, nonzero_next}
use Rattle.sketchfile.proofs.writing.put_all.Goals as goal
use Rattle.sketchfile.proofs.writing.put_all.Goals.{After-all_zero, else-not-all_zero, then-not-all_zero}

-- the bucket that a turn looks at
tested : (c : After-all_zero) → c.all_zero.result ≡ zero_at (sketch c.args.counts.now c.args.idsums.now) c.loop-k.k
tested c = rw (back w32 _ c.all_zero-arg-1.given) at c.all_zero.ensures

-- one that has a record, and the room for it
nonzero-here : (c : After-all_zero) → c.all_zero.result ≡ false → let a = c.args in
    let S = sketch a.counts.now a.idsums.now in
    let k = c.loop-k.k in
    buckets_bytes k (length a.counts.now - k) S ≡ bucket_bytes k (count_in S k) (idsum_in S k) ++ buckets_bytes (k + 1) (length a.counts.now - (k + 1)) S
nonzero-here c h = nonzero_next _ _ _ c.loop-k-test.true (sym (tested c) ∙ h)

room : (c : After-all_zero) → c.all_zero.result ≡ false → c.loop-k.at + bucket_length ≤ length c.loop-k.out
unfolding bucket_bytes word_bytes
room c h =
    let a = c.args in
    omega (arith, ap length (nonzero-here c h), buckets_long (sketch a.counts.now a.idsums.now) 0 (length a.counts.now))

pub loop-k-init : goal.loop-k-init
loop-k-init c =
    let a = c.args in
    let all = all_left (sketch a.counts.now a.idsums.now) (length a.counts.now) in
    (omega (arith, ap length all), ap (overwritten a.out.now a.first) all)

pub overflow_add-at : goal.overflow_add-at
overflow_add-at c = omega (arith, room (goal.at.overflow_add-at c).After-all_zero c.if-not-all_zero.true)

pub loop-k-preserved : goal.loop-k-preserved
unfolding bucket_bytes word_bytes
loop-k-preserved c =
    let l = c.loop-k in
    let a = c.args in
    let S = sketch a.counts.now a.idsums.now in
    let b = (goal.at.loop-k-preserved c).After-all_zero in
    elim c.if-not-all_zero.branch [
      | then-not-all_zero w ↦
          let h = w.if-not-all_zero.true in
          let put : c.if-not-all_zero.out ≡ written l.out l.at (bucket_bytes l.k (count_in S l.k) (idsum_in S l.k)) = w.out-is ∙ rw (back w32 _ w.put_bucket-arg-then-not-all_zero-1.given) at w.put_bucket.ensures in (
            omega (arith, w.at-is, ap length (nonzero-here b h)),
            written_next _ _ _ _ _ _ (ap (overwritten l.out l.at) (sym (nonzero-here b h)) ∙ l.invariant.1) put (room b h) w.at-is,
          )
      | else-not-all_zero w ↦
          let next = zero_next S (length a.counts.now) l.k c.loop-k-test.true (sym (tested b) ∙ w.if-not-all_zero.false) in (
            omega (arith, w.at-is, ap length next),
            rw (w.out-is, w.at-is) (ap (overwritten l.out l.at) (sym next) ∙ l.invariant.1),
          )
    ]

pub returns : goal.returns
returns c =
    let l = c.loop-k in
    let a = c.args in
    let S = sketch a.counts.now a.idsums.now in
    let n = length a.counts.now in
    let none = none_left S n l.k c.loop-k-test.false in
    record { value = omega (arith, ap length none, buckets_long S 0 n); out_after = overwritten_none l.out l.at ∙ ap (overwritten l.out l.at) (sym none) ∙ l.invariant.1 }
