-- The record `Peels` put together from its parts, where peeling is refused and where it is done.
use mathlib.Core.Path.{◌≡◌, sym, ap, ◌∙◌}
use Prim.Native.Nat.{ℕ}
use native.Mathlib.Omega.{arith}
use lib.ListN.{length, replicate, length-map}
use Rattle.params.specs.declared.params.Params.{Params}
use Rattle.params.specs.declared.answers.Refusal.{Refusal}
use Rattle.params.specs.Answers.{kept, Answer, Done, Refused}
use Rattle.walk.specs.Walk.{Outcome, closed_table}
use Rattle.walk.specs.Shown.{tell, shown_table}
use Rattle.peel.specs.declared.peeling.Figures.{Figures}
use Rattle.peel.specs.Slices.{Slices, slices}
use Rattle.peel.specs.Rep.{Leaves}
use Rattle.peel.specs.Peel.{figures_of, peeled_of, closed_slices, judged, walked, Peels}
use Rattle.peel.proofs.Padding.{all_zeros, entries_many, padded_flows, padded_numbers}
use Rattle.peel.proofs.Judged.{judged_peelable}
use Rattle.std.specs.Prelude.{Ok}

figures_are : {P : Params} {o : Outcome} {r : Figures} {L : Slices} → Leaves P o r L → r ≡ figures_of o
figures_are {P} {o} {r} {L} l =
    let many = entries_many L.flows L.numbers r.entries (shown_table P o) l.table ∙ length-map (closed_table o) (tell P) in
    λ i. record { ending = l.ending i; entries = many i; lost = l.lost i; extra = l.extra i; pops = l.pops i }

module _ (P : Params) (allowance : ℕ) (L : Slices) where
  pub not_peeled : (w : Refusal) (k : ℕ) → Refused w k ≡ judged P L → Peels P allowance L (Refused w k) L
  unfolding kept
  not_peeled w k e =
      record {
        answer = ap (λ (r : Answer). peeled_of r (walked P allowance L)) e;
        after = ap (λ (r : Answer). kept r L (closed_slices P (walked P allowance L) L)) e;
      }

  -- where nothing is refused, L' is what the walk and the close left
  module _ (done : Done ≡ judged P L) (r : Figures) (L' : Slices) (l : Leaves P (walked P allowance L) r L') (long : length L'.flows ≡ length L.flows) (long_numbers : length L'.numbers ≡ length L.numbers) (long-queue : length L'.queue ≡ length L.queue) (long_marks : length L'.marks ≡ length L.marks) where
    closed : L' ≡ closed_slices P (walked P allowance L) L
    closed =
        let s = judged_peelable P L (sym done) in
        let T = shown_table P (walked P allowance L) in
        let flows = padded_flows L'.flows L'.numbers r.entries T l.table (length L.flows) long (omega (arith, l.room)) l.past in
        let numbers = padded_numbers L'.flows L'.numbers r.entries T l.table (length L.numbers) long_numbers (omega (arith, l.room, s.slots)) l.past_numbers in
        let queue = all_zeros 0 L'.queue l.queue ∙ ap (λ (n : ℕ). replicate n 0) (long-queue ∙ s.long) in
        let marks = all_zeros 0 L'.marks l.marks ∙ ap (λ (n : ℕ). replicate n 0) (long_marks ∙ s.long_marks) in
        λ i. slices (l.remainder i).counts (l.remainder i).idsums (flows i) (numbers i) (queue i) (marks i)

    pub peeled : Peels P allowance L (Ok r) L'
    unfolding kept
    peeled =
        record {
          answer = ap Ok (figures_are l) ∙ ap (λ (x : Answer). peeled_of x (walked P allowance L)) done;
          after = closed ∙ ap (λ (x : Answer). kept x L (closed_slices P (walked P allowance L) L)) done;
        }
