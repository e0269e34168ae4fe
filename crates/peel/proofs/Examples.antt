-- The examples E2 to E6, E9 and E10 of the bench, a loss beside a gain, an old sketch of flow 0 and fingerprints, as a caller of `peel` meets them, under a single theorem, `all_right`: the answer, and all that each slice
-- holds after. The checker works every line out by the definitions. crates/walk has the whole table, over the definition of the walk.
use mathlib.Core.Path.{◌≡◌, refl}
use mathlib.Core.List.{List, [], ◌∷◌, map}
use Prim.Native.Nat.{ℕ}
use lib.IntN.{ℤ, pos, negsuc}
use lib.ListN.{replicate}
use Rattle.field.specs.Residue.{residue}
use Rattle.field.specs.Flow.{inverse_in, inverse, flow}
use Rattle.params.specs.declared.params.Params.{Params}
use Rattle.params.specs.Lists.{below, least, map_from, touched, from, padded}
use Rattle.params.specs.Answers.{refuse_at, first, kept, Given, number_in}
use Rattle.params.specs.Params.{pair_at, twins, good_dimensions, good_params, lengths_answer, lent_answer}
use Rattle.params.specs.Sketched.{sketched, told, is_sketched}
use Rattle.params.specs.Positions.{stand, stands_in}
use Rattle.buckets.specs.Buckets.{in_limits}
use Rattle.sketch.specs.Sketch.{Sketch}
use Rattle.walk.specs.Walk.{all, any, nothing_remains, less, has, entry_of, credited, waits, requeue, in_range, has_room, taken, takes, follows, popped, before, after, run, first_queue, walk, close, summed}
use Rattle.walk.specs.Purity.{test_in}
use Rattle.walk.proofs.Examples.{K, K5, S0, S1, S3, SP, SP3, SP61, remainder3, S5, S6, SL, SC, SZ}
use Rattle.peel.specs.Slices.{Slices, slices}
use Rattle.peel.specs.Peel.{walk_lent_answer, peel_answer, flows_of, numbers_of, peeled_ending, peeled_pops, peeled_lost, peeled_extra, peeled_entries, peel_returns, peel_leaves}
use Rattle.peel.specs.declared.peeling.Figures.{Figures}

-- a sketch peeled into a table of that many slots, with an allowance of pops, under K or, with fingerprints, under K5
pub record Call : Type 0 where
  pub params : Params
  pub held : Sketch
  pub slots : ℕ
  pub allowance : ℕ

-- what it returns: the number, the ending, the pops, lost, extra and the entries; and what the slices hold
pub record Reply : Type 0 where
  pub number : ℕ
  pub ending : ℕ
  pub pops : ℕ
  pub lost : ℕ
  pub extra : ℕ
  pub entries : ℕ
  pub left : Slices

-- all that is lent beside the sketch holds 9s before
abbrev lent : Call → Slices
lent c =
    slices c.held.counts c.held.idsums (replicate c.slots 9) (replicate c.slots (pos 9)) (replicate 10 9) (replicate 10 9)

abbrev reply_by : Given Figures → Slices → Reply
reply_by r L =
    record {
      number = number_in r;
      ending = peeled_ending r;
      pops = peeled_pops r;
      lost = peeled_lost r;
      extra = peeled_extra r;
      entries = peeled_entries r;
      left = L;
    }

-- what the definitions tell
abbrev pub reply : Call → Reply
reply c = reply_by (peel_returns c.params c.allowance (lent c)) (peel_leaves c.params c.allowance (lent c))

-- a line of the table
pub record Line : Type 0 where
  pub asked : Call
  pub answer : Reply

abbrev call : Sketch → ℕ → ℕ → Call
call S slots allowance = record { params = K; held = S; slots = slots; allowance = allowance }

abbrev call_k5 : Sketch → ℕ → ℕ → Call
call_k5 S slots allowance = record { params = K5; held = S; slots = slots; allowance = allowance }

-- peeling ended, and left this sketch and these table slices; the queue and the marks are all 0
abbrev ends : ℕ → ℕ → ℕ → ℕ → ℕ → Sketch → List ℕ → List ℤ → Reply
ends ending pops lost extra entries S flows numbers =
    record {
      number = 0;
      ending = ending;
      pops = pops;
      lost = lost;
      extra = extra;
      entries = entries;
      left = slices S.counts S.idsums flows numbers (replicate 10 0) (replicate 10 0);
    }

infix 40 ◌gives◌
abbrev ◌gives◌ : Call → Reply → Line
c gives t = record { asked = c; answer = t }

abbrev pub examples : List Line
examples =
    -- E2
    (call S1 10 80 gives ends 1 3 3 0 2 S0 (12 ∷ 7 ∷ replicate 8 0) (pos 2 ∷ pos 1 ∷ replicate 8 (pos 0)))
    -- E3
    ∷ (call S3 10 10 gives ends 3 10 2 0 1 remainder3 (7 ∷ replicate 9 0) (pos 2 ∷ replicate 9 (pos 0)))
    -- E4
    ∷ (call S3 10 9 gives ends 3 9 0 0 0 S3 (replicate 10 0) (replicate 10 (pos 0)))
    -- E5
    ∷ (call S5 10 80 gives ends 2 0 0 0 0 S5 (replicate 10 0) (replicate 10 (pos 0)))
    -- E6
    ∷ (call S6 10 80 gives ends 1 1 0 4 1 S0 (7 ∷ replicate 9 0) (negsuc 3 ∷ replicate 9 (pos 0)))
    -- E9
    ∷ (call S0 10 0 gives ends 1 0 0 0 0 S0 (replicate 10 0) (replicate 10 (pos 0)))
    ∷ (call S1 10 0 gives ends 3 0 0 0 0 S1 (replicate 10 0) (replicate 10 (pos 0)))
    -- E10
    ∷ (call S1 0 80 gives ends 6 2 0 0 0 S1 [] [])
    -- a loss beside a gain
    ∷ (call SL 10 80 gives ends 1 2 5 5 2 S0 (20 ∷ 7 ∷ replicate 8 0) (negsuc 4 ∷ pos 5 ∷ replicate 8 (pos 0)))
    -- an entry between two others came to 0: the first stays in its slot, the last moves
    ∷ (call SC 10 6 gives ends 3 6 3 4 2 S3 (20 ∷ 4 ∷ replicate 8 0) (pos 3 ∷ negsuc 3 ∷ replicate 8 (pos 0)))
    -- flow 0
    ∷ (call SZ 10 80 gives ends 2 2 0 0 0 SZ (replicate 10 0) (replicate 10 (pos 0)))
    -- fingerprints: the table shows flows, where the sketch holds extended numbers; E3's two flows do not pass as a third; and two that do
    ∷ (call_k5 SP 10 80 gives ends 1 3 3 0 2 S0 (17 ∷ 7 ∷ replicate 8 0) (pos 2 ∷ pos 1 ∷ replicate 8 (pos 0)))
    ∷ (call_k5 SP3 10 80 gives ends 2 2 0 0 0 SP3 (replicate 10 0) (replicate 10 (pos 0)))
    ∷ (call_k5 SP61 10 80 gives ends 1 1 2 0 1 S0 (31 ∷ replicate 9 0) (pos 2 ∷ replicate 9 (pos 0)))
    ∷ []

pub all_right : map (λ l. reply l.asked) examples ≡ map (λ l. l.answer) examples
unfolding residue inverse_in inverse flow below least map_from touched from refuse_at first kept pair_at twins good_dimensions good_params lengths_answer lent_answer sketched told is_sketched stand stands_in in_limits all any nothing_remains less has entry_of credited waits requeue in_range has_room taken takes follows popped before after run first_queue walk close summed test_in walk_lent_answer peel_answer flows_of numbers_of padded
all_right = refl
