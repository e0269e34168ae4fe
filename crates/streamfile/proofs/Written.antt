-- Stream files written: the packet records in turn, how long a file is, and what holds where nothing is refused.
use mathlib.Core.Path.{◌≡◌, refl, sym, ap, ◌∙◌}
use mathlib.Core.Bool.{Bool, true, not, ◌&&◌}
use mathlib.Core.List.{List, [], ◌∷◌, ◌++◌}
use Prim.Native.Nat.{ℕ, zero, suc, ◌+◌, ◌*◌, ◌≤◌, ◌<◌}
use native.Mathlib.Numerals.{add-one}
use native.Mathlib.Omega.{arith}
use borrow.Author.Tests.{eqb-true, eq-eqb, leb-true, le-leb, ltb-false, le-ltb, not-false}
use lib.Dec.{eqb, leb, ltb}
use lib.ListN.{length, get_or, take, drop}
use lib.Seq.{drop-cons, take_all}
use Rattle.std.specs.List.{list_all}
use Rattle.std.proofs.lemmas.List.Folds.{list_all_more}
use Rattle.params.specs.declared.params.Params.{Params}
use Rattle.params.specs.declared.answers.Refusal.TheVariants.{Param, Length, Flow, Count}
use Rattle.params.specs.Lists.{below}
use Rattle.params.specs.Answers.{refuse_if, Done}
use Rattle.params.specs.Params.{good_params}
use Rattle.params.proofs.Searches.{and_true}
use Rattle.params.proofs.Judging.{refuse_done}
use Rattle.files.specs.Bytes.{word_bytes}
use Rattle.files.specs.Layout.{packet_bytes}
use Rattle.files.specs.Records.{packets_length, end_length}
use Rattle.files.specs.Heads.{head_length_of}
use Rattle.files.proofs.Overwriting.{length_file}
use Rattle.streamfile.specs.Writing.{packets_bytes, stream_bytes, is_flow_at, is_number_at, stream_write_answer}

-- a test of every item of a list is one at every index
module _ (test : ℕ → Bool) (xs : List ℕ) where
  all_below : (i : ℕ) → i ≤ length xs → list_all test (take i xs) ≡ below i (λ k. test (get_or xs k 0))
  unfolding below
  all_below zero h = refl
  all_below (suc i) h =
      ap (λ n. list_all test (take n xs)) (sym (add-one i)) ∙ list_all_more test xs i 0 (omega arith) ∙ ap (λ b. b && test (get_or xs i 0)) (all_below i (omega arith))

  pub all_below_length : list_all test xs ≡ below (length xs) (λ k. test (get_or xs k 0))
  all_below_length = ap (list_all test) (sym (take_all (length xs) xs (omega arith))) ∙ all_below (length xs) (omega arith)

-- of the records from the i-th on, the first
pub packets_next : (fs ns : List ℕ) (i : ℕ) → i < length fs → i < length ns
    → packets_bytes (drop i fs) (drop i ns) ≡ packet_bytes (get_or fs i 0) (get_or ns i 0) ++ packets_bytes (drop (i + 1) fs) (drop (i + 1) ns)
unfolding packets_bytes
packets_next fs ns i h k = rw (drop-cons fs i 0 h, drop-cons ns i 0 k, add-one i)

-- each takes as many bytes as its kind asks for
pub packets_long : (fs ns : List ℕ) → length fs ≡ length ns → length (packets_bytes fs ns) ≡ packets_length * length fs
unfolding packets_bytes packet_bytes word_bytes
packets_long [] ns e = refl
packets_long (f ∷ fs) [] e = absurd (omega arith)
packets_long (f ∷ fs) (n ∷ ns) e = omega (arith, packets_long fs ns (omega arith))

pub stream_long : (P : Params) (fs ns : List ℕ) → length fs ≡ length ns → length (stream_bytes P fs ns) ≡ head_length_of P + packets_length * length fs + end_length
unfolding stream_bytes
stream_long P fs ns e = omega (arith, length_file P (packets_bytes fs ns) (length fs), packets_long fs ns e)

-- the parameters and the lengths are right
pub record Passed (P : Params) (fs ns : List ℕ) (o : ℕ) : Type 0 where
  pub good : good_params P ≡ true
  pub same : length fs ≡ length ns
  pub few : length fs ≤ 65536
  pub room : head_length_of P + packets_length * length fs + end_length ≤ o

pub writing_passed : (P : Params) (fs ns : List ℕ) (o : ℕ) → stream_write_answer P fs ns o ≡ Done → Passed P fs ns o
unfolding stream_write_answer
writing_passed P fs ns o e =
    let h = refuse_done (not (good_params P)) Param 0 _ e in
    let k = refuse_done (not (eqb (length fs) (length ns) && leb (length fs) 65536)) Length 0 _ h.1 in
    let l = refuse_done (ltb o (length (stream_bytes P fs ns))) Length 0 _ k.1 in
    let m = and_true (eqb (length fs) (length ns)) _ (not-false _ k.0) in
    let same : length fs ≡ length ns = eqb-true _ _ m.0 in
    record {
      good = not-false _ h.0;
      same = same;
      few = leb-true _ _ m.1;
      room = omega (arith, ltb-false o (length (stream_bytes P fs ns)) l.0, stream_long P fs ns same);
    }

-- the flows and the numbers decide then
pub stream_passed : (P : Params) (fs ns : List ℕ) (o : ℕ) → Passed P fs ns o
    → stream_write_answer P fs ns o ≡ refuse_if (not (below (length fs) (is_flow_at P fs))) Flow 0 (refuse_if (not (below (length ns) (is_number_at ns))) Count 0 Done)
unfolding stream_write_answer
stream_passed P fs ns o h =
    rw (h.good, eq-eqb _ _ h.same, le-leb _ _ h.few, le-ltb o (length (stream_bytes P fs ns)) (omega (arith, h.room, stream_long P fs ns h.same)))
