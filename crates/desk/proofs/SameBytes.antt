-- A stream file whose body has the bytes of a list at hand: what was taken from the list is what the stream's reader reads, and the other way.
use mathlib.Core.Path.{◌≡◌, sym, ap, ◌∙◌}
use mathlib.Core.Bool.{true, false, not}
use mathlib.Core.List.{List}
use Prim.Native.Nat.{ℕ, ◌+◌, ◌*◌, ◌≤◌, ◌<◌}
use native.Mathlib.Omega.{arith}
use borrow.Author.Tests.{eq-eqb, eqb-true, le-ltb, ltb-false, not-false}
use lib.Dec.{eqb, ltb}
use lib.IntN.{pos}
use lib.ListN.{length, get_or, length-replicate, get_or-replicate}
use Rattle.params.specs.declared.params.Params.{Params}
use Rattle.params.specs.declared.answers.Refusal.TheVariants.{Damage, Form}
use Rattle.params.specs.Lists.{from}
use Rattle.params.specs.Answers.{kept, Done}
use Rattle.params.specs.Params.{size, good_params, same_params, lengths_answer}
use Rattle.buckets.specs.Buckets.{in_limits}
use Rattle.sketch.specs.Sketch.{Sketch, zeros, damaged_at}
use Rattle.sketch.specs.Packets.{after}
use Rattle.sketch.proofs.Tables.{from_same}
use Rattle.params.proofs.Judging.{first_passed, refuse_none, refuse_done}
use Rattle.sketch.proofs.ManyPackets.{after_end_lem}
use Rattle.files.specs.Bytes.{word}
use Rattle.files.specs.Records.{body_length, record_at, is_kind, is_head, offset_of, packets_kind, end_kind, head_length_in, packets_length, end_length}
use Rattle.files.specs.Heads.{head_length_of, params_in, good_head, parameters_answer}
use Rattle.files.specs.Turns.{at_offset, packet_from, packet_offset, end_answer}
use Rattle.files.specs.Fields.{flow_field, number_field, records_field}
use Rattle.files.proofs.RecordTrips.{record_whole, not_kind}
use Rattle.files.proofs.Turning.{records_are}
use Rattle.desk.proofs.Whole.{whole_record}
use Rattle.files.proofs.Turning.{whole_within, in_turn_done}
use Rattle.streamfile.specs.Streams.{packets_from, flow_from, number_from, flows_from, numbers_from, packets_in, flows_in, numbers_in, packet_judged, packets_judged, stream_answer, StreamRead}
use Rattle.streamfile.proofs.Accepting.{StreamDone, stream_done}
use Rattle.streamfile.proofs.Found.{length_flows, length_numbers, flow_is, number_is}
use Rattle.desk.specs.Desk.{record_answer, taken, taken_answer, after_taken}
use Rattle.desk.proofs.Taking.{AllTaken, all_taken, none_refused}

-- a fresh sketch has the right lengths and no damage
module _ (P : Params) where
  pub fresh_lengths : lengths_answer P (length (zeros P).counts) (length (zeros P).idsums) ≡ Done
  unfolding lengths_answer zeros
  fresh_lengths = rw (eq-eqb _ _ (length-replicate (size P) (pos 0)), eq-eqb _ _ (length-replicate {A = ℕ} (size P) 0))

  fresh_sound : (k : ℕ) → k < size P → damaged_at (zeros P) k ≡ false
  unfolding zeros in_limits
  fresh_sound k l = rw (get_or-replicate (size P) k (pos 0) (pos 0) l, get_or-replicate {A = ℕ} (size P) k 0 0 l)

-- so where the head is right, the records decide
pub opened_judged : (P : Params) (fs : List ℕ) → is_head (record_at fs 0) ≡ true → good_params P ≡ true → good_head fs ≡ true → same_params P (params_in fs) ≡ true
    → stream_answer P fs (zeros P) ≡ packets_judged P fs (zeros P)
unfolding stream_answer parameters_answer
opened_judged P fs head good goods alike =
    let right : parameters_answer P fs ≡ Done = rw (head, goods, good, alike) in
    first_passed _ _ right ∙ first_passed _ _ (fresh_lengths P) ∙ refuse_none (size P) (damaged_at (zeros P)) Damage _ (fresh_sound P)

-- an end that is accepted
pub record EndSaid (bs : List ℕ) (at n : ℕ) : Type 0 where
  pub kind : is_kind end_kind (record_at bs at) ≡ true
  pub said : word bs (at + records_field) ≡ n
  pub last : length bs ≤ at + end_length

pub end_said_done : (bs : List ℕ) (at n : ℕ) → end_answer bs at n ≡ Done → EndSaid bs at n
unfolding end_answer
end_said_done bs at n e =
    let h = refuse_done (not (is_kind end_kind (record_at bs at))) Form (offset_of bs at) _ e in
    let k = refuse_done (not (eqb (word bs (at + records_field)) n)) Form at _ h.1 in
    let l = refuse_done (ltb (at + end_length) (length bs)) Form (at + end_length) Done k.1 in
    record { kind = not-false _ h.0; said = eqb-true _ _ (not-false _ k.0); last = ltb-false _ _ l.0 }

-- the file fs is a head, n packets and an end, and what stands after the head is what stands in xs
module _ (P : Params) (fs xs : List ℕ) (n : ℕ) (head : head_length_in fs ≡ head_length_of P) (long : length fs ≡ head_length_of P + (packets_length * n + end_length)) (room : packets_length * n + end_length ≤ length xs)
    (same : (j : ℕ) → j < packets_length * n + end_length → get_or fs (head_length_of P + j) 0 ≡ get_or xs j 0) where
  word_same : (at j : ℕ) → at ≡ head_length_of P + j → j + 4 ≤ packets_length * n + end_length → word fs at ≡ word xs j
  unfolding word
  word_same at j e h =
      let byte : (i : ℕ) → i < 4 → get_or fs (at + i) 0 ≡ get_or xs (j + i) 0 = λ i l. ap (λ (k : ℕ). get_or fs k 0) (omega arith) ∙ same (j + i) (omega arith) in
      let first : get_or fs at 0 ≡ get_or xs j 0 = ap (λ (k : ℕ). get_or fs k 0) e ∙ same j (omega arith) in
      rw (first, byte 1 (omega arith), byte 2 (omega arith), byte 3 (omega arith))

  whole_same : (kind at j : ℕ) → at ≡ head_length_of P + j → 0 < body_length kind → j + 1 + body_length kind ≤ packets_length * n + end_length → is_kind kind (record_at xs j) ≡ true → is_kind kind (record_at fs at) ≡ true
  whole_same kind at j e p h w =
      record_whole fs at kind (ap (λ (k : ℕ). get_or fs k 0) e ∙ same j (omega arith) ∙ (whole_record xs j kind w).0) p (omega (arith, long))

  -- xs has n packets at hand and then an end
  module _ (number : packets_from 0 xs ≡ n) (end : is_kind end_kind (record_at xs (packets_length * n)) ≡ true) (said : word xs (packets_length * n + records_field) ≡ n) where
    end_same : is_kind end_kind (record_at fs (packet_offset fs n)) ≡ true
    end_same = whole_same end_kind (packet_offset fs n) (packets_length * n) (omega arith) (omega arith) (omega arith) end

    number_same : packets_in fs ≡ n
    number_same =
        records_are packets_kind (packet_offset fs) fs n (omega arith)
        (λ k l. whole_same packets_kind (packet_offset fs k) (packet_from 0 k) (omega arith) (omega arith) (omega arith) (whole_within packets_kind (packet_from 0) xs k (omega arith)))
        (not_kind fs (packet_offset fs n) packets_kind (λ e. omega (arith, (whole_record fs (packet_offset fs n) end_kind end_same).0)))

    flow_same : (k : ℕ) → k < n → flow_from (head_length_in fs) fs k ≡ flow_from 0 xs k
    flow_same k l = word_same (packet_offset fs k + flow_field) (packet_from 0 k + flow_field) (omega arith) (omega arith)

    packets_same : (k : ℕ) → k < n → number_from (head_length_in fs) fs k ≡ number_from 0 xs k
    packets_same k l = word_same (packet_offset fs k + number_field) (packet_from 0 k + number_field) (omega arith) (omega arith)

    flows_same : flows_in fs ≡ flows_from 0 xs
    unfolding flows_from
    flows_same =
        ap (λ (m : ℕ). from 0 m (flow_from (head_length_in fs) fs)) number_same
        ∙ from_same 0 n (flow_from (head_length_in fs) fs) (flow_from 0 xs) (λ j a b. flow_same j (omega arith))
        ∙ ap (λ (m : ℕ). from 0 m (flow_from 0 xs)) (sym number)

    numbers_same : numbers_in fs ≡ numbers_from 0 xs
    unfolding numbers_from
    numbers_same =
        ap (λ (m : ℕ). from 0 m (number_from (head_length_in fs) fs)) number_same
        ∙ from_same 0 n (number_from (head_length_in fs) fs) (number_from 0 xs) (λ j a b. packets_same j (omega arith))
        ∙ ap (λ (m : ℕ). from 0 m (number_from 0 xs)) (sym number)

    module _ (S : Sketch) (done : AllTaken P xs S) where
      judged_done : (k : ℕ) → k < n → packet_judged P fs S k ≡ Done
      unfolding packet_judged at_offset record_answer
      judged_done k l = rw (flow_same k l, packets_same k l, flows_same, numbers_same, done.each k (omega arith))

      records_done : packets_judged P fs S ≡ Done
      unfolding packets_judged end_answer
      records_done =
          first_passed _ _ (in_turn_done (packets_in fs) (packet_judged P fs S) (λ j l. judged_done j (omega (arith, number_same))))
          ∙ ap (λ (m : ℕ). end_answer fs (packet_offset fs m) m) number_same
          ∙ rw (end_same, eq-eqb _ _ (word_same (packet_offset fs n + records_field) (packets_length * n + records_field) (omega arith) (omega arith) ∙ said), le-ltb (packet_offset fs n + end_length) (length fs) (omega arith))

      all_same : after_taken P xs S ≡ after P (flows_in fs) (numbers_in fs) S
      unfolding after_taken
      all_same =
          rw (flows_same, numbers_same)
          (after_end_lem P (flows_from 0 xs) (numbers_from 0 xs) (taken P xs S) S (omega (arith, length_flows 0 xs, done.number)) (omega (arith, length_numbers 0 xs, done.number)))

    -- so a head with the given parameters makes fs a stream that is read into a fresh sketch
    pub fed_is_read : is_head (record_at fs 0) ≡ true → good_params P ≡ true → good_head fs ≡ true → same_params P (params_in fs) ≡ true
        → taken_answer P xs (zeros P) ≡ Done → StreamRead P fs (zeros P) Done (after_taken P xs (zeros P))
    unfolding kept
    fed_is_read head good goods alike done =
        let all = all_taken P xs (zeros P) done in
        record {
          answer = sym (opened_judged P fs head good goods alike ∙ records_done (zeros P) all);
          after_all = all_same (zeros P) all;
        }

  -- the other way: the stream's reader accepts fs
  whole_back : (kind at j : ℕ) → at ≡ head_length_of P + j → 0 < body_length kind → j + 1 + body_length kind ≤ packets_length * n + end_length → is_kind kind (record_at fs at) ≡ true → is_kind kind (record_at xs j) ≡ true
  whole_back kind at j e p h w =
      record_whole xs j kind (sym (same j (omega arith)) ∙ ap (λ (k : ℕ). get_or fs k 0) (sym e) ∙ (whole_record fs at kind w).0) p (omega arith)

  module _ {S : Sketch} (read : StreamRead P fs (zeros P) Done S) (are : packets_in fs ≡ n) where
    done : StreamDone P fs (zeros P)
    done = stream_done P fs (zeros P) (sym read.answer)

    said_so : EndSaid fs (packet_offset fs n) n
    said_so = end_said_done fs (packet_offset fs n) n (ap (λ (k : ℕ). end_answer fs (packet_offset fs k) k) (sym are) ∙ done.ended)

    pub end_back : is_kind end_kind (record_at xs (packets_length * n)) ≡ true
    end_back = whole_back end_kind (packet_offset fs n) (packets_length * n) (omega arith) (omega arith) (omega arith) said_so.kind

    pub said_back : word xs (packets_length * n + records_field) ≡ n
    said_back = sym (word_same (packet_offset fs n + records_field) (packets_length * n + records_field) (omega arith) (omega arith)) ∙ said_so.said

    number_back : packets_from 0 xs ≡ n
    number_back =
        records_are packets_kind (packet_from 0) xs n (omega arith)
        (λ k l. whole_back packets_kind (packet_offset fs k) (packet_from 0 k) (omega arith) (omega arith) (omega arith) (whole_within packets_kind (packet_offset fs) fs k (omega (arith, are))))
        (not_kind xs (packet_from 0 n) packets_kind (λ e. let two : get_or xs (packets_length * n) 0 ≡ packets_kind = ap (λ (k : ℕ). get_or xs k 0) (omega arith) ∙ e in omega (arith, two, (whole_record xs (packets_length * n) end_kind end_back).0)))

    each_accepted : (k : ℕ) → k < packets_from 0 xs → record_answer P xs (zeros P) k ≡ Done
    unfolding record_answer
    each_accepted k l =
        rw (flow_is 0 xs k l, number_is 0 xs k l, ← flows_same number_back end_back said_back, ← numbers_same number_back end_back said_back)
        (done.accepted k (omega (arith, are, number_back)))

    pub all_back : (taken P xs (zeros P) ≡ n) × (taken_answer P xs (zeros P) ≡ Done)
    all_back = let h = none_refused P xs (zeros P) each_accepted in (h.0 ∙ number_back, h.1)

    pub sketch_back : after_taken P xs (zeros P) ≡ S
    unfolding kept
    sketch_back = all_same number_back end_back said_back (zeros P) (all_taken P xs (zeros P) all_back.1) ∙ sym read.after_all
