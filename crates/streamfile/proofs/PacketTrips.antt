-- Packet records there and back, and the records of many packets.
use mathlib.Core.Path.{◌≡◌, refl, sym, ap, ap₂, ◌∙◌}
use mathlib.Core.Bool.{true}
use mathlib.Core.List.{List, [], ◌∷◌, ◌++◌, append_assoc}
use Prim.Native.Nat.{ℕ, zero, suc, ◌+◌, ◌*◌, ◌<◌}
use native.Mathlib.Omega.{arith}
use lib.ListN.{get_or, length, take, drop}
use lib.Seq.{take-add, drop-drop}
use Rattle.params.specs.Lists.{from}
use Rattle.files.specs.Bytes.{word, word_bytes}
use Rattle.files.specs.Records.{record_at, is_kind, packets_kind, packets_length}
use Rattle.files.specs.Layout.{packet_bytes}
use Rattle.files.specs.Turns.{packet_offset}
use Rattle.files.specs.Fields.{flow_field, number_field}
use Rattle.files.proofs.Standing.{kind_ends}
use Rattle.files.proofs.RoundTrips.{digits_make, two_words}
use Rattle.files.proofs.RecordTrips.{kind_written, word_written, record_read}
use Rattle.streamfile.specs.Streams.{packet_flow, packet_number}
use Rattle.streamfile.specs.Writing.{packets_bytes}
use Rattle.streamfile.proofs.Found.{There}

pub packet_written : (bs xs ys : List ℕ) (at f n : ℕ) → bs ≡ xs ++ (packet_bytes f n ++ ys) → length xs ≡ at → f < 4294967296 → n < 4294967296 → There bs at f n
unfolding packet_bytes word_bytes word
packet_written bs xs ys at f n form e h l =
    let read = word_written bs xs (word_bytes f ++ word_bytes n) ys at packets_kind form e in
    record {
      whole = kind_written bs xs (word_bytes f ++ word_bytes n) ys at packets_kind form e refl (omega arith);
      flow = sym (read flow_field ∙ digits_make f h);
      number = sym (read number_field ∙ digits_make n l);
    }

pub packet_read : (bs : List ℕ) (at : ℕ) → ((k : ℕ) → get_or bs k 0 < 256) → is_kind packets_kind (record_at bs at) ≡ true → packet_bytes (word bs (at + flow_field)) (word bs (at + number_field)) ≡ take packets_length (drop at bs)
unfolding packet_bytes
packet_read bs at small h =
    let long = kind_ends packets_kind bs at h in record_read bs at packets_kind _ h (two_words bs small (at + flow_field) (at + number_field) (omega arith) (omega arith))

-- packet k stands between those before it and those after it
pub packet_among : (fs ns : List ℕ) (k : ℕ) → k < length fs → k < length ns
    → packets_bytes fs ns ≡ packets_bytes (take k fs) (take k ns) ++ (packet_bytes (get_or fs k 0) (get_or ns k 0) ++ packets_bytes (drop (suc k) fs) (drop (suc k) ns))
unfolding packets_bytes
packet_among [] ns k h l = absurd (omega arith)
packet_among (f ∷ fs) [] k h l = absurd (omega arith)
packet_among (f ∷ fs) (n ∷ ns) zero h l = refl
packet_among (f ∷ fs) (n ∷ ns) (suc k) h l =
    ap (λ (xs : List ℕ). packet_bytes f n ++ xs) (packet_among fs ns k (omega arith) (omega arith)) ∙ sym (append_assoc (packet_bytes f n) _ _)

-- whole records one after the other are written as they stand
pub packets_read : (bs : List ℕ) (k n : ℕ) → ((j : ℕ) → get_or bs j 0 < 256) → ((j : ℕ) → j < k + n → is_kind packets_kind (record_at bs (packet_offset bs j)) ≡ true)
    → packets_bytes (from k n (packet_flow bs)) (from k n (packet_number bs)) ≡ take (packets_length * n) (drop (packet_offset bs k) bs)
unfolding packets_bytes from
packets_read bs k zero small whole = refl
packets_read bs k (suc n) small whole =
    let next : packet_offset bs (suc k) ≡ packet_offset bs k + packets_length = omega arith in
    let bytes : packets_length + packets_length * n ≡ packets_length * suc n = omega arith in
    ap₂ {C = List ℕ} ◌++◌ (packet_read bs (packet_offset bs k) small (whole k (omega arith)))
    (packets_read bs (suc k) n small (λ j l. whole j (omega arith)) ∙ ap (λ (i : ℕ). take (packets_length * n) (drop i bs)) next ∙ ap (take (packets_length * n)) (sym (drop-drop packets_length (packet_offset bs k) bs)))
    ∙ sym (take-add packets_length (packets_length * n) (drop (packet_offset bs k) bs)) ∙ ap (λ (i : ℕ). take i (drop (packet_offset bs k) bs)) bytes
