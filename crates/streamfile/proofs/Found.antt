-- What a reader of packets finds at an offset, and the flows and numbers of all that stand one after the other.
use mathlib.Core.Path.{◌≡◌, refl, sym, ap, ◌∙◌}
use mathlib.Core.Bool.{Bool, true, false, cond}
use mathlib.Core.List.{List}
use Prim.Native.Nat.{ℕ, ◌+◌, ◌≤◌, ◌<◌}
use native.Mathlib.Omega.{arith}
use lib.ListN.{length, get_or}
use Rattle.sketch.proofs.Tables.{length_from, from_at}
use Rattle.files.specs.Bytes.{word}
use Rattle.files.specs.Records.{record_at, is_kind, packets_kind, packets_length}
use Rattle.files.specs.Layout.{packets_at}
use Rattle.files.specs.Turns.{packet_from}
use Rattle.files.specs.Fields.{flow_field, number_field}
use Rattle.files.proofs.Standing.{kind_ends}
use Rattle.files.proofs.Bodies.{packets_fields}
use Rattle.files.proofs.Turning.{whole_within}
use Rattle.streamfile.specs.Streams.{packets_from, flow_from, number_from, flows_from, numbers_from}
use Rattle.std.specs.Prelude.{None, Option, Some}

pub record There (bs : List ℕ) (at f n : ℕ) : Type 0 where
  pub whole : is_kind packets_kind (record_at bs at) ≡ true
  pub flow : f ≡ word bs (at + flow_field)
  pub number : n ≡ word bs (at + number_field)

-- the flow and the number of such a record
abbrev fields : List ℕ → ℕ → ℕ × ℕ
fields bs at = (word bs (at + flow_field), word bs (at + number_field))

pub packets_there : (bs : List ℕ) (at f n : ℕ) → packets_at bs at ≡ Some (f, n) → There bs at f n
packets_there bs at f n e = go (is_kind packets_kind (record_at bs at)) refl (sym (packets_fields bs at) ∙ e)
  where
    go : (b : Bool) → is_kind packets_kind (record_at bs at) ≡ b → cond b (Some (fields bs at)) None ≡ Some (f, n) → There bs at f n
    go true e q = let same : fields bs at ≡ (f, n) = cc in record { whole = e; flow = ap (λ (x : ℕ × ℕ). x.0) (sym same); number = ap (λ (x : ℕ × ℕ). x.1) (sym same) }
    go false e q = absurd (let w : ◌≡◌ {A = ℕ} 0 1 = cc in omega arith)

pub packets_not_there : (r : Option (ℕ × ℕ)) (bs : List ℕ) (at : ℕ) → r ≡ packets_at bs at → r ≡ None → is_kind packets_kind (record_at bs at) ≡ false
packets_not_there r bs at e h = go (is_kind packets_kind (record_at bs at)) (sym (packets_fields bs at) ∙ sym e ∙ h)
  where
    go : (b : Bool) → cond b (Some (fields bs at)) None ≡ None → b ≡ false
    go true q = cc
    go false q = refl

-- packet records from an offset on: each lies within the bytes, and the lists of flows and numbers have their fields
module _ (o : ℕ) (bs : List ℕ) where
  pub packet_within : (i : ℕ) → i < packets_from o bs → packet_from o i + packets_length ≤ length bs
  packet_within i l = omega (arith, kind_ends packets_kind bs (packet_from o i) (whole_within packets_kind (packet_from o) bs i l))

  pub length_flows : length (flows_from o bs) ≡ packets_from o bs
  unfolding flows_from
  length_flows = length_from 0 (packets_from o bs) (flow_from o bs)

  pub length_numbers : length (numbers_from o bs) ≡ packets_from o bs
  unfolding numbers_from
  length_numbers = length_from 0 (packets_from o bs) (number_from o bs)

  pub flow_is : (i : ℕ) → i < packets_from o bs → flow_from o bs i ≡ get_or (flows_from o bs) i 0
  unfolding flows_from
  flow_is i l = sym (from_at (packets_from o bs) (flow_from o bs) i 0 l)

  pub number_is : (i : ℕ) → i < packets_from o bs → number_from o bs i ≡ get_or (numbers_from o bs) i 0
  unfolding numbers_from
  number_is i l = sym (from_at (packets_from o bs) (number_from o bs) i 0 l)
