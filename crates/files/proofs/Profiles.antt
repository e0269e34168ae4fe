-- The head of each profile: its bytes, and how long it is.
use mathlib.Core.Path.{◌≡◌, refl}
use mathlib.Core.Bool.{true, false}
use mathlib.Core.List.{List, ◌++◌, append-nil}
use Prim.Native.Nat.{ℕ, ◌≤◌}
use native.Mathlib.Omega.{arith}
use Rattle.std.proofs.Common.{rules}
use lib.ListN.{get_or, length}
use Rattle.params.specs.declared.params.Params.{Params}
use Rattle.params.specs.Params.{fingerprinted}
use Rattle.files.specs.Bytes.{word_bytes}
use Rattle.files.specs.Records.{record_length, head_length_in, head_kind, extended_head_kind}
use Rattle.files.specs.Heads.{head_kind_of, head_length_of}
use Rattle.files.specs.Layout.{arrays_bytes, head_bytes}

module _ (P : Params) where
  pub length_arrays_bytes : (k : ℕ) → length (arrays_bytes k P) ≡ record_length head_kind
  unfolding arrays_bytes word_bytes
  length_arrays_bytes k = refl

  -- with fingerprints the fifth pair follows
  module _ (printed : fingerprinted P ≡ true) where
    pub extended_kind : head_kind_of P ≡ extended_head_kind
    extended_kind = rw printed

    pub extended_length : head_length_of P ≡ record_length extended_head_kind
    extended_length = rw printed

    pub extended_bytes : head_bytes P ≡ arrays_bytes (head_kind_of P) P ++ (word_bytes P.a5 ++ word_bytes P.b5)
    unfolding head_bytes
    extended_bytes = rw printed

  -- and nothing in the plain profile
  module _ (plain : fingerprinted P ≡ false) where
    pub plain_kind : head_kind_of P ≡ head_kind
    plain_kind = rw plain

    pub plain_length : head_length_of P ≡ record_length head_kind
    plain_length = rw plain

    pub plain_bytes : head_bytes P ≡ arrays_bytes (head_kind_of P) P
    unfolding head_bytes
    plain_bytes = rw (plain, append-nil (arrays_bytes head_kind P))

  -- a written head is as long as its profile says
  pub length_head_bytes : length (head_bytes P) ≡ head_length_of P
  unfolding head_bytes arrays_bytes word_bytes
  length_head_bytes = search rules

  -- five pairs at the most
  pub length_most : head_length_of P ≤ record_length extended_head_kind
  length_most = grind arith

-- a head of the profile's kind is as long as the profile says
pub kind_long : (P : Params) (bs : List ℕ) → get_or bs 0 0 ≡ head_kind_of P → head_length_in bs ≡ head_length_of P
unfolding head_length_in
kind_long P bs e = search rules
