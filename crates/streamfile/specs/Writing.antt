-- A stream file written from flows and numbers.
use Rattle.std.specs.Prelude.{◌≡◌, Bool, not, ◌&&◌, List, [], ◌∷◌, ◌++◌, ℕ, eqb, leb, ltb, length, get_or}
use Rattle.params.specs.declared.params.Params.{Params}
use Rattle.params.specs.declared.answers.Refusal.TheVariants.{Param, Length, Flow, Count}
use Rattle.params.specs.Lists.{below}
use Rattle.params.specs.Answers.{refuse_if, kept, Answer, Done, Given, given}
use Rattle.params.specs.Params.{is_flow, good_params}
use Rattle.buckets.specs.Buckets.{is_number}
use Rattle.files.specs.Bytes.{overwritten}
use Rattle.files.specs.Layout.{head_bytes, packet_bytes, end_bytes}

-- the packet records of the flows fs, by the numbers ns
unfoldable pub packets_bytes : List ℕ → List ℕ → List ℕ
packets_bytes [] ns = []
packets_bytes (f ∷ fs) [] = []
packets_bytes (f ∷ fs) (n ∷ ns) = packet_bytes f n ++ packets_bytes fs ns

unfoldable pub stream_bytes : Params → List ℕ → List ℕ → List ℕ
stream_bytes P fs ns = head_bytes P ++ (packets_bytes fs ns ++ end_bytes (length fs))

-- the k-th flow is one, and the k-th number is one of packets
unfoldable pub is_flow_at : Params → List ℕ → ℕ → Bool
is_flow_at P fs k = is_flow P (get_or fs k 0)

unfoldable pub is_number_at : List ℕ → ℕ → Bool
is_number_at ns k = is_number (get_or ns k 0)

-- the parameters, the lengths of the lists and of the output, o, then all flows and all numbers
unfoldable pub stream_write_answer : Params → List ℕ → List ℕ → ℕ → Answer
stream_write_answer P fs ns o =
    refuse_if (not (good_params P)) Param 0
    (refuse_if (not (eqb (length fs) (length ns) && leb (length fs) 65536)) Length 0
    (refuse_if (ltb o (length (stream_bytes P fs ns))) Length 0
    (refuse_if (not (below (length fs) (is_flow_at P fs))) Flow 0
    (refuse_if (not (below (length ns) (is_number_at ns))) Count 0
    Done))))

pub record StreamWritten (P : Params) (fs ns out : List ℕ) (r : Given ℕ) (out' : List ℕ) : Type 0 where
  pub answer : r ≡ given (stream_write_answer P fs ns (length out)) (length (stream_bytes P fs ns))
  pub bytes : out' ≡ kept (stream_write_answer P fs ns (length out)) out (overwritten out 0 (stream_bytes P fs ns))
