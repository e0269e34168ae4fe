-- `files::writing::put_head` meets its contract: four pairs, and in an extended head the fifth.
use Rattle.std.proofs.Common.{rules}
use native.Mathlib.Omega.{arith}
use Rattle.files.specs.Writing.{written}
use Rattle.files.proofs.Profiles.{length_arrays_bytes, length_head_bytes, extended_bytes, plain_bytes}
use Rattle.files.proofs.Overwriting.{overwritten_then}
use Rattle.files.proofs.writing.put_head.Goals as goal

pub returns-then-out-head_length : goal.returns-then-out-head_length
unfolding written
returns-then-out-head_length c = search (rules, length_head_bytes)

pub returns-then-fingerprinted : goal.returns-then-fingerprinted
unfolding written
returns-then-fingerprinted c = grind (arith, length_head_bytes, length_arrays_bytes, extended_bytes, overwritten_then)

pub returns-else-fingerprinted : goal.returns-else-fingerprinted
unfolding written
returns-else-fingerprinted c = grind (arith, length_head_bytes, plain_bytes)
