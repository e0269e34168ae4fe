-- `files::writing::put_word` meets its contract: a number below 2 ^ 32 has a highest byte that the specification does not take modulo 256.
use Rattle.std.proofs.Common.{◌≡◌, ◌/◌, ◌%◌, arith}
use Rattle.files.specs.Bytes.{word_bytes}
use Rattle.files.proofs.Overwriting.{overwritten_part}
use Rattle.files.proofs.writing.put_word.Goals as goal

pub returns : goal.returns
unfolding word_bytes
returns c =
    let high : c.args.n / 16777216 % 256 ≡ c.args.n / 16777216 = omega arith in
    overwritten_part _ (word_bytes c.args.n) _ _ _ (cc) (omega arith)
