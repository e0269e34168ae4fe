-- `streamfile::writing::all_numbers` meets its contract.
use Rattle.std.proofs.Common.{rules, ◌∙◌}
use borrow.Author.Tests.{tests}
use Rattle.std.proofs.lemmas.Iterator.{YieldsList-from_slice}
use Rattle.std.proofs.lemmas.Iterator.Search.{all_from_yields_List}
use Rattle.buckets.specs.Buckets.{is_number}
use Rattle.streamfile.specs.Writing.{is_number_at}
use Rattle.streamfile.proofs.Written.{all_below_length}
use Rattle.streamfile.proofs.writing.all_numbers.Goals as goal

pub returns : goal.returns
unfolding is_number_at
returns c =
    let ns = c.args.numbers.now in
    all_from_yields_List is_number _ _ _ c.all.ensures.ran (YieldsList-from_slice ns cc) (λ x b q k. search (rules, tests)) ∙ all_below_length is_number ns
