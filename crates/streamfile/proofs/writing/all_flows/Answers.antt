-- `streamfile::writing::all_flows` meets its contract.
use Rattle.std.proofs.Common.{rules, ◌∙◌}
use borrow.Author.Tests.{tests}
use Rattle.std.proofs.lemmas.Iterator.{YieldsList-from_slice}
use Rattle.std.proofs.lemmas.Iterator.Search.{all_from_yields_List}
use Rattle.params.specs.Params.{is_flow}
use Rattle.streamfile.specs.Writing.{is_flow_at}
use Rattle.streamfile.proofs.Written.{all_below_length}
use Rattle.streamfile.proofs.writing.all_flows.Goals as goal

pub returns : goal.returns
unfolding is_flow_at
returns c =
    let fs = c.args.flows.now in
    all_from_yields_List (is_flow c.args.p) _ _ _ c.all.ensures.ran (YieldsList-from_slice fs cc) (λ x b q k. search (rules, tests)) ∙ all_below_length (is_flow c.args.p) fs
