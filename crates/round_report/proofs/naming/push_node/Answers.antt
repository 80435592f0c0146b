use Rattle.std.proofs.Common.{◌∙◌, ◌++◌, ap}
use Rattle.std.proofs.lemmas.Result.{on_ok_weaker}
use Rattle.round_report.proofs.TextLemmas.{made_node}
use Rattle.round_report.proofs.naming.push_node.Goals as goal

pub returns-in-None : goal.returns-in-None
returns-in-None c =
    let name = made_node c.args.trace.now c.args.node c.in-Some.index c.as_slice-items.result.now c.in-Some.ensures.0 c.in-Some.ensures.1 c.as_slice-items.ensures c.in-None.ensures.lookup.3 in
    on_ok_weaker c.push_numbered.result (λ e. e ∙ ap (λ text. c.args.text.now.items ++ text) name) c.push_numbered.ensures
