use Rattle.std.proofs.Common.{◌∙◌, ◌++◌, ap, ap₂, codes}
use Rattle.std.proofs.lemmas.Result.{on_ok_weaker}
use Rattle.std.specs.Fmt.{decimal}
use Rattle.world_parts.specs.Uses.{item_meant}
use Rattle.round_report.specs.Naming.{item_text}
use Rattle.round_report.specs.Rounds.{quoted}
use Rattle.round_report.proofs.TextLemmas.{arrow_pieces}
use Rattle.round_report.proofs.graph.push_arrow_line.Goals as goal

pub returns : goal.returns
returns c =
    let text = c.args.text.now.items in
    let name = c.as_slice.ensures.value ∙ c.in_ok-push_item.ensures ∙ ap (λ xs. xs ++ item_text c.args.trace.now (item_meant c.args.item.now)) c.new-name.ensures.items in
    let head = c.in_ok-push_bytes.ensures ∙ ap (λ xs. text ++ xs) (c.as_bytes.ensures.value ∙ c.in_ok-head.ensures.ok) in
    let label = c.in_ok-push_quoted.ensures ∙ ap₂ (λ xs label. xs ++ label) head (ap quoted name) in
    on_ok_weaker c.push_bytes-2.result (λ e. e ∙ ap (λ xs. xs ++ codes "\"];\n") label
    ∙ arrow_pieces text (codes "  ") (decimal c.args.earlier) (codes " -> ") (decimal c.args.place) (codes " [label=\"") _ (codes "\"];")) c.push_bytes-2.ensures
