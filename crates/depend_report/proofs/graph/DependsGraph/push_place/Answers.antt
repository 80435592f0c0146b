use Rattle.std.proofs.Common.{◌∙◌}
use Rattle.depend_report.proofs.ToldLemmas.{drawn_grows}
use Rattle.depend_report.proofs.graph.DependsGraph.push_place.Goals as goal

pub returns : goal.returns
returns c = λ places is.
    drawn_grows c.args.trace.now places c.args.place.now (record { text = c.self.inside.text.items; places = c.self.inside.places }) c.as_slice-waits.result.now c.push_node.new.text.items (c.self.view_is ∙ is) c.as_slice-waits.ensures c.in_ok-push_node.ensures
