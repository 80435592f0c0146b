use Rattle.std.proofs.Common.{◌∙◌}
use Rattle.depend_report.proofs.ToldLemmas.{told_grows}
use Rattle.depend_report.proofs.lines.DependsText.push_place.Goals as goal

pub returns : goal.returns
returns c = λ places is.
    told_grows c.args.trace.now places c.args.place.now (record { text = c.self.inside.text.items; spans = c.self.inside.spans; loads = c.self.inside.loads; pairs = c.self.inside.pairs; bytes = c.self.inside.bytes }) c.len.result c.as_slice-waits.result.now c.from.result
    c.push_lines.new.text.items c.push.new.self c.push-2.new.self (c.self.view_is ∙ is) c.len.ensures c.as_slice-waits.ensures c.from.ensures c.in_ok-push_lines.ensures c.in_ok-push.ensures.ok c.in_ok-push-2.ensures.ok
