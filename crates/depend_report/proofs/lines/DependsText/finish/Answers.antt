use Rattle.std.proofs.Common.{◌∙◌, ◌++◌, ap, codes}
use Rattle.depend_report.specs.Told as told
use Rattle.depend_report.proofs.ToldLemmas.{told_whole}
use Rattle.depend_report.proofs.lines.DependsText.finish.Goals as goal

pub returns : goal.returns
returns c = λ trace places is.
    let inside = c.self.inside in
    let ending = c.as_bytes.ensures.value ∙ c.in_ok-push_summary.ensures ∙ ap (λ xs. xs ++ told.ending inside.spans inside.loads inside.pairs inside.bytes) c.new-ending.ensures.bytes in
    told_whole trace places (record { text = inside.text.items; spans = inside.spans; loads = inside.loads; pairs = inside.pairs; bytes = inside.bytes }) c.push_bytes-2.new.text.items (c.self.view_is ∙ is)
    (c.in_ok-push_bytes-2.ensures ∙ ap (λ text. text ++ codes "end\n") (c.in_ok-push_bytes.ensures ∙ ap (λ xs. inside.text.items ++ xs) ending))
