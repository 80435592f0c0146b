use Rattle.std.proofs.Common.{◌++◌, [], ℕ, List, ap, sym, ◌∙◌, append-nil}
use Rattle.json_lines.specs.Lines.{json_lines}
use Rattle.json_lines.proofs.stream.json_of.Goals as goal

pub returns : goal.returns
returns c =
    c.in_ok-end.ensures ∙ ap (λ (l : List ℕ). c.push.new.json.items ++ json_lines l) (sym (append-nil c.push.new.self.line.items)) ∙ sym (c.in_ok-push.ensures [])
    ∙ ap (λ (l : List ℕ). l ++ json_lines (c.new-lines.result.line.items ++ (c.args.text.now ++ []))) c.new-json.ensures.items
    ∙ ap (λ (l : List ℕ). json_lines (l ++ (c.args.text.now ++ []))) c.new-lines.ensures ∙ ap json_lines (append-nil c.args.text.now)
