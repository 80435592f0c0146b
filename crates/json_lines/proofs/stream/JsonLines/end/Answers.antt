use Rattle.std.proofs.Common.{◌≡◌, ◌++◌, ℕ, List, ap, sym, subst, ◌∙◌}
use Rattle.std.specs.Prelude.{OnOk}
use Rattle.json_lines.specs.Lines.{json_line}
use Rattle.json_lines.proofs.Feed.{last_line}
use Rattle.json_lines.proofs.stream.JsonLines.end.Goals as goal

pub returns : goal.returns
returns c =
    let P : List ℕ → Type 0 = λ l. OnOk c.push_line.result (c.push_line.new.text.items ≡ c.args.json.now.items ++ l) in
    subst P (ap json_line c.as_slice.ensures.value ∙ sym (last_line c.args.self.line.items c.args.self.unbroken)) c.push_line.ensures
