use Rattle.std.proofs.Common.{◌+◌, ◌++◌, List, ℕ, ap, sym, ◌∙◌, drop}
use Rattle.json_lines.specs.Lines.{facts_json, texts}
use Rattle.json_lines.proofs.Slices.{fact_goes}
use Rattle.json_lines.proofs.lines.push_facts.Goals as goal

pub loop-i-preserved : goal.loop-i-preserved
loop-i-preserved c =
    ap (λ (l : List ℕ). l ++ facts_json (texts (drop (c.loop-i.i + 1) c.args.words.now))) c.in_ok-push_fact.ensures
    ∙ fact_goes c.loop-i.text.items _ c.args.words.now c.loop-i.i c.loop-i-test.true (sym c.is_on.ensures ∙ c.if-is_on.false) c.loop-i.invariant
