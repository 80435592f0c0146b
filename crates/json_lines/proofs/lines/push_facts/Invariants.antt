use Rattle.std.proofs.Common.{◌≡◌, ◌++◌, drop}
use Rattle.json_lines.specs.Lines.{facts_json, texts}
use Rattle.json_lines.proofs.lines.push_facts.Given as goal

abbrev pub invariant-loop-i : goal.invariant-loop-i
invariant-loop-i l = l.text.items ++ facts_json (texts (drop l.i l.words)) ≡ l.initial.text.items ++ facts_json (texts l.words)
