use Rattle.std.proofs.Common.{◌≡◌, ◌++◌, drop}
use Rattle.json_lines.specs.Lines.{keyed_json, texts}
use Rattle.json_lines.proofs.lines.push_words.Given as goal

abbrev pub invariant-loop-i : goal.invariant-loop-i
invariant-loop-i l = l.text.items ++ keyed_json (texts (drop l.i l.keys)) (texts (drop l.i l.words)) ≡ l.initial.text.items ++ keyed_json (texts l.keys) (texts l.words)
