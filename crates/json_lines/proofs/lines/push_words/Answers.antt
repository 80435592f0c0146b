use Rattle.std.proofs.Common.{◌≡◌, ◌+◌, ◌++◌, ◌<◌, List, ℕ, ap, ◌∙◌, drop, length, arith, subst}
use Rattle.std.specs.Prelude.{OnOk}
use Rattle.std.proofs.lemmas.List.{take_rest}
use Rattle.json_lines.specs.Lines.{facts_json, keyed_json, texts}
use Rattle.json_lines.proofs.Slices.{word_goes, words_end}
use Rattle.json_lines.proofs.lines.push_words.Goals as goal

pub loop-i-preserved : goal.loop-i-preserved
loop-i-preserved c =
    let k : c.loop-i.i < length c.args.keys.now = omega (arith, c.min-known.ensures) in
    let w : c.loop-i.i < length c.args.words.now = omega (arith, c.min-known.ensures) in
    ap (λ (l : List ℕ). l ++ keyed_json (texts (drop (c.loop-i.i + 1) c.args.keys.now)) (texts (drop (c.loop-i.i + 1) c.args.words.now))) c.in_ok-push_keyed_word.ensures
    ∙ word_goes c.loop-i.text.items _ c.args.keys.now c.args.words.now c.loop-i.i k w c.loop-i.invariant

pub returns : goal.returns
returns c =
    let P : List ℕ → Type 0 = λ l. OnOk c.push_facts.result (c.push_facts.new.text.items ≡ l) in
    subst P (ap (λ ws. c.loop-i.text.items ++ facts_json (texts ws)) (take_rest c.args.words.now c.min-known.result)
    ∙ words_end c.loop-i.text.items _ c.args.keys.now c.args.words.now c.loop-i.i c.min-known.result c.min-known.ensures c.loop-i-test.false c.loop-i.auto.i-end c.loop-i.invariant) c.push_facts.ensures
