use Rattle.std.proofs.Common.{◌≡◌, sym, true, get_or, ◌∙◌, refl}
use Rattle.std.specs.List.{list_any}
use Rattle.std.specs.Str.{bytes_eq}
use Rattle.std.proofs.lemmas.List.Folds.{list_all-append}
use Rattle.report_diff.proofs.Slices.{no_slice, some_fails, texts_more}
use Rattle.report_diff.proofs.known.Known.has_all.Goals as goal

pub returns-then-not-contains : goal.returns-then-not-contains
returns-then-not-contains c = λ facts known. sym (some_fails (λ fact. list_any (bytes_eq fact) facts) c.args.others.now c.loop-fact.fact-index c.loop-fact-test.true
    (sym (known.facts (get_or c.args.others.now c.loop-fact.fact-index no_slice).now) ∙ sym c.contains.ensures ∙ c.if-not-contains.true))

pub loop-fact-preserved : goal.loop-fact-preserved
loop-fact-preserved c = λ facts known.
    let fact = (get_or c.args.others.now c.loop-fact.fact-index no_slice).now in
    let here : list_any (bytes_eq fact) facts ≡ true = sym (known.facts fact) ∙ sym c.contains.ensures ∙ c.if-not-contains.false in
    rw (texts_more c.args.others.now c.loop-fact.fact-index c.loop-fact-test.true, list_all-append, c.loop-fact.invariant facts known, here) refl
