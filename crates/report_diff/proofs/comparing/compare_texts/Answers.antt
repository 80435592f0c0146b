use Rattle.std.proofs.Common.{[], refl, sym, ◌∙◌}
use Rattle.report_diff.specs.Inputs.{found_of_texts, refusal_of_texts}
use Rattle.report_diff.specs.Lines.{texts}
use Rattle.report_diff.proofs.CutLemmas.{ends_are}
use Rattle.report_diff.proofs.comparing.compare_texts.Goals as goal

pub returns-clause-ok : goal.returns-clause-ok
unfolding refusal_of_texts found_of_texts
returns-clause-ok c =
    let compared = c.in_ok-compared.ensures _ _ [] [] c.in_ok-one-2.ensures.index c.in_ok-other-2.ensures.index record { counts = c.nothing.ensures.counts; text = sym c.nothing.ensures.text } in
    let ends = ends_are c.args.cut c.in_ok-one-2.one c.in_ok-other-2.other (texts c.in_ok-one.one.now) (texts c.in_ok-other.other.now)
    (c.in_ok-one-2.ensures.end ∙ c.entries_end.ensures) (c.in_ok-other-2.ensures.end ∙ c.entries_end-2.ensures) in
    record {
      reports = rw (c.in_ok-one.ensures.whole, c.in_ok-other.ensures.whole, c.in_ok-of_one_version.ensures.ok, ← c.in_ok-one.ensures.report, ← c.in_ok-other.ensures.report, c.in_ok-one-2.ensures.agrees, c.in_ok-other-2.ensures.agrees) refl;
      text = rw (← c.in_ok-one.ensures.report, ← c.in_ok-other.ensures.report, ← ends) compared.text;
      passes = rw (← c.in_ok-one.ensures.report, ← c.in_ok-other.ensures.report, ← ends) compared.passes;
    }
