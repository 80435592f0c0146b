use Rattle.std.proofs.Common.{◌≡◌, ◌-◌, ap, length, take, drop, ◌∙◌}
use Rattle.std.specs.Prelude.{IfErr, IfOk}
use Rattle.std.proofs.lemmas.List.{take_rest}
use Rattle.report_diff.specs.Inputs.{ComparesLines, TellsOfLines, first_text, second_text}
use Rattle.report_diff.specs.Lines.{texts}
use Rattle.report_diff.proofs.Reports.{first_text_is, of_same, second_text_is}
use Rattle.report_diff.proofs.comparing.compare.Goals as goal

pub returns-clause-ok : goal.returns-clause-ok
returns-clause-ok c =
    let all = c.as_slice-lines.result.now in
    let same = ap texts c.as_slice-lines.ensures.value ∙ c.in_ok-lines.ensures in
    let first : texts (take c.min-second.result all) ≡ first_text c.args.input.now = first_text_is c.args.input.now all c.end_of.result c.min-second.result same c.end_of.ensures.place c.min-second.ensures in
    let second : texts (take (length all - c.min-second.result) (drop c.min-second.result all)) ≡ second_text c.args.input.now = ap texts (take_rest all c.min-second.result) ∙ second_text_is c.args.input.now all c.end_of.result c.min-second.result same c.end_of.ensures.place c.min-second.ensures in
    of_same (λ a b. IfOk c.compare_lines.result (ComparesLines c.args.terms a b)) first second c.compare_lines.ensures.ok

pub returns-clause-err : goal.returns-clause-err
returns-clause-err c =
    let all = c.as_slice-lines.result.now in
    let same = ap texts c.as_slice-lines.ensures.value ∙ c.in_ok-lines.ensures in
    let first : texts (take c.min-second.result all) ≡ first_text c.args.input.now = first_text_is c.args.input.now all c.end_of.result c.min-second.result same c.end_of.ensures.place c.min-second.ensures in
    let second : texts (take (length all - c.min-second.result) (drop c.min-second.result all)) ≡ second_text c.args.input.now = ap texts (take_rest all c.min-second.result) ∙ second_text_is c.args.input.now all c.end_of.result c.min-second.result same c.end_of.ensures.place c.min-second.ensures in
    of_same (λ a b. IfErr c.compare_lines.result (TellsOfLines c.args.terms a b)) first second c.compare_lines.ensures.err
