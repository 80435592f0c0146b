use Rattle.std.proofs.Common.{◌≡◌, ◌-◌, length, sym, ap, ◌∙◌, take, arith}
use Rattle.std.proofs.lemmas.List.{length-map, take-map}
use Rattle.report_diff.specs.Lines.{texts}
use Rattle.report_diff.proofs.Reports.{now}
use Rattle.report_diff.proofs.cutting.whole.Goals as goal

pub returns : goal.returns
returns c =
    let all = c.args.text.now in
    let count : c.saturating_sub.result ≡ length (texts all) - 1 = omega (arith, c.saturating_sub.ensures, length-map all now) in
    sym (take-map now c.saturating_sub.result all) ∙ ap (λ n. take n (texts all)) count
