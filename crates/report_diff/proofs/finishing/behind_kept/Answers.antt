use Rattle.std.proofs.Common.{◌≡◌, ◌∷◌, ◌++◌, [], length, ap, ◌∙◌, arith, append_assoc}
use Rattle.std.proofs.lemmas.List.{map-append}
use Rattle.std.specs.Prelude.{ℕ, List}
use Rattle.std.specs.Borrow.{Bor}
use Rattle.report_diff.specs.Lines.{lines, texts}
use Rattle.report_diff.specs.Merging.{ahead_lines}
use Rattle.report_diff.proofs.MergeLemmas.{kept_count, lines_of, texts_kept}
use Rattle.report_diff.proofs.finishing.behind_kept.Goals as goal

pub returns : goal.returns
returns c = λ before kept none.
    let parts = c.in_ok-parts.parts.items in
    let now = λ (s : Bor (List ℕ)). s.now in
    let same : texts parts ≡ before ++ [] ∷ [] = c.in_ok-parts.ensures ∙ ap lines kept ∙ lines_of before none in
    let all = kept_count parts before same in
    let count : c.saturating_sub-count.result ≡ length before = omega (arith, c.saturating_sub-count.ensures, c.len.ensures, all) in
    let held : texts c.extend_from_slice.new.self.items ≡ before =
    rw (c.in_ok-extend_from_slice.ensures.items, c.new-all.ensures.items, c.deref.ensures.value) (texts_kept parts before c.saturating_sub-count.result same count) in
    let more : texts c.push_ahead.new.all.items ≡ before ++ ahead_lines c.args.ahead c.args.line.now =
    c.in_ok-push_ahead.ensures ∙ ap (λ x. x ++ ahead_lines c.args.ahead c.args.line.now) held in
    ap texts c.in_ok-extend_from_slice-2.ensures.items ∙ map-append now c.push_ahead.new.all.items c.args.report.now
    ∙ ap (λ x. x ++ texts c.args.report.now) more ∙ append_assoc before (ahead_lines c.args.ahead c.args.line.now) (texts c.args.report.now)
