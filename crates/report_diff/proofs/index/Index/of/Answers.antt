use Rattle.std.proofs.Common.{◌≡◌, ◌+◌, ℕ, false, true, List, get_or, take, drop, refl, sym, ap, ◌∙◌}
use Rattle.std.specs.Option.{option_map}
use Rattle.report_diff.specs.Lines.{line_about, texts}
use Rattle.report_diff.specs.Merging.{further}
use Rattle.report_diff.specs.Refusals.{otherwise_text, shown_subject}
use Rattle.report_diff.specs.Repeats.{once, otherwise, says_otherwise}
use Rattle.report_diff.proofs.Slices.{no_slice, texts_more, texts_split, length_texts}
use Rattle.report_diff.proofs.FirstLemmas.{first_found, none_more}
use Rattle.report_diff.proofs.RepeatLemmas.{says_other, says_same}
use Rattle.report_diff.proofs.index.Index.of.Goals as goal

pub loop-place-init : goal.loop-place-init
unfolding line_about once otherwise
loop-place-init c = record { index = record { known = λ about. rw c.new.ensures.empty refl; once = rw c.new-2.ensures.items refl }; end = refl; agrees = refl }

pub returns-then-not-branch-clause-err : goal.returns-then-not-branch-clause-err
unfolding otherwise
returns-then-not-branch-clause-err c =
    let all = c.args.lines.now in
    let place = c.loop-place.place in
    let text = texts (take place all) in
    let line = (get_or all place no_slice).now in
    let other : says_otherwise text line ≡ true = says_other _ (sym c.if-not-branch.true ∙ c.in_ok-add.ensures.agrees text c.loop-place.invariant.index) in
    let found = first_found says_otherwise text (texts (drop (place + 1) all)) line c.loop-place.invariant.agrees other in
    ap (option_map (λ (found : ℕ × List ℕ). otherwise_text c.args.side found.0 (shown_subject found.1)))
    (ap (further c.args.skipped) (ap otherwise (texts_split all place c.loop-place-test.true) ∙ found))
    ∙ rw (length_texts all place c.loop-place-test.true, c.shown.ensures, c.subject.ensures) refl

pub loop-place-preserved : goal.loop-place-preserved
unfolding otherwise
loop-place-preserved c =
    let text = texts (take c.loop-place.place c.args.lines.now) in
    let line = (get_or c.args.lines.now c.loop-place.place no_slice).now in
    let same : says_otherwise text line ≡ false = says_same _ (sym c.if-not-branch.false ∙ c.in_ok-add.ensures.agrees text c.loop-place.invariant.index) in
    rw (texts_more c.args.lines.now c.loop-place.place c.loop-place-test.true) record {
      index = c.in_ok-add.ensures.index text c.loop-place.invariant.index;
      end = c.in_ok-add.ensures.end ∙ c.loop-place.invariant.end;
      agrees = none_more says_otherwise text line c.loop-place.invariant.agrees same;
    }
