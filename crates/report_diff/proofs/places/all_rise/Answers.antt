use Rattle.std.proofs.Common.{◌+◌, ◌++◌, ℕ, List, get_or, take, drop, refl, ap, ◌∙◌, append_assoc}
use Rattle.std.specs.Option.{option_map}
use Rattle.std.proofs.lemmas.List.{append-nil, length-append}
use Rattle.report_diff.specs.Lines.{first_behind, texts}
use Rattle.report_diff.specs.Refusals.{order_text, shown_subject}
use Rattle.report_diff.specs.Places.{falls}
use Rattle.report_diff.proofs.FirstLemmas.{found_on, none_on}
use Rattle.report_diff.proofs.Slices.{no_slice, texts_more, texts_split, length_texts}
use Rattle.report_diff.proofs.places.all_rise.Goals as goal

pub loop-place-init : goal.loop-place-init
loop-place-init c = λ earlier passed. record { next = rw append-nil passed.rises; none = refl }

pub returns-in-None-clause-err : goal.returns-in-None-clause-err
returns-in-None-clause-err c = λ earlier passed.
    let all = c.args.report.now in
    let place = c.loop-place.place in
    let text = texts (take place all) in
    let line = (get_or all place no_slice).now in
    let known = c.loop-place.invariant earlier passed in
    let found = found_on falls earlier text (texts (drop (place + 1) all)) line known.none (c.in-None.ensures (earlier ++ text) known.next) in
    ap (option_map (λ (found : ℕ × List ℕ). order_text c.args.side found.0 (shown_subject found.1)))
    (ap (first_behind falls earlier) (texts_split all place c.loop-place-test.true) ∙ found)
    ∙ rw (length-append, length_texts all place c.loop-place-test.true, passed.lines, c.shown.ensures, c.subject.ensures) refl

pub loop-place-preserved : goal.loop-place-preserved
loop-place-preserved c = λ earlier passed.
    let text = texts (take c.loop-place.place c.args.report.now) in
    let line = (get_or c.args.report.now c.loop-place.place no_slice).now in
    let known = c.loop-place.invariant earlier passed in
    let follows = c.in-Some.ensures (earlier ++ text) known.next in
    rw (texts_more c.args.report.now c.loop-place.place c.loop-place-test.true) record {
      next = rw append_assoc at follows.1;
      none = none_on falls earlier text line known.none follows.0;
    }
