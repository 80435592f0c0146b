use Rattle.std.proofs.Common.{◌≡◌, ◌<◌, ◌++◌, length, take, ◌+◌, Some, ◌∙◌, refl, arith, rules}
use Rattle.std.proofs.lemmas.List.{take_rest}
use Rattle.report_diff.specs.Inputs.{flaw_behind}
use Rattle.report_diff.specs.Lines.{texts}
use Rattle.report_diff.specs.Merging.{order_behind}
use Rattle.report_diff.proofs.Reports.{flaw_is, lacks_end, report_is}
use Rattle.report_diff.proofs.comparing.body_in.Goals as goal

pub returns-then-end-text-clause-err : goal.returns-then-end-text-clause-err
returns-then-end-text-clause-err c = λ earlier known.
    lacks_end c.args.side c.args.version c.args.passed earlier c.args.text.now c.end_of-end.result known c.end_of-end.ensures.place c.if-end-text.true

pub returns-then-not-is_nothing-clause-err : goal.returns-then-not-is_nothing-clause-err
returns-then-not-is_nothing-clause-err c = λ earlier known.
    let all = c.args.text.now in
    let lt : c.end_of-end.result < length all = omega (arith, c.end_of-end.ensures.bound) in
    flaw_is c.args.side c.args.version c.args.passed earlier all c.end_of-end.result known c.end_of-end.ensures.place lt
    ∙ rw (← take_rest all (c.end_of-end.result + 1), ← c.is_nothing.ensures, c.if-not-is_nothing.true) refl

pub returns-clause-report : goal.returns-clause-report
returns-clause-report c = report_is c.args.text.now c.end_of-end.result c.end_of-end.ensures.place

pub returns-clause-whole : goal.returns-clause-whole
returns-clause-whole c = λ earlier known.
    let all = c.args.text.now in
    let lt : c.end_of-end.result < length all = omega (arith, c.end_of-end.ensures.bound) in
    flaw_is c.args.side c.args.version c.args.passed earlier all c.end_of-end.result known c.end_of-end.ensures.place lt
    ∙ rw (← take_rest all (c.end_of-end.result + 1), ← c.is_nothing.ensures, c.if-not-is_nothing.false) (c.in_ok-in_order.ensures.ok earlier known)

pub returns-in_err-in_order-clause-err : goal.returns-in_err-in_order-clause-err
returns-in_err-in_order-clause-err c = λ earlier known.
    let all = c.args.text.now in
    let lt : c.end_of-end.result < length all = omega (arith, c.end_of-end.ensures.bound) in
    let same = flaw_is c.args.side c.args.version c.args.passed earlier all c.end_of-end.result known c.end_of-end.ensures.place lt in
    let order : flaw_behind c.args.side (earlier ++ texts all) (Some c.args.version) ≡ order_behind c.args.side c.args.version earlier (texts (take c.end_of-end.result all)) =
    same ∙ rw (← take_rest all (c.end_of-end.result + 1), ← c.is_nothing.ensures, c.if-not-is_nothing.false) refl in
    search (rules, order ∙ c.in_err-in_order.ensures.err earlier known)
