use Rattle.std.proofs.Common.{◌≡◌, false, Ok, inl, inr, refl, sym, ap, subst, rules, ◌∙◌}
use Rattle.report_diff.specs.Merging.{IsAwaited}
use Rattle.diff_stream.specs.Steps.{HasLine}
use Rattle.diff_stream.proofs.FirstLines.{plain_line}
use Rattle.diff_stream.proofs.Standing.{came, level_of, second_passed, second_read, some_written, stops_none, takes_none}
use Rattle.diff_stream.proofs.merge.turn_of_second.Goals as goal

pub returns-in_err-has_line-clause-err : goal.returns-in_err-has_line-clause-err
returns-in_err-has_line-clause-err g c = λ terms l left r w at.
    search (rules, some_written c.args.form terms c.args.sides.now.first c.args.sides.now.second c.args.sides.now.merging l left left r _ _ w _ _ at (takes_none left) c.in_err-has_line.ensures.taken c.in_err-has_line.ensures.err)

pub returns-then-not-branch-clause-ok : goal.returns-then-not-branch-clause-ok
returns-then-not-branch-clause-ok g c = λ l left r w line at there known.
    let a = c.args.sides.now.first in
    let b = c.args.sides.now.second in
    let m = c.args.sides.now.merging in
    let moves = c.in_ok-has_line.ensures.moves in
    let last : HasLine false b c.has_line.new.side (g.S.Source.left c.args.second.now) (g.S.Source.left c.has_line.new.reader) = rw c.if-not-branch.true at c.in_ok-has_line.ensures.line in
    let is = second_read c.args.form a b m c.has_line.new.merging c.has_line.new.side l left r _ _ w _ _ at (came false b c.has_line.new.side _ _ last) moves in
    let level = level_of c.has_line.new.merging is.one is.other is.taken is.merges (moves.ahead ∙ c.requires.ahead) in
    record { is = is; ends = inr (inl (last.3, last.4), level, (line, there, subst (λ f. IsAwaited f line) (sym moves.from) known)) }

pub offer_second-requires-clause-unbroken : goal.offer_second-requires-clause-unbroken
offer_second-requires-clause-unbroken g c = plain_line c.has_line.new.side.lines c.in-Some.line.now (sym c.in-Some.ensures)

pub returns-in_err-offer_second-clause-err : goal.returns-in_err-offer_second-clause-err
returns-in_err-offer_second-clause-err g c = λ terms l left r w at.
    let a = c.args.sides.now.first in
    let b = c.args.sides.now.second in
    let m = c.args.sides.now.merging in
    let came_on = came c.in_ok-has_line.field-0 b c.has_line.new.side (g.S.Source.left c.args.second.now) (g.S.Source.left c.has_line.new.reader) c.in_ok-has_line.ensures.line in
    let is = second_read c.args.form a b m c.has_line.new.merging c.has_line.new.side l left r _ _ w _ _ at came_on c.in_ok-has_line.ensures.moves in
    search (rules, some_written c.args.form terms a c.has_line.new.side c.has_line.new.merging l left left r _ _ w _ _ is (takes_none left) (takes_none _) (stops_none c.args.form c.has_line.new.merging _))

pub returns-then-not-branch-2-clause-ok : goal.returns-then-not-branch-2-clause-ok
returns-then-not-branch-2-clause-ok g c = λ l left r w line at there known.
    let a = c.args.sides.now.first in
    let b = c.args.sides.now.second in
    let m = c.args.sides.now.merging in
    let moves = c.in_ok-has_line.ensures.moves in
    let came_on = came c.in_ok-has_line.field-0 b c.has_line.new.side (g.S.Source.left c.args.second.now) (g.S.Source.left c.has_line.new.reader) c.in_ok-has_line.ensures.line in
    let is = second_read c.args.form a b m c.has_line.new.merging c.has_line.new.side l left r _ _ w _ _ at came_on moves in
    let same : c.offer_second.new.self ≡ c.has_line.new.merging = c.in_ok-offer_second.ensures.same (ap Ok c.if-not-branch-2.true) in
    let follows = rw c.if-not-branch-2.true at (c.in_ok-offer_second.ensures.follows is.one is.other is.taken is.merges) in
    let level = level_of c.has_line.new.merging is.one is.other is.taken is.merges (moves.ahead ∙ c.requires.ahead) in
    rw same record { is = is; ends = inr (inr (c.in-Some.line.now, sym c.in-Some.ensures, follows.1), level, (line, there, subst (λ f. IsAwaited f line) (sym moves.from) known)) }

pub returns-clause-ok : goal.returns-clause-ok
returns-clause-ok g c = λ l left r w line at there known.
    let a = c.args.sides.now.first in
    let b = c.args.sides.now.second in
    let m = c.args.sides.now.merging in
    let came_on = came c.in_ok-has_line.field-0 b c.has_line.new.side (g.S.Source.left c.args.second.now) (g.S.Source.left c.has_line.new.reader) c.in_ok-has_line.ensures.line in
    let is = second_read c.args.form a b m c.has_line.new.merging c.has_line.new.side l left r _ _ w _ _ at came_on c.in_ok-has_line.ensures.moves in
    let follows = rw c.if-not-branch-2.false at (c.in_ok-offer_second.ensures.follows is.one is.other is.taken is.merges) in
    second_passed c.args.form a c.has_line.new.side c.has_line.new.merging c.offer_second.new.self _ l left r _ w _ c.in-Some.line.now is (sym c.in-Some.ensures) follows
    c.in_ok-offer_second.ensures.from c.in_ok-offer_second.ensures.first c.pass.ensures refl
