use Rattle.std.proofs.Common.{◌≡◌, false, Some, Ok, inl, inr, refl, sym, ap, rules}
use Rattle.text_lines.specs.Lines.{first_line}
use Rattle.diff_stream.specs.Steps.{HasLine}
use Rattle.diff_stream.proofs.Standing.{awaits_line, came, first_passed, first_read, remains, some_written, stops_none, takes_none}
use Rattle.diff_stream.proofs.merge.turn.Goals as goal

pub returns-in_err-has_line-clause-err : goal.returns-in_err-has_line-clause-err
returns-in_err-has_line-clause-err g c = λ terms l r w at.
    search (rules, some_written c.args.form terms c.args.sides.now.first c.args.sides.now.second c.args.sides.now.merging l _ _ r _ _ w _ _ at c.in_err-has_line.ensures.taken (takes_none _) c.in_err-has_line.ensures.err)

pub returns-in_err-has_line-clause-taken : goal.returns-in_err-has_line-clause-taken
returns-in_err-has_line-clause-taken g c = (c.in_err-has_line.ensures.taken, takes_none _)

pub returns-then-not-branch-clause-ok : goal.returns-then-not-branch-clause-ok
returns-then-not-branch-clause-ok g c = λ l r w at.
    let a = c.args.sides.now.first in
    let last : HasLine false a c.has_line.new.side (g.R.Source.left c.args.first.now) (g.R.Source.left c.has_line.new.reader) = rw c.if-not-branch.true at c.in_ok-has_line.ensures.line in
    let is = first_read c.args.form a c.args.sides.now.second c.args.sides.now.merging c.has_line.new.merging c.has_line.new.side l _ _ r _ w _ _ at (came false a c.has_line.new.side _ _ last) c.in_ok-has_line.ensures.moves in
    record { is = is; ends = inl (inl (last.3, last.4)) }

pub offer_first-requires : goal.offer_first-requires
offer_first-requires g c =
    let a = c.args.sides.now.first in
    let b = c.args.sides.now.second in
    let came_on = came c.in_ok-has_line.field-0 a c.has_line.new.side (g.R.Source.left c.args.first.now) (g.R.Source.left c.has_line.new.reader) c.in_ok-has_line.ensures.line in
    let is = first_read c.args.form a b c.args.sides.now.merging c.has_line.new.merging c.has_line.new.side _ _ _ _ _ _ _ _ c.requires.under_way.is came_on c.in_ok-has_line.ensures.moves in
    awaits_line c.args.form c.has_line.new.side b c.has_line.new.merging _ _ _ _ _ _ c.in-Some.line.now is (sym c.in-Some.ensures)

pub returns-in_err-offer_first-clause-err : goal.returns-in_err-offer_first-clause-err
returns-in_err-offer_first-clause-err g c = λ terms l r w at.
    let a = c.args.sides.now.first in
    let b = c.args.sides.now.second in
    let came_on = came c.in_ok-has_line.field-0 a c.has_line.new.side (g.R.Source.left c.args.first.now) (g.R.Source.left c.has_line.new.reader) c.in_ok-has_line.ensures.line in
    let is = first_read c.args.form a b c.args.sides.now.merging c.has_line.new.merging c.has_line.new.side l _ _ r _ w _ _ at came_on c.in_ok-has_line.ensures.moves in
    search (rules, some_written c.args.form terms c.has_line.new.side b c.has_line.new.merging l _ _ r _ _ w _ _ is (takes_none _) (takes_none _) (stops_none c.args.form c.has_line.new.merging _))

pub returns-in-Taken-clause-ok : goal.returns-in-Taken-clause-ok
returns-in-Taken-clause-ok g c = λ l r w at.
    let a = c.args.sides.now.first in
    let b = c.args.sides.now.second in
    let came_on = came c.in_ok-has_line.field-0 a c.has_line.new.side (g.R.Source.left c.args.first.now) (g.R.Source.left c.has_line.new.reader) c.in_ok-has_line.ensures.line in
    let is = first_read c.args.form a b c.args.sides.now.merging c.has_line.new.merging c.has_line.new.side l _ _ r _ w _ _ at came_on c.in_ok-has_line.ensures.moves in
    let offers = rw c.in-Taken.is at (c.in_ok-offer_first.ensures.offer is.one is.other is.taken is.merges) in
    first_passed c.args.form c.has_line.new.side b c.has_line.new.merging c.offer_first.new.self _ l _ r _ w _ c.in-Some.line.now is (sym c.in-Some.ensures) offers.0 offers.1 c.pass.ensures refl

pub returns-in-Second-clause-ok : goal.returns-in-Second-clause-ok
returns-in-Second-clause-ok g c = λ l r w at.
    let a = c.args.sides.now.first in
    let b = c.args.sides.now.second in
    let came_on = came c.in_ok-has_line.field-0 a c.has_line.new.side (g.R.Source.left c.args.first.now) (g.R.Source.left c.has_line.new.reader) c.in_ok-has_line.ensures.line in
    let is = first_read c.args.form a b c.args.sides.now.merging c.has_line.new.merging c.has_line.new.side l _ _ r _ w _ _ at came_on c.in_ok-has_line.ensures.moves in
    let offers = rw c.in-Second.is at (c.in_ok-offer_first.ensures.offer is.one is.other is.taken is.merges) in
    let there : first_line c.has_line.new.side.lines ≡ Some c.in-Some.line.now = sym c.in-Some.ensures in
    let on = remains c.args.form c.has_line.new.side b c.has_line.new.merging c.offer_first.new.self l _ r _ w _ is offers.0 (inr (c.in-Some.line.now, there, offers.1)) in
    c.turn_of_second.ensures.ok l _ r w c.in-Some.line.now on there offers.1

pub returns-in-Second-clause-err : goal.returns-in-Second-clause-err
returns-in-Second-clause-err g c = λ terms l r w at.
    let a = c.args.sides.now.first in
    let b = c.args.sides.now.second in
    let came_on = came c.in_ok-has_line.field-0 a c.has_line.new.side (g.R.Source.left c.args.first.now) (g.R.Source.left c.has_line.new.reader) c.in_ok-has_line.ensures.line in
    let is = first_read c.args.form a b c.args.sides.now.merging c.has_line.new.merging c.has_line.new.side l _ _ r _ w _ _ at came_on c.in_ok-has_line.ensures.moves in
    let offers = rw c.in-Second.is at (c.in_ok-offer_first.ensures.offer is.one is.other is.taken is.merges) in
    let there : first_line c.has_line.new.side.lines ≡ Some c.in-Some.line.now = sym c.in-Some.ensures in
    c.turn_of_second.ensures.err terms l _ r w (remains c.args.form c.has_line.new.side b c.has_line.new.merging c.offer_first.new.self l _ r _ w _ is offers.0 (inr (c.in-Some.line.now, there, offers.1)))

pub returns-in-Ended-clause-ok : goal.returns-in-Ended-clause-ok
returns-in-Ended-clause-ok g c = λ l r w at.
    let a = c.args.sides.now.first in
    let b = c.args.sides.now.second in
    let came_on = came c.in_ok-has_line.field-0 a c.has_line.new.side (g.R.Source.left c.args.first.now) (g.R.Source.left c.has_line.new.reader) c.in_ok-has_line.ensures.line in
    let is = first_read c.args.form a b c.args.sides.now.merging c.has_line.new.merging c.has_line.new.side l _ _ r _ w _ _ at came_on c.in_ok-has_line.ensures.moves in
    let offers = rw c.in-Ended.is at (c.in_ok-offer_first.ensures.offer is.one is.other is.taken is.merges) in
    let same : c.offer_first.new.self ≡ c.has_line.new.merging = c.in_ok-offer_first.ensures.same (ap Ok c.in-Ended.is) in
    rw same record { is = is; ends = inl (inr (c.in-Some.line.now, sym c.in-Some.ensures, offers.1)) }
