use Rattle.std.proofs.Common.{true, false, inl, inr, refl, rules}
use Rattle.diff_stream.specs.Steps.{Begins}
use Rattle.diff_stream.proofs.Ending.{begun_stands, begun_whole, heading_whole, nothing_written, unread_whole, up_to}
use Rattle.diff_stream.proofs.Standing.{takes_none, takes_on}
use Rattle.diff_stream.proofs.report.write_differences.Goals as goal

pub returns-in_err-sides-clause-err : goal.returns-in_err-sides-clause-err
returns-in_err-sides-clause-err g c = search (rules, nothing_written c.args.form c.args.terms (g.R.Source.left c.args.first.now) (g.R.Source.left c.args.first.now) (g.S.Source.left c.args.second.now) (g.S.Source.left c.args.second.now) (g.W.Sink.written c.args.writer.now) (takes_none (g.R.Source.left c.args.first.now)) (takes_none (g.S.Source.left c.args.second.now)))

pub returns-in_err-begins-clause-err : goal.returns-in_err-begins-clause-err
returns-in_err-begins-clause-err g c =
    search (rules, up_to c.args.form c.args.terms (g.R.Source.left c.args.first.now) (g.R.Source.left c.begins.new.reader) (g.S.Source.left c.args.second.now) (g.S.Source.left c.args.second.now) (g.W.Sink.written c.args.writer.now) (g.W.Sink.written c.args.writer.now) c.in_err-begins.field-0.0 c.in_err-begins.ensures.outside (nothing_written c.args.form c.args.terms (g.R.Source.left c.args.first.now) (g.R.Source.left c.begins.new.reader) (g.S.Source.left c.args.second.now) (g.S.Source.left c.args.second.now) (g.W.Sink.written c.args.writer.now) c.in_err-begins.ensures.taken (takes_none (g.S.Source.left c.args.second.now))))

pub returns-in_err-begins-clause-taken : goal.returns-in_err-begins-clause-taken
returns-in_err-begins-clause-taken g c = (c.in_err-begins.ensures.taken, takes_none (g.S.Source.left c.args.second.now))

pub returns-then-not-branch-clause-err : goal.returns-then-not-branch-clause-err
returns-then-not-branch-clause-err g c =
    let begun = c.in_ok-sides.ensures in
    let begins : Begins false c.in_ok-sides.sides.first c.begins.new.side (g.R.Source.left c.args.first.now) (g.R.Source.left c.begins.new.reader) = rw c.if-not-branch.true at c.in_ok-begins.ensures.ok in
    c.compare_whole.ensures.err (g.R.Source.left c.args.first.now) (g.S.Source.left c.args.second.now) (begun_whole c.in_ok-sides.sides.first c.begins.new.side (g.R.Source.left c.args.first.now) (g.R.Source.left c.begins.new.reader) begun.first begun.first_goes_on begins)
    (unread_whole c.in_ok-sides.sides.second (g.S.Source.left c.args.second.now) begun.second begun.second_goes_on) (inl begins.3)

pub returns-then-not-branch-clause-ok : goal.returns-then-not-branch-clause-ok
returns-then-not-branch-clause-ok g c =
    let begun = c.in_ok-sides.ensures in
    let begins : Begins false c.in_ok-sides.sides.first c.begins.new.side (g.R.Source.left c.args.first.now) (g.R.Source.left c.begins.new.reader) = rw c.if-not-branch.true at c.in_ok-begins.ensures.ok in
    c.compare_whole.ensures.ok (g.R.Source.left c.args.first.now) (g.S.Source.left c.args.second.now) (begun_whole c.in_ok-sides.sides.first c.begins.new.side (g.R.Source.left c.args.first.now) (g.R.Source.left c.begins.new.reader) begun.first begun.first_goes_on begins)
    (unread_whole c.in_ok-sides.sides.second (g.S.Source.left c.args.second.now) begun.second begun.second_goes_on)

pub returns-then-not-branch-clause-taken : goal.returns-then-not-branch-clause-taken
returns-then-not-branch-clause-taken g c = (takes_on (g.R.Source.left c.args.first.now) (g.R.Source.left c.begins.new.reader) _ c.in_ok-begins.ensures.taken c.compare_whole.ensures.taken.0, c.compare_whole.ensures.taken.1)

pub returns-in_err-begins-2-clause-err : goal.returns-in_err-begins-2-clause-err
returns-in_err-begins-2-clause-err g c =
    search (rules, up_to c.args.form c.args.terms (g.R.Source.left c.args.first.now) (g.R.Source.left c.begins.new.reader) (g.S.Source.left c.args.second.now) (g.S.Source.left c.begins-2.new.reader) (g.W.Sink.written c.args.writer.now) (g.W.Sink.written c.args.writer.now) c.in_err-begins-2.field-0.0 c.in_err-begins-2.ensures.outside (nothing_written c.args.form c.args.terms (g.R.Source.left c.args.first.now) (g.R.Source.left c.begins.new.reader) (g.S.Source.left c.args.second.now) (g.S.Source.left c.begins-2.new.reader) (g.W.Sink.written c.args.writer.now) c.in_ok-begins.ensures.taken c.in_err-begins-2.ensures.taken))

pub returns-then-not-branch-2-clause-err : goal.returns-then-not-branch-2-clause-err
returns-then-not-branch-2-clause-err g c =
    let begun = c.in_ok-sides.ensures in
    let begins : Begins true c.in_ok-sides.sides.first c.begins.new.side (g.R.Source.left c.args.first.now) (g.R.Source.left c.begins.new.reader) = rw c.if-not-branch.false at c.in_ok-begins.ensures.ok in
    let begins2 : Begins false c.in_ok-sides.sides.second c.begins-2.new.side (g.S.Source.left c.args.second.now) (g.S.Source.left c.begins-2.new.reader) = rw c.if-not-branch-2.true at c.in_ok-begins-2.ensures.ok in
    c.compare_whole-then-not-branch-2.ensures.err (g.R.Source.left c.args.first.now) (g.S.Source.left c.args.second.now) (heading_whole c.in_ok-sides.sides.first c.begins.new.side (g.R.Source.left c.args.first.now) (g.R.Source.left c.begins.new.reader) begun.first begun.first_goes_on begins)
    (begun_whole c.in_ok-sides.sides.second c.begins-2.new.side (g.S.Source.left c.args.second.now) (g.S.Source.left c.begins-2.new.reader) begun.second begun.second_goes_on begins2) (inr begins2.3)

pub returns-then-not-branch-2-clause-ok : goal.returns-then-not-branch-2-clause-ok
returns-then-not-branch-2-clause-ok g c =
    let begun = c.in_ok-sides.ensures in
    let begins : Begins true c.in_ok-sides.sides.first c.begins.new.side (g.R.Source.left c.args.first.now) (g.R.Source.left c.begins.new.reader) = rw c.if-not-branch.false at c.in_ok-begins.ensures.ok in
    let begins2 : Begins false c.in_ok-sides.sides.second c.begins-2.new.side (g.S.Source.left c.args.second.now) (g.S.Source.left c.begins-2.new.reader) = rw c.if-not-branch-2.true at c.in_ok-begins-2.ensures.ok in
    c.compare_whole-then-not-branch-2.ensures.ok (g.R.Source.left c.args.first.now) (g.S.Source.left c.args.second.now) (heading_whole c.in_ok-sides.sides.first c.begins.new.side (g.R.Source.left c.args.first.now) (g.R.Source.left c.begins.new.reader) begun.first begun.first_goes_on begins)
    (begun_whole c.in_ok-sides.sides.second c.begins-2.new.side (g.S.Source.left c.args.second.now) (g.S.Source.left c.begins-2.new.reader) begun.second begun.second_goes_on begins2)

pub returns-then-not-branch-2-clause-taken : goal.returns-then-not-branch-2-clause-taken
returns-then-not-branch-2-clause-taken g c = (
  takes_on (g.R.Source.left c.args.first.now) (g.R.Source.left c.begins.new.reader) _ c.in_ok-begins.ensures.taken c.compare_whole-then-not-branch-2.ensures.taken.0,
  takes_on (g.S.Source.left c.args.second.now) (g.S.Source.left c.begins-2.new.reader) _ c.in_ok-begins-2.ensures.taken c.compare_whole-then-not-branch-2.ensures.taken.1,
)

pub merge-requires-clause-under_way : goal.merge-requires-clause-under_way
merge-requires-clause-under_way g c = record {
  left_first = (g.R.Source.left c.args.first.now);
  more_first = (g.S.Source.left c.args.second.now);
  written_first = (g.W.Sink.written c.args.writer.now);
  is = begun_stands c.args.form c.in_ok-sides.sides c.begins.new.side c.begins-2.new.side _ _ (g.R.Source.left c.args.first.now) (g.R.Source.left c.begins.new.reader) (g.S.Source.left c.args.second.now) (g.S.Source.left c.begins-2.new.reader) (g.W.Sink.written c.args.writer.now) c.in_ok-sides.ensures (rw c.if-not-branch.false at c.in_ok-begins.ensures.ok)
      (rw c.if-not-branch-2.false at c.in_ok-begins-2.ensures.ok) c.pass.ensures refl c.pass-2.ensures refl;
}

pub returns-in_err-merge-clause-err : goal.returns-in_err-merge-clause-err
returns-in_err-merge-clause-err g c =
    search (
      rules,
      up_to c.args.form c.args.terms (g.R.Source.left c.args.first.now) (g.R.Source.left c.merge.new.first) (g.S.Source.left c.args.second.now) (g.S.Source.left c.merge.new.second) (g.W.Sink.written c.args.writer.now) (g.W.Sink.written c.merge.new.writer) c.in_err-merge.field-0.0 c.in_err-merge.ensures.outside
          (c.in_err-merge.ensures.err c.args.terms (g.R.Source.left c.args.first.now) (g.S.Source.left c.args.second.now) (g.W.Sink.written c.args.writer.now) (begun_stands c.args.form c.in_ok-sides.sides c.begins.new.side c.begins-2.new.side _ _ (g.R.Source.left c.args.first.now) (g.R.Source.left c.begins.new.reader) (g.S.Source.left c.args.second.now) (g.S.Source.left c.begins-2.new.reader) (g.W.Sink.written c.args.writer.now) c.in_ok-sides.ensures (rw c.if-not-branch.false at c.in_ok-begins.ensures.ok)
          (rw c.if-not-branch-2.false at c.in_ok-begins-2.ensures.ok) c.pass.ensures refl c.pass-2.ensures refl)),
    )

pub returns-in_err-merge-clause-taken : goal.returns-in_err-merge-clause-taken
returns-in_err-merge-clause-taken g c =
    (takes_on (g.R.Source.left c.args.first.now) (g.R.Source.left c.begins.new.reader) _ c.in_ok-begins.ensures.taken c.in_err-merge.ensures.taken.0, takes_on (g.S.Source.left c.args.second.now) (g.S.Source.left c.begins-2.new.reader) _ c.in_ok-begins-2.ensures.taken c.in_err-merge.ensures.taken.1)

pub returns-clause-ok : goal.returns-clause-ok
returns-clause-ok g c = c.compare_rest.ensures.ok (g.R.Source.left c.args.first.now) (g.S.Source.left c.args.second.now) (g.W.Sink.written c.args.writer.now) (c.in_ok-merge.ensures.ok (g.R.Source.left c.args.first.now) (g.S.Source.left c.args.second.now) (g.W.Sink.written c.args.writer.now) (begun_stands c.args.form c.in_ok-sides.sides c.begins.new.side c.begins-2.new.side _ _ (g.R.Source.left c.args.first.now) (g.R.Source.left c.begins.new.reader) (g.S.Source.left c.args.second.now) (g.S.Source.left c.begins-2.new.reader) (g.W.Sink.written c.args.writer.now) c.in_ok-sides.ensures (rw c.if-not-branch.false at c.in_ok-begins.ensures.ok)
    (rw c.if-not-branch-2.false at c.in_ok-begins-2.ensures.ok) c.pass.ensures refl c.pass-2.ensures refl))

pub returns-clause-err : goal.returns-clause-err
returns-clause-err g c = c.compare_rest.ensures.err (g.R.Source.left c.args.first.now) (g.S.Source.left c.args.second.now) (g.W.Sink.written c.args.writer.now) (c.in_ok-merge.ensures.ok (g.R.Source.left c.args.first.now) (g.S.Source.left c.args.second.now) (g.W.Sink.written c.args.writer.now) (begun_stands c.args.form c.in_ok-sides.sides c.begins.new.side c.begins-2.new.side _ _ (g.R.Source.left c.args.first.now) (g.R.Source.left c.begins.new.reader) (g.S.Source.left c.args.second.now) (g.S.Source.left c.begins-2.new.reader) (g.W.Sink.written c.args.writer.now) c.in_ok-sides.ensures (rw c.if-not-branch.false at c.in_ok-begins.ensures.ok)
    (rw c.if-not-branch-2.false at c.in_ok-begins-2.ensures.ok) c.pass.ensures refl c.pass-2.ensures refl))

pub returns-clause-taken : goal.returns-clause-taken
returns-clause-taken g c = (
  takes_on (g.R.Source.left c.args.first.now) _ _ (takes_on (g.R.Source.left c.args.first.now) (g.R.Source.left c.begins.new.reader) _ c.in_ok-begins.ensures.taken c.in_ok-merge.ensures.taken.0) c.compare_rest.ensures.taken.0,
  takes_on (g.S.Source.left c.args.second.now) _ _ (takes_on (g.S.Source.left c.args.second.now) (g.S.Source.left c.begins-2.new.reader) _ c.in_ok-begins-2.ensures.taken c.in_ok-merge.ensures.taken.1) c.compare_rest.ensures.taken.1,
)
