use Rattle.std.proofs.Common.{rules}
use Rattle.json_lines.proofs.Unwritten.{some_of_fault}
use Rattle.diff_stream.proofs.Standing.{takes_none, takes_on}
use Rattle.diff_stream.proofs.Ending.{both_whole, compared_whole, nothing_written, part_whole, refused_whole, up_to, up_to_write}
use Rattle.diff_stream.proofs.report.compare_whole.Goals as goal

pub returns-in_err-one-clause-err : goal.returns-in_err-one-clause-err
returns-in_err-one-clause-err g c = λ l r one other odd.
    search (
      rules,
      up_to c.args.form c.args.terms l (g.R.Source.left c.rest_of.new.reader) r (g.S.Source.left c.args.second.now) (g.W.Sink.written c.args.writer.now) (g.W.Sink.written c.args.writer.now) c.in_err-one.field-0.0 c.in_err-one.ensures.outside
          (nothing_written c.args.form c.args.terms l (g.R.Source.left c.rest_of.new.reader) r (g.S.Source.left c.args.second.now) (g.W.Sink.written c.args.writer.now) (takes_on l (g.R.Source.left c.args.first.now) (g.R.Source.left c.rest_of.new.reader) (c.args.sides.first.lines, one.taken) c.in_err-one.ensures.taken) (c.args.sides.second.lines, other.taken)),
    )

pub returns-in_err-one-clause-taken : goal.returns-in_err-one-clause-taken
returns-in_err-one-clause-taken g c = (c.in_err-one.ensures.taken, takes_none _)

pub returns-in_err-other-clause-err : goal.returns-in_err-other-clause-err
returns-in_err-other-clause-err g c = λ l r one other odd.
    search (
      rules,
      up_to c.args.form c.args.terms l (g.R.Source.left c.rest_of.new.reader) r (g.S.Source.left c.rest_of-2.new.reader) (g.W.Sink.written c.args.writer.now) (g.W.Sink.written c.args.writer.now) c.in_err-other.field-0.0 c.in_err-other.ensures.outside
          (nothing_written c.args.form c.args.terms l (g.R.Source.left c.rest_of.new.reader) r (g.S.Source.left c.rest_of-2.new.reader) (g.W.Sink.written c.args.writer.now) (takes_on l (g.R.Source.left c.args.first.now) (g.R.Source.left c.rest_of.new.reader) (c.args.sides.first.lines, one.taken) c.in_ok-one.ensures.taken) (takes_on r (g.S.Source.left c.args.second.now) (g.S.Source.left c.rest_of-2.new.reader) (c.args.sides.second.lines, other.taken) c.in_err-other.ensures.taken)),
    )

pub returns-in_err-comparison-clause-err : goal.returns-in_err-comparison-clause-err
returns-in_err-comparison-clause-err g c = λ l r one other odd.
    let leaves = c.in_ok-one.ensures.ok one.ended in
    let leaves2 = c.in_ok-other.ensures.ok other.ended in
    let tells = rw (c.as_slice.ensures.value, c.as_slice-2.ensures.value) at c.in_err-comparison.ensures.err in
    search (rules, refused_whole c.args.form c.args.terms c.args.sides.first c.args.sides.second l (g.R.Source.left c.args.first.now) (g.R.Source.left c.rest_of.new.reader) r (g.S.Source.left c.args.second.now) (g.S.Source.left c.rest_of-2.new.reader) (g.W.Sink.written c.args.writer.now) c.in_ok-one.one.items c.in_ok-other.other.items one other leaves leaves2 odd c.in_err-comparison.field-0.0 tells)

pub returns-in_err-write_as-clause-err : goal.returns-in_err-write_as-clause-err
returns-in_err-write_as-clause-err g c = λ l r one other odd.
    let leaves = c.in_ok-one.ensures.ok one.ended in
    let leaves2 = c.in_ok-other.ensures.ok other.ended in
    let compares = rw (c.as_slice.ensures.value, c.as_slice-2.ensures.value) at c.in_ok-comparison.ensures.ok in
    let read = both_whole c.args.sides.first c.args.sides.second l _ _ r _ _ c.in_ok-one.one.items c.in_ok-other.other.items one other leaves leaves2 in
    let e = c.in_err-write_as.field-0.0 in
    let part = some_of_fault _ _ _ e c.in_err-write_as.ensures.err in
    search (
      rules,
      up_to_write c.args.form c.args.terms l _ r _ _ _ e
          (part_whole c.args.form c.args.terms l _ r _ _ _ c.in_ok-one.one.items c.in_ok-other.other.items read c.in_ok-comparison.comparison compares c.as_slice-3.result.now c.as_slice-3.ensures.value part),
    )

pub returns-clause-ok : goal.returns-clause-ok
returns-clause-ok g c = λ l r one other.
    let leaves = c.in_ok-one.ensures.ok one.ended in
    let leaves2 = c.in_ok-other.ensures.ok other.ended in
    let compares = rw (c.as_slice.ensures.value, c.as_slice-2.ensures.value) at c.in_ok-comparison.ensures.ok in
    let read = both_whole c.args.sides.first c.args.sides.second l _ _ r _ _ c.in_ok-one.one.items c.in_ok-other.other.items one other leaves leaves2 in
    compared_whole c.args.form c.args.terms l _ r _ _ _ c.in_ok-one.one.items c.in_ok-other.other.items read c.in_ok-comparison.comparison compares (rw c.as_slice-3.ensures.value at c.in_ok-write_as.ensures.ok)
