use Rattle.std.proofs.Common.{◌∙◌, ap, refl, arith}
use Rattle.replay_report.specs.Report.{title}
use Rattle.trace_stream.proofs.Grows.{takes_on}
use Rattle.report_stream.specs.Written.{WritesUpTo}
use Rattle.report_stream.proofs.Turns.{begins, cut_at, ends_err, ends_ok, memory_out, nothing_yet, start_fails, told_out}
use Rattle.report_stream.proofs.report.write_report.Goals as goal

pub returns-in-Err-clause-err : goal.returns-in-Err-clause-err
returns-in-Err-clause-err g c =
    start_fails c.args.asked.may_be_cut c.args.ahead.items _ _ _ c.args.asked.shown c.args.asked.form c.in-Err.fault c.told_of.result c.in-Err.ensures.taken c.told_of.ensures.told c.in-Err.ensures.err

pub returns-in_err-from_slice-clause-err : goal.returns-in_err-from_slice-clause-err
returns-in_err-from_slice-clause-err g c =
    memory_out _ c.args.asked.may_be_cut c.args.ahead.items _ _ _ _ c.args.asked.shown c.args.asked.form c.from_residual.ensures.1 (nothing_yet c.args.asked.may_be_cut c.args.ahead.items _ _ _ c.args.asked.shown c.args.asked.form c.in-Ok.ensures.taken)

pub returns-in_err-replaying-clause-err : goal.returns-in_err-replaying-clause-err
returns-in_err-replaying-clause-err g c =
    memory_out _ c.args.asked.may_be_cut c.args.ahead.items _ _ _ _ c.args.asked.shown c.args.asked.form c.from_residual-in_err-replaying.ensures.1 (nothing_yet c.args.asked.may_be_cut c.args.ahead.items _ _ _ c.args.asked.shown c.args.asked.form c.in-Ok.ensures.taken)

pub loop-pending-init : goal.loop-pending-init
loop-pending-init g c =
    let text = c.in_ok-from_slice.ensures.items ∙ c.as_bytes.ensures.value ∙ c.title.ensures ∙ ap title c.lines_in.ensures in
    record {
      under_way = begins c.args.ahead.items _ _ _ c.in-Ok.opened c.in_ok-replaying.replaying.value _ c.args.asked.shown c.args.asked.form c.in-Ok.ensures.ok c.in_ok-replaying.ensures text;
      reads = omega (arith, c.in-Ok.ensures.failures);
      writes = refl;
    }

pub returns-in_err-next-clause-err : goal.returns-in_err-next-clause-err
returns-in_err-next-clause-err g c =
    let left = g.R.Source.left c.args.reader.now in
    let left' = g.R.Source.left c.take_turn.new.reader in
    let written = g.W.Sink.written c.args.writer.now in
    let written' = g.W.Sink.written c.take_turn.new.writer in
    told_out _ c.in_err-next.field-0.0 (WritesUpTo c.args.asked.may_be_cut c.args.ahead.items c.args.asked.shown c.args.asked.form left left' written written') c.from_residual-in_err-next.ensures.1
    (c.in_err-next.ensures.err c.args.ahead.items left written c.loop-pending.invariant.under_way c.args.asked.may_be_cut)

pub returns-in_err-next-clause-taken : goal.returns-in_err-next-clause-taken
returns-in_err-next-clause-taken g c =
    let h = c.loop-pending.invariant.under_way in takes_on _ _ _ (h.more, h.taken) c.in_err-next.ensures.taken

pub returns-in-Last-clause-ok : goal.returns-in-Last-clause-ok
returns-in-Last-clause-ok g c =
    let h = rw c.in-Last.is at (c.in_ok-next.ensures.ok c.args.ahead.items (g.R.Source.left c.args.reader.now) (g.W.Sink.written c.args.writer.now) c.loop-pending.invariant.under_way) in
    ends_ok c.write_end-ended.result c.args.ahead.items _ _ _ _ _ c.in-Last.last.value c.deref.result.now _ c.args.asked.shown c.args.asked.form h c.deref.ensures c.write_end-ended.ensures.whole c.write_end-ended.ensures.ok

pub returns-in-Last-clause-err : goal.returns-in-Last-clause-err
returns-in-Last-clause-err g c =
    let h = rw c.in-Last.is at (c.in_ok-next.ensures.ok c.args.ahead.items (g.R.Source.left c.args.reader.now) (g.W.Sink.written c.args.writer.now) c.loop-pending.invariant.under_way) in
    ends_err c.args.asked.may_be_cut c.write_end-ended.result c.args.ahead.items _ _ _ _ _ c.in-Last.last.value c.deref.result.now _ c.args.asked.shown c.args.asked.form h c.deref.ensures c.write_end-ended.ensures.err

pub returns-in-Last-clause-taken : goal.returns-in-Last-clause-taken
returns-in-Last-clause-taken g c =
    let h = rw c.in-Last.is at (c.in_ok-next.ensures.ok c.args.ahead.items (g.R.Source.left c.args.reader.now) (g.W.Sink.written c.args.writer.now) c.loop-pending.invariant.under_way) in
    (h.all.more, h.all.taken)

pub returns-in-Cut-clause-ok : goal.returns-in-Cut-clause-ok
returns-in-Cut-clause-ok g c =
    let h = rw c.in-Cut.is at (c.in_ok-next.ensures.ok c.args.ahead.items (g.R.Source.left c.args.reader.now) (g.W.Sink.written c.args.writer.now) c.loop-pending.invariant.under_way) in
    c.end_at_cut.ensures.ok c.args.ahead.items _ _ _ (cut_at c.args.ahead.items _ _ _ _ c.in-Cut.front.value c.deref-in-Cut.result.now c.args.asked.shown c.args.asked.form c.in-Cut.at c.in-Cut.fault c.deref-in-Cut.ensures h)

pub returns-in-Cut-clause-err : goal.returns-in-Cut-clause-err
returns-in-Cut-clause-err g c =
    let h = rw c.in-Cut.is at (c.in_ok-next.ensures.ok c.args.ahead.items (g.R.Source.left c.args.reader.now) (g.W.Sink.written c.args.writer.now) c.loop-pending.invariant.under_way) in
    c.end_at_cut.ensures.err c.args.ahead.items _ _ _ (cut_at c.args.ahead.items _ _ _ _ c.in-Cut.front.value c.deref-in-Cut.result.now c.args.asked.shown c.args.asked.form c.in-Cut.at c.in-Cut.fault c.deref-in-Cut.ensures h)

pub returns-in-Cut-clause-taken : goal.returns-in-Cut-clause-taken
returns-in-Cut-clause-taken g c =
    let h = rw c.in-Cut.is at (c.in_ok-next.ensures.ok c.args.ahead.items (g.R.Source.left c.args.reader.now) (g.W.Sink.written c.args.writer.now) c.loop-pending.invariant.under_way) in
    (h.all.more, h.all.taken)
