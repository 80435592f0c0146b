use Rattle.std.proofs.Common.{◌++◌}
use Rattle.json_lines.specs.Forms.{written_as}
use Rattle.replay_report.specs.InOrder.{last_lines}
use Rattle.report_stream.specs.Steps.{EndsEarly}
use Rattle.report_stream.proofs.Turns.{ends_behind, ends_part, told_out}
use Rattle.report_stream.proofs.ending.write_end.Goals as goal

pub returns-in_err-flush-clause-err : goal.returns-in_err-flush-clause-err
returns-in_err-flush-clause-err g c =
    let e = c.in_err-flush.field-0.0 in
    let p = c.args.replaying.now in
    let text = written_as c.args.asked.form c.args.text.now.items in
    let last = written_as c.args.asked.form (last_lines p.recording p.state c.args.asked.shown) in
    told_out _ e (EndsEarly (g.W.Sink.written c.args.writer.now) (g.W.Sink.written c.flush.new.writer) (text ++ last)) c.from_residual.ensures.1
    (ends_part _ _ text last e c.in_err-flush.ensures.err)

pub returns-in_err-write_last-clause-err : goal.returns-in_err-write_last-clause-err
returns-in_err-write_last-clause-err g c =
    let e = c.in_err-write_last.field-0.0 in
    let p = c.args.replaying.now in
    let text = c.args.text.now.items in
    let last = last_lines p.recording p.state c.args.asked.shown in
    let form = c.args.asked.form in
    told_out _ e (EndsEarly (g.W.Sink.written c.args.writer.now) (g.W.Sink.written c.write_last.new.writer) (written_as form text ++ written_as form last)) c.from_residual-in_err-write_last.ensures.1
    (ends_behind _ _ _ (written_as form text) (written_as form last) e c.in_ok-flush.ensures.ok c.in_err-write_last.ensures.err)
