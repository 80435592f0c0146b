use Rattle.std.proofs.Common.{Bool, sym, subst}
use Rattle.json_lines.specs.declared.form.Form.{Form}
use Rattle.replay_report.specs.declared.showing.Shown.{Shown}
use Rattle.report_stream.specs.Written.{Writes, WritesUpTo}
use Rattle.replay_program.specs.Streaming.{ReportUpTo}
use Rattle.replay_program.proofs.Faults.{by}
use Rattle.replay_program.proofs.StreamedReports.{early_fails, stream_done, stream_fails, whole_done, whole_fails, whole_part}
use Rattle.replay_program.proofs.Taking.{takes_stream}
use Rattle.replay_program.proofs.streaming.run_report.Goals as goal

pub returns-in_err-head-clause-fault : goal.returns-in_err-head-clause-fault
returns-in_err-head-clause-fault g c =
    let e = c.in_err-head.field-0.0 in
    by _ _ e c.from_residual.ensures.1 (early_fails c.args.may_be_cut c.args.options.now.shown c.args.form _ _ _ e c.in_err-head.ensures.taken c.in_err-head.ensures.err)

pub returns-in_err-report-in-Whole-clause-fault : goal.returns-in_err-report-in-Whole-clause-fault
returns-in_err-report-in-Whole-clause-fault g c =
    let e = c.in_err-report-in-Whole.field-0.0 in
    let took = rw c.in-Whole.is at c.in_ok-head.ensures.ok in
    by _ _ e c.from_residual-in_err-report-in-Whole.ensures.1 (whole_fails c.args.may_be_cut c.args.options.now.shown c.args.form _ _ _ c.in-Whole.text e took c.in_err-report-in-Whole.ensures.err)

pub returns-in-Ok-clause-done : goal.returns-in-Ok-clause-done
returns-in-Ok-clause-done g c =
    let took = rw c.in-Head.is at c.in_ok-head.ensures.ok in
    let left = g.R.Source.left c.taken_text.new.reader in
    let left' = g.R.Source.left c.write_report.new.reader in
    let written = g.W.Sink.written c.args.writer.now in
    let written' = g.W.Sink.written c.write_report.new.writer in
    stream_done c.in-Ok.cut c.args.options.now.shown c.args.form _ left left' written written' c.in-Head.head took
    (subst (λ (f : Form). Writes c.in-Ok.cut c.in-Head.head.items c.args.options.now.shown f left left' written written') c.asked_of.ensures.form
    (subst (λ (s : Shown). Writes c.in-Ok.cut c.in-Head.head.items s c.asked_of.result.form left left' written written') c.asked_of.ensures.shown c.in-Ok.ensures.ok))

pub returns-in-Ok-clause-taken : goal.returns-in-Ok-clause-taken
returns-in-Ok-clause-taken g c = takes_stream _ _ _ c.in-Head.head (rw c.in-Head.is at c.in_ok-head.ensures.ok) c.in-Ok.ensures.taken

pub returns-in-Err-clause-fault : goal.returns-in-Err-clause-fault
returns-in-Err-clause-fault g c =
    let took = rw c.in-Head.is at c.in_ok-head.ensures.ok in
    let e = c.in-Err.fault in
    let first = g.R.Source.left c.args.reader.now in
    let left = g.R.Source.left c.taken_text.new.reader in
    let left' = g.R.Source.left c.write_report.new.reader in
    let written = g.W.Sink.written c.args.writer.now in
    let written' = g.W.Sink.written c.write_report.new.writer in
    let may = c.args.may_be_cut in
    let in_form = subst (λ (f : Form). WritesUpTo c.asked_of.result.may_be_cut c.in-Head.head.items c.asked_of.result.shown f left left' written written' e) c.asked_of.ensures.form c.in-Err.ensures.err in
    let asked = subst (λ (s : Shown). WritesUpTo c.asked_of.result.may_be_cut c.in-Head.head.items s c.args.form left left' written written' e) c.asked_of.ensures.shown in_form in
    let wrote = subst (λ (m : Bool). WritesUpTo m c.in-Head.head.items c.args.options.now.shown c.args.form left left' written written' e) c.asked_of.ensures.cut asked in
    subst (ReportUpTo may c.args.options.now.shown c.args.form first left' written written') (sym c.report_told.ensures.told) (stream_fails may c.args.options.now.shown c.args.form first left left' written written' c.in-Head.head e took wrote)

pub returns-in-Err-clause-taken : goal.returns-in-Err-clause-taken
returns-in-Err-clause-taken g c = takes_stream _ _ _ c.in-Head.head (rw c.in-Head.is at c.in_ok-head.ensures.ok) c.in-Err.ensures.taken

pub returns-in_ok-written_pieces-in-Whole-clause-done : goal.returns-in_ok-written_pieces-in-Whole-clause-done
returns-in_ok-written_pieces-in-Whole-clause-done g c =
    let took = rw c.in-Whole.is at c.in_ok-head.ensures.ok in
    whole_done c.args.options.now.shown c.args.form _ _ _ _ c.in-Whole.text _ took c.in_ok-report-in-Whole.ensures.ok c.in_ok-written_pieces-in-Whole.ensures.ok

pub returns-in_err-written_pieces-in-Whole-clause-fault : goal.returns-in_err-written_pieces-in-Whole-clause-fault
returns-in_err-written_pieces-in-Whole-clause-fault g c =
    let took = rw c.in-Whole.is at c.in_ok-head.ensures.ok in
    let e = c.in_err-written_pieces-in-Whole.field-0.0 in
    by _ _ e c.from_residual-in_err-written_pieces-in-Whole.ensures.1
    (whole_part c.args.may_be_cut c.args.options.now.shown c.args.form _ _ _ _ c.in-Whole.text _ e c.in_err-written_pieces-in-Whole.ensures.err took c.in_ok-report-in-Whole.ensures.ok c.in_err-written_pieces-in-Whole.ensures.part)
