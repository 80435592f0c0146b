use Rattle.report_stream.specs.Written.{WritesUpTo}
use Rattle.report_stream.proofs.Turns.{cut_early, cut_fails, cut_whole, told_out}
use Rattle.report_stream.proofs.ending.end_at_cut.Goals as goal

pub returns-then-not-asked-clause-err : goal.returns-then-not-asked-clause-err
returns-then-not-asked-clause-err g c = λ ahead a b w h. cut_fails ahead a b w _ c.args.front.now c.args.asked.shown c.args.asked.form c.args.cut.0 c.args.cut.1 h c.args.asked.may_be_cut c.if-not-asked.true

pub returns-in_err-write_last-clause-err : goal.returns-in_err-write_last-clause-err
returns-in_err-write_last-clause-err g c = λ ahead a b w h.
    let e = c.in_err-write_last.field-0.0 in
    let written = g.W.Sink.written c.write_last.new.writer in
    told_out _ e (WritesUpTo c.args.asked.may_be_cut ahead c.args.asked.shown c.args.asked.form a b w written) c.from_residual.ensures.1
    (cut_early ahead a b w _ c.args.front.now c.args.asked.shown c.args.asked.form c.args.cut.0 c.args.cut.1 h c.args.asked.may_be_cut c.if-not-asked.false written e c.in_err-write_last.ensures.err)

pub returns-clause-ok : goal.returns-clause-ok
returns-clause-ok g c = λ ahead a b w h. cut_whole ahead a b w _ c.args.front.now c.args.asked.shown c.args.asked.form c.args.cut.0 c.args.cut.1 h _ c.in_ok-write_last.ensures.ok
