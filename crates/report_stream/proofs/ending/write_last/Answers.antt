use Rattle.report_stream.proofs.Turns.{last_early}
use Rattle.report_stream.proofs.ending.write_last.Goals as goal

pub returns-clause-err : goal.returns-clause-err
returns-clause-err g c = last_early c.args.asked.form c.flush.result _ _ c.in_ok-last.last.items _ c.in_ok-last.ensures c.flush.ensures.err
