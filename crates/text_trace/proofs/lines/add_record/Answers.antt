use Rattle.std.proofs.Common.{arith}
use Rattle.trace_format.proofs.Sums.{places_in-push}
use Rattle.text_trace.proofs.lines.add_record.Goals as goal

pub returns-clause-used : goal.returns-clause-used
returns-clause-used c = rw c.in_ok-push.ensures.items
    (omega (arith, places_in-push c.args.records.now.items c.in_ok-record.record, c.requires.used, c.step_count.ensures))
