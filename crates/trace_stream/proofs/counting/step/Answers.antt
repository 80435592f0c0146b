use Rattle.std.proofs.Common.{sym, ◌∙◌}
use Rattle.trace_stream.proofs.Tallied.{steps_of, on_some}
use Rattle.trace_stream.proofs.counting.step.Goals as goal

pub returns-clause-ok : goal.returns-clause-ok
returns-clause-ok g c = rw c.is_some.ensures (steps_of _ _ _ _ _ c.in_ok-record.ensures.ok)

pub returns-clause-on : goal.returns-clause-on
returns-clause-on g c = λ e. on_some _ _ c.in_ok-record.ensures.on (sym c.is_some.ensures ∙ e)
