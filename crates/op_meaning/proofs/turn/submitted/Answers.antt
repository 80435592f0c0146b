use Rattle.std.proofs.Common.{sym}
use Rattle.entry_checks.specs.Meant.{meant}
use Rattle.op_meaning.proofs.Asked.{short}
use Rattle.op_meaning.proofs.turn.submitted.Goals as goal

pub returns-else-role_there-clause-short : goal.returns-else-role_there-clause-short
returns-else-role_there-clause-short c = c.executed.ensures.short (short c.args.trace.now.version c.args.entry.now (meant c.in-Ok.op) c.requires.side (sym c.in-Ok.ensures))
