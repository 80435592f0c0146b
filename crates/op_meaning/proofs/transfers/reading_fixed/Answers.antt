use Rattle.std.proofs.Common.{rules, min}
use Rattle.trace_format.specs.Sides.{most_moved}
use Rattle.op_meaning.proofs.transfers.reading_fixed.Goals as goal

pub returns-in_err-file-clause-meaning : goal.returns-in_err-file-clause-meaning
returns-in_err-file-clause-meaning c =
    let refused = c.in_err-file.ensures (min c.args.span.length most_moved) in search rules
