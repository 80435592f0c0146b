use Rattle.std.proofs.Common.{◌++◌}
use Rattle.std.proofs.KnownBytes.{Consumes-trans}
use Rattle.text_lines.proofs.lines.TextLines.read_line.Goals as goal

pub returns-in_err-read_more-clause-taken : goal.returns-in_err-read_more-clause-taken
returns-in_err-read_more-clause-taken g c =
    let before = c.loop-alloc.invariant in
    let more = c.in_err-read_more.ensures.taken in
    (before.more ++ more.0, Consumes-trans _ _ _ before.more more.0 before.taken more.1)
