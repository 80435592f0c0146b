use Rattle.std.proofs.Common.{arith}
use Rattle.trace_format.specs.Spelling.{entry_text}
use Rattle.text_trace.proofs.draft.entry_len.Goals as goal

pub returns : goal.returns
unfolding entry_text
returns c = rw c.side.ensures (omega arith)
