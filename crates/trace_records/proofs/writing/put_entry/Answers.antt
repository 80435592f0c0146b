use Rattle.std.proofs.Common.{append_assoc}
use Rattle.trace_records.specs.Spelling.{entry_text}
use Rattle.trace_records.proofs.writing.put_entry.Goals as goal

pub returns : goal.returns
unfolding entry_text
returns c = rw (c.in_ok-put_beside.ensures, c.in_ok-extend_from_slice.ensures.items, c.pack.ensures.bytes) (simp append_assoc)
