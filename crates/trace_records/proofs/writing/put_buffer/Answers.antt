use Rattle.std.proofs.Common.{◌++◌, append_assoc}
use Rattle.trace_format.specs.Spelling.{buffer_bytes}
use Rattle.trace_format.proofs.Adds.{with_last}
use Rattle.trace_records.proofs.writing.put_buffer.Goals as goal

pub returns : goal.returns
returns c =
    with_last _ _ _ c.to_le_bytes-2.result (c.args.out.now.items ++ buffer_bytes c.args.buffer.now) c.extend_from_slice-2.ensures.items (rw (c.to_le_bytes-2.ensures, c.in_ok-extend_from_slice.ensures.items, c.to_le_bytes.ensures) (simp append_assoc))
