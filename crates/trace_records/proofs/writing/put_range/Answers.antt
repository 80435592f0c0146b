use Rattle.std.proofs.Common.{◌++◌, append_assoc}
use Rattle.trace_format.proofs.Adds.{with_last}
use Rattle.trace_records.specs.Spelling.{range_bytes}
use Rattle.trace_records.proofs.writing.put_range.Goals as goal

pub returns : goal.returns
returns c =
    with_last _ _ _ c.as_slice-2.result.now (c.args.out.now.items ++ range_bytes c.args.range.now) c.extend_from_slice-2.ensures.items (rw (c.as_slice-2.ensures, c.in_ok-put_u32.ensures, c.as_slice.ensures, c.in_ok-extend_from_slice.ensures.items, c.to_le_bytes.ensures)
    (simp append_assoc))
