use Rattle.std.proofs.Common.{◌++◌, append_assoc}
use Rattle.trace_format.specs.Spelling.{description_bytes}
use Rattle.trace_format.proofs.Adds.{with_last}
use Rattle.trace_records.proofs.writing.put_description.Goals as goal

pub returns : goal.returns
returns c =
    with_last _ _ _ c.to_le_bytes-2.result (c.args.out.now.items ++ description_bytes c.args.description.now) c.extend_from_slice-3.ensures.items (rw (c.to_le_bytes-2.ensures, c.in_ok-extend_from_slice-2.ensures.items, c.access_number.ensures, c.flag.ensures)
    (rw (c.in_ok-extend_from_slice.ensures.items, c.to_le_bytes.ensures) (simp append_assoc)))
