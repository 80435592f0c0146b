use Rattle.std.proofs.Common.{append_assoc}
use Rattle.trace_records.proofs.writing.put_header.Goals as goal

pub returns : goal.returns
returns c =
    rw (c.in_ok-put_u32-5.ensures, c.in_ok-put_u32-4.ensures, c.as_slice-4.ensures, c.in_ok-extend_from_slice-2.ensures.items, c.to_le_bytes.ensures)
    (rw (c.in_ok-put_u32-3.ensures, c.as_slice-3.ensures, c.in_ok-put_u32-2.ensures, c.as_slice-2.ensures, c.in_ok-put_u32.ensures)
    (rw (c.in_ok-extend_from_slice.ensures.items, c.as_slice.ensures) (simp append_assoc)))
