use Rattle.std.proofs.Common.{◌++◌, append_assoc}
use Rattle.trace_records.specs.Spelling.{ring_bytes}
use Rattle.trace_records.proofs.Added.{on_ok}
use Rattle.trace_records.proofs.writing.put_ring.Goals as goal

pub returns : goal.returns
returns c =
    on_ok _ _ _ (c.args.out.now.items ++ ring_bytes c.args.ring.now) c.put_buffers.ensures (rw (c.as_slice-4.ensures, c.in_ok-put_u16.ensures, c.as_slice-3.ensures, c.in_ok-put_full_slots.ensures, c.as_slice-2.ensures)
    (rw (c.in_ok-put_u32.ensures, c.as_slice.ensures, c.in_ok-extend_from_slice-2.ensures.items, c.to_le_bytes-2.ensures, c.in_ok-extend_from_slice.ensures.items, c.to_le_bytes.ensures, c.queue_number.ensures) (simp append_assoc)))
