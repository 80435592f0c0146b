use Rattle.std.proofs.Common.{◌++◌, append_assoc}
use Rattle.trace_records.specs.Spelling.{node_bytes}
use Rattle.trace_records.proofs.Added.{on_ok}
use Rattle.trace_records.proofs.writing.put_node.Goals as goal

pub returns-in_ok-put_u32-in-File : goal.returns-in_ok-put_u32-in-File
returns-in_ok-put_u32-in-File c =
    on_ok _ _ _ (c.args.out.now.items ++ node_bytes c.args.node.now) c.put_ranges.ensures (rw (c.in-File.is, c.as_slice-in-File.ensures, c.in_ok-put_u32-in-File.ensures, c.as_slice.ensures, c.in_ok-extend_from_slice-in-File.ensures.items, c.to_le_bytes.ensures) (simp append_assoc))
