use Rattle.std.proofs.Common.{◌++◌, append_assoc}
use Rattle.trace_format.specs.Spelling.{node_bytes}
use Rattle.trace_format.proofs.Adds.{with_last}
use Rattle.trace_format.proofs.writing.put_node.Goals as goal

pub returns-in_ok-put_u32-in-File : goal.returns-in_ok-put_u32-in-File
returns-in_ok-put_u32-in-File c =
    with_last _ _ _ c.as_slice-in-File.result.now (c.args.out.now.items ++ node_bytes c.args.node.now) c.extend_from_slice-in-File.ensures.items (rw (c.in-File.is, c.as_slice-in-File.ensures, c.in_ok-put_u32-in-File.ensures, c.as_slice.ensures, c.in_ok-extend_from_slice-in-File.ensures.items, c.to_le_bytes.ensures)
    (simp append_assoc))
