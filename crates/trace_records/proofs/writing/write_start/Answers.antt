use Rattle.std.proofs.Common.{◌++◌, append_assoc}
use Rattle.trace_records.specs.Spelling.{start_bytes}
use Rattle.trace_records.proofs.Added.{on_ok}
use Rattle.trace_records.proofs.writing.write_start.Goals as goal

pub returns : goal.returns
returns c =
    on_ok _ _ _ (c.args.out.now.items ++ start_bytes c.args.start.now) c.put_descriptors.ensures (rw (c.as_slice-3.ensures, c.in_ok-put_descriptions.ensures, c.as_slice-2.ensures, c.in_ok-put_items.ensures, c.as_slice.ensures, c.in_ok-put_header.ensures) (simp append_assoc))
