use Rattle.std.proofs.Common.{◌++◌, append_assoc}
use Rattle.trace_format.proofs.Adds.{with_last}
use Rattle.trace_records.specs.Spelling.{content_bytes}
use Rattle.trace_records.specs.declared.record.Content.TheVariants as contents
use Rattle.trace_records.proofs.writing.put_opened.Goals as goal

pub returns : goal.returns
returns c =
    with_last _ _ _ c.args.path.now (c.args.out.now.items ++ content_bytes (contents.Path c.args.flags c.args.position c.args.path.now)) c.extend_from_slice-3.ensures.items (rw (c.in_ok-put_u16.ensures, c.in_ok-extend_from_slice-2.ensures.items, c.to_le_bytes-2.ensures)
    (rw (c.in_ok-extend_from_slice.ensures.items, c.to_le_bytes.ensures, c.in_ok-push.ensures.items) (simp append_assoc)))
