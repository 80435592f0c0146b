-- The tests are passed, and what is written is a range of the buffer.
use Rattle.std.proofs.Common.{◌≡◌, ◌<◌, ◌-◌, length, min, false, Some, arith, sym, ap, ◌∙◌}
use Rattle.std.specs.Prelude.{Ok}
use Rattle.sqe_codec.specs.declared.errno.Errno.TheVariants.{EFAULT}
use Rattle.entry_checks.specs.Meant.{span_meant}
use Rattle.entry_checks.specs.Operation.{file_limit}
use Rattle.world_parts.specs.World.{buffer}
use Rattle.op_meaning.specs.Handles.{found, handle_meant, opened_meant}
use Rattle.op_meaning.specs.Site.{in_ring}
use Rattle.op_meaning.specs.Meaning.{is_bad_offset, span_start, writable}
use Rattle.op_meaning.proofs.SpanWrites.{bytes_from, found_at, span_written}
use Rattle.op_meaning.proofs.transfers.writable_from.Goals.{else-count-ne0-via-then-count-ne0+else-start-ge-LARGEST, else-count-ne0-via-else-count-ne0}
use Rattle.op_meaning.proofs.transfers.writable_from.Goals as goal

pub returns-clause-meaning : goal.returns-clause-meaning
returns-clause-meaning c =
    let t = c.args.trace.now in
    let s = c.args.state.now in
    let r = c.args.ring in
    let there = opened_meant s c.args.opened in
    let x = span_meant c.args.span in
    let at = c.in_ok-at.at in
    let start = c.write_start-start.result in
    let new = bytes_from (buffer s r c.args.span.index) at c.args.span.length in
    let long : c.count_in_buffer-count.result ≡ length new = c.count_in_buffer-count.ensures.count in
    let passed : writable there ≡ Ok (handle_meant s c.in_ok-file.file) = sym (c.writable.ensures s) ∙ ap (found s) c.in_ok-file.was in
    let starts : Some at ≡ span_start (in_ring t r) x = found_at c.span_start.result EFAULT at (sym c.ok_or.ensures.value ∙ c.in_ok-at.was) ∙ c.span_start.ensures.place in
    let good : is_bad_offset c.args.offset ≡ false = sym c.is_bad_offset.ensures ∙ c.if-is_bad_offset.false in
    let below : 0 < length new → start < file_limit = λ some. elim c.else-count-ne0.branch [
      | else-count-ne0-via-then-count-ne0+else-start-ge-LARGEST w ↦ omega (arith, w.if-start-ge-LARGEST.false)
      | else-count-ne0-via-else-count-ne0 w ↦ absurd (omega (arith, w.if-count-ne0.false, long, some))
    ] in
    let count : c.min.result ≡ min (length new) (file_limit - start) = omega (arith, c.min.ensures, c.saturating_sub.ensures, long) in
    span_written t s r there c.args.offset x (handle_meant s c.in_ok-file.file) at start c.min.result passed starts good c.write_start-start.ensures below count
