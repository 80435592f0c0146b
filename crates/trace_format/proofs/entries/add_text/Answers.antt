use Rattle.std.proofs.Common.{◌≡◌, ◌++◌, append_assoc, length, refl}
use Rattle.std.specs.Int.{w32, to_le_bytes}
use Rattle.std.proofs.lemmas.List.{take_at}
use Rattle.trace_format.proofs.Adds.{with_last}
use Rattle.trace_format.proofs.Spotted.{begins_still}
use Rattle.trace_format.proofs.entries.add_text.Goals as goal

pub returns-clause-kept : goal.returns-clause-kept
returns-clause-kept c =
    let text = c.args.text.now.items in
    let front = c.args.fields.now ++ c.to_le_bytes.result in
    let so_far : c.extend_from_slice-2.new.self.items ≡ text ++ front =
    rw (c.in_ok-extend_from_slice-2.ensures.items, c.in_ok-extend_from_slice.ensures.items) (append_assoc text c.args.fields.now c.to_le_bytes.result) in
    begins_still _ text front _ _ _ so_far c.extend_from_slice-3.ensures.items

pub returns-in_err-extend_from_slice-2-clause-kept : goal.returns-in_err-extend_from_slice-2-clause-kept
returns-in_err-extend_from_slice-2-clause-kept c =
    let text = c.args.text.now.items in
    rw (c.in_err-extend_from_slice-2.ensures.items, c.in_ok-extend_from_slice.ensures.items) (take_at text c.args.fields.now (length text) refl)

pub returns-clause-added : goal.returns-clause-added
returns-clause-added c =
    let wanted = ((c.args.text.now.items ++ c.args.fields.now) ++ to_le_bytes w32 c.args.side_len) ++ c.args.side.now in
    with_last _ _ _ c.args.side.now wanted c.extend_from_slice-3.ensures.items (rw (c.in_ok-extend_from_slice-2.ensures.items, c.to_le_bytes.ensures, c.in_ok-extend_from_slice.ensures.items) refl)
