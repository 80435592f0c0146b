use Rattle.std.proofs.Common.{◌<◌, ◌+◌, length, sym, arith}
use Rattle.std.proofs.lemmas.Option.{get_or_from_slice_get}
use Rattle.trace_text.specs.Entry.{entry_line}
use Rattle.trace_text.proofs.Adds.{numbered_adds}
use Rattle.trace_text.proofs.lines.push_entries.Goals as goal

pub loop-number-preserved : goal.loop-number-preserved
loop-number-preserved c =
    let lt : c.loop-number.number < length c.args.entries.now = omega (arith, c.loop-number-test.true, c.len-number-end.ensures) in
    let here = sym (get_or_from_slice_get c.args.entries.now c.loop-number.number c.at.result c.at.result c.at.ensures) in
    numbered_adds (entry_line c.args.look) c.args.place c.args.entries.now c.loop-number.number (c.args.place + c.loop-number.number) _ _ _ _ lt here (omega arith) c.loop-number.invariant c.in_ok-push_entry.ensures
