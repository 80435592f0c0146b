use Rattle.std.proofs.Common.{◌<◌, arith, length, sym}
use Rattle.std.proofs.lemmas.Option.{get_or_from_slice_get}
use Rattle.trace_format.proofs.Adds.{adds_one}
use Rattle.trace_format.proofs.writing.put_entries.Goals as goal

pub loop-number-preserved : goal.loop-number-preserved
loop-number-preserved c =
    let lt : c.loop-number.number < length c.args.entries.now = omega (arith, c.loop-number-test.true, c.len-number-end.ensures) in
    let here = sym (get_or_from_slice_get c.args.entries.now c.loop-number.number c.at.result c.at.result c.at.ensures) in
    adds_one _ _ _ _ _ _ _ lt here c.loop-number.invariant c.in_ok-put_entry.ensures
