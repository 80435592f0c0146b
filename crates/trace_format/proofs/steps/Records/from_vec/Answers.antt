use Rattle.std.proofs.Common.{◌≡◌, arith, length, ap, take, take_all}
use Rattle.trace_format.proofs.Spots.{places_in-take, spots_more, length-numbers_from}
use Rattle.trace_format.proofs.steps.Records.from_vec.Goals as goal

pub add_record-requires : goal.add_record-requires
add_record-requires c =
    let so_far = length-numbers_from 0 (take c.loop-i.i c.args.items.items) in
    let room = places_in-take c.args.items.items c.loop-i.i c.index.result.now (omega (arith, c.args.items.ok.0)) c.index.ensures in
    omega (arith, c.loop-i.record_numbers.ok.0, ap length c.loop-i.invariant.0, so_far, c.step_count.ensures, room)

pub loop-i-preserved : goal.loop-i-preserved
loop-i-preserved c =
    spots_more _ _ _ _ c.args.items.items c.loop-i.i _ _ _ (omega (arith, c.args.items.ok.0)) c.index.ensures c.step_count.ensures c.loop-i.record_numbers.ok.0 c.loop-i.invariant (c.in_ok-add_record.ensures.numbers, c.in_ok-add_record.ensures.firsts)

pub invariant_of-result : goal.invariant_of-result
invariant_of-result c =
    let all : take c.loop-i.i c.args.items.items ≡ c.args.items.items = take_all _ _ (omega (arith, c.args.items.ok.0)) in
    let whole = rw all at c.loop-i.invariant in
    (whole.0, whole.1, omega (arith, ap length whole.0, length-numbers_from 0 c.args.items.items))
