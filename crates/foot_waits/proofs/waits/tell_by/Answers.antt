use Rattle.std.proofs.Common.{arith, length, ◌<◌, map}
use Rattle.std.proofs.lemmas.Result.{on_ok_weaker}
use Rattle.world_parts.specs.Uses.{use_meant}
use Rattle.foot_waits.proofs.Told.{meant_at, told_both}
use Rattle.foot_waits.proofs.waits.tell_by.Goals as goal

pub returns : goal.returns
returns c = on_ok_weaker c.tell.result (λ h j.
    let uses = c.args.uses.now in
    let used = c.index-uses-index.result in
    let lt : c.args.index < length uses = omega (arith, c.requires.within, c.requires.each) in
    told_both (c.args.line.now, c.args.descriptors.now) (map use_meant uses) c.args.spans.now c.args.index j (use_meant used) c.args.own.now c.tell_line.new.told.items c.tell.new.told.items
    (meant_at uses c.args.index used lt c.index-uses-index.is) c.requires.own (rw c.clear.ensures.items at (c.in_ok-tell_line.ensures j)) (h j)) c.tell.ensures
