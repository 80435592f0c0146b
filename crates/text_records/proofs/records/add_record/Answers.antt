use Rattle.std.proofs.Common.{arith}
use Rattle.text_records.proofs.Lens.{rings_push}
use Rattle.text_records.proofs.records.add_record.Goals as goal

pub returns-clause-counted : goal.returns-clause-counted
returns-clause-counted c = rw c.in_ok-push.ensures.items
    (omega (arith, rings_push c.args.records.now.items c.in_ok-made.made, c.requires.counted, c.ring_count.ensures.count))
