use Rattle.std.proofs.Common.{rules}
use Rattle.deal_desk.proofs.Moves.{finish_as}
use Rattle.deal_desk.proofs.desk.Desk.put.Goals as goal

pub fetch_add-requires : goal.fetch_add-requires
fetch_add-requires g c =
    let it = c.args.seat.now in
    (search rules, search rules, finish_as g.J.Job.is_value _ _ _ c.exchange-taken.new.seat.me it.seat.me c.args.place c.args.done c.exchange-taken.ensures.3 it.holds it.live c.requires.out c.requires.value)
