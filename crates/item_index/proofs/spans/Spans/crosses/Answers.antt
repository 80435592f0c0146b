use Rattle.std.proofs.Common.{◌-◌, sym, leb}
use Rattle.item_index.proofs.Pieces.{crosses_nothing, crosses_last, crosses_none, last_chosen}
use Rattle.item_index.proofs.spans.Spans.crosses.Goals as goal

pub returns-then-from-to : goal.returns-then-from-to
returns-then-from-to c = sym (crosses_nothing c.args.from c.args.to c.args.self.now c.if-from-to.true)

pub returns-in-Some : goal.returns-in-Some
returns-in-Some c =
    let l = last_chosen (λ x. leb x (c.args.to - 1)) _ _ _ _ c.self.invariant c.in-Some.ensures.1 in
    rw (← c.self.view_is) (crosses_last c.args.from c.args.to c.if-from-to.false _ _ _ c.self.invariant l)

pub returns-in-None : goal.returns-in-None
returns-in-None c = rw (← c.self.view_is) (sym (crosses_none c.args.from c.args.to c.if-from-to.false c.self.inside.ends.entries c.in-None.ensures))
