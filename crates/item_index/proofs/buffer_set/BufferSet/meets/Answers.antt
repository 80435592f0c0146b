use Rattle.std.proofs.Common.{◌==◌, ◌&&◌, sym}
use Rattle.finite_maps.specs.Table.{pair_cmp, pair_keys}
use Rattle.item_index.specs.Spans.{crosses}
use Rattle.item_index.proofs.Keyed.{at_none, at_some, tells_pair}
use Rattle.item_index.proofs.buffer_set.BufferSet.meets.Goals as goal
use Rattle.item_index.proofs.Sets.{pair_exact}

pub returns-in-Some : goal.returns-in-Some
returns-in-Some c = rw (← c.self.view_is, c.crosses.ensures) (
    at_some pair_cmp pair_exact (λ rs. crosses rs c.args.from c.args.to) (c.args.ring, c.args.index) (λ x y. x.0 == y.0 && x.1 == y.1)
    (tells_pair (c.args.ring, c.args.index))
    pair_keys.total c.self.inside.buffers.entries c.in-Some.spans.now c.self.invariant (sym c.in-Some.ensures.value))

pub returns-in-None : goal.returns-in-None
returns-in-None c = rw (← c.self.view_is) (
    at_none pair_cmp pair_exact (λ rs. crosses rs c.args.from c.args.to) (c.args.ring, c.args.index) (λ x y. x.0 == y.0 && x.1 == y.1)
    (tells_pair (c.args.ring, c.args.index))
    c.self.inside.buffers.entries (sym c.in-None.ensures.value))
