use Rattle.std.proofs.Common.{◌==◌, sym}
use Rattle.std.specs.Ordering.{nat_cmp}
use Rattle.std.specs.Cmp.{nat_cmp_total}
use Rattle.std.specs.FinMap.{nat_cmp-IsAntisymmetric}
use Rattle.item_index.specs.Spans.{crosses}
use Rattle.item_index.proofs.Keyed.{at_none, at_some, tells_number}
use Rattle.item_index.proofs.range_set.RangeSet.meets.Goals as goal

pub returns-in-Some : goal.returns-in-Some
returns-in-Some c = rw (← c.self.view_is, c.crosses.ensures) (
    at_some nat_cmp nat_cmp-IsAntisymmetric (λ rs. crosses rs c.args.from c.args.to) c.args.node (λ x y. x == y) (tells_number c.args.node)
    nat_cmp_total c.self.inside.files.entries c.in-Some.spans.now c.self.invariant (sym c.in-Some.ensures.value))

pub returns-in-None : goal.returns-in-None
returns-in-None c = rw (← c.self.view_is) (
    at_none nat_cmp nat_cmp-IsAntisymmetric (λ rs. crosses rs c.args.from c.args.to) c.args.node (λ x y. x == y) (tells_number c.args.node)
    c.self.inside.files.entries (sym c.in-None.ensures.value))
