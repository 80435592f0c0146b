use Rattle.std.proofs.Common.{Option, Some, subst, ◌∙◌}
use Rattle.std.specs.Arc.{arc_value}
use Rattle.extent_bytes.specs.Pages.{PageMap, IsJoined, IsSpliced}
use Rattle.extent_bytes.proofs.Joins.{spliced}
use Rattle.extent_bytes.proofs.Kept.{copied}
use Rattle.extent_bytes.proofs.pages.Pages.splice.Goals as goal

pub returns-clause-ok : goal.returns-clause-ok
returns-clause-ok c =
    let m = c.args.self.now in
    let s = c.splice_in_leaf.new.self in
    let front = arc_value c.in_ok-front.field-0 in
    let part = arc_value c.in_ok-changed.changed in
    let whole = arc_value c.in_ok-changed-2.changed in
    let left : IsSpliced (Some c.in-Some.patch) m s c.args.first c.args.end c.args.patch = subst (λ (o : Option PageMap). IsSpliced o m s c.args.first c.args.end c.args.patch) c.in-Some.is c.in_ok-patch.ensures.ok in
    spliced m s front (arc_value c.in_ok-behind.field-0) c.args.patch part whole c.in_ok-self.field-0 c.args.first c.args.end c.requires left.1 c.in_ok-front.ensures c.in_ok-behind.ensures
    (subst (λ q. IsJoined front c.args.first q part) (c.in_ok-patch-2.ensures.ok ∙ left.0) c.in_ok-changed.ensures)
    c.in_ok-changed-2.ensures (copied whole c.in_ok-self.field-0 c.in_ok-self.ensures.ok)
