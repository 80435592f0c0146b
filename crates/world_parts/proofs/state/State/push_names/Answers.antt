use Rattle.std.proofs.Common.{◌≡◌, suc, ◌++◌, ap, sym, ◌∙◌, arith}
use Rattle.std.specs.List.{flat_map}
use Rattle.file_tree.specs.Tree.{Names, names}
use Rattle.world_parts.specs.Image.{paths_below}
use Rattle.world_parts.specs.Pending.{paths_at, paths_pending}
use Rattle.world_parts.proofs.Listing.{paths_below-names, one_pushed}
use Rattle.world_parts.proofs.state.State.push_names.Goals as goal

pub loop-name-init : goal.loop-name-init
loop-name-init c =
    let tree = c.args.self.now.nodes in
    let path = c.args.path.now in
    let below = c.in-Some.below in
    let level : c.args.levels ≡ suc below = omega (arith, c.in-Some.ensures.0, c.in-Some.ensures.1) in
    ap (λ y. y ++ paths_pending tree c.args.pending.now.items)
    (ap (λ (ns : Names). flat_map (paths_at below tree path) ns.entries) (c.into_iter-name-iterator.ensures.into_iter_gives ∙ c.descending-name-items.ensures)
    ∙ sym (paths_below-names c.args.levels below tree path c.args.directory c.in-Some-names.names.now level (ap (λ w. names w.nodes c.args.directory) (sym c.self.view_is) ∙ sym c.in-Some-names.ensures)))

pub loop-name-preserved : goal.loop-name-preserved
loop-name-preserved c =
    let tree = c.args.self.now.nodes in
    let path = c.args.path.now in
    let below = c.in-Some.below in
    let name = c.in-Some-2.name.now in
    let node = c.in-Some-2.node in
    one_pushed tree (paths_at below tree path) c.loop-name.name-iterator.entries c.next.new.self.entries (name, node)
    c.loop-name.pending.items c.push_name.new.pending.items
    (paths_below c.args.levels tree path c.args.directory ++ paths_pending tree c.args.pending.now.items)
    c.in-Some-2.ensures.steps (c.in_ok-push_name.ensures tree) c.loop-name.invariant
