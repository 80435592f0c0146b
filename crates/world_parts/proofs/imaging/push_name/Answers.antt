use Rattle.std.proofs.Common.{◌++◌, ◌∷◌, length, ap, ◌∙◌}
use Rattle.world_parts.specs.Image.{paths_below}
use Rattle.world_parts.specs.Pending.{paths_pending}
use Rattle.world_parts.proofs.Listing.{paths_pending-push}
use Rattle.world_parts.proofs.imaging.push_name.Goals as goal

pub returns : goal.returns
returns c = λ tree.
    let before = c.args.pending.now.items in
    ap (paths_pending tree) c.in_ok-push.ensures.items
    ∙ paths_pending-push tree before (record { path = c.in_ok-path.path; front = length c.args.directory.now; node = c.args.node; levels = c.args.levels })
    ∙ ap (λ full. ((full, c.args.node) ∷ paths_below c.args.levels tree full c.args.node) ++ paths_pending tree before) c.in_ok-path.ensures
