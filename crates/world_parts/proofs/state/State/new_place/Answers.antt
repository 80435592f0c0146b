use Rattle.std.proofs.Common.{sym}
use Rattle.world_parts.proofs.KnownPaths.{new_place}
use Rattle.world_parts.proofs.state.State.new_place.Goals as goal

pub returns-in-None : goal.returns-in-None
returns-in-None c = new_place c.args.self.now.nodes c.args.known.now c.args.path.now c.in_ok-directory.directory.now c.in_ok-directory.name.now c.in_ok-parent.parent c.requires c.in_ok-directory.ensures.whole c.in_ok-directory.ensures.name c.in_ok-parent.ensures (sym c.in-None.ensures)
