use Rattle.std.proofs.Common.{sym, ◌∙◌, Some}
use Rattle.std.proofs.lemmas.Map.Text.{btree_map_updates_str}
use Rattle.world_parts.proofs.KnownPaths.{named_so, still_known, known_too}
use Rattle.world_parts.proofs.state.State.add_name.Goals as goal

pub returns-in_ok-insert-clause-named : goal.returns-in_ok-insert-clause-named
returns-in_ok-insert-clause-named c = c.in_ok-set_name.ensures ∙ named_so c.args.self.now c.args.path.now c.args.parent c.args.name.now c.args.node c.requires.place

pub returns-in_ok-insert-clause-known : goal.returns-in_ok-insert-clause-known
returns-in_ok-insert-clause-known c =
    let d = c.in-Ok.directory in
    known_too c.args.self.now c.args.path.now c.args.parent c.args.name.now c.args.node c.requires.place c.args.known.now c.requires.known c.set_name.new.self c.in_ok-set_name.ensures c.insert.new.self d
    (btree_map_updates_str c.args.path.now c.args.known.now c.insert.new.self (Some d) c.in_ok-insert.ensures.updates)
    (sym c.in-Ok.ensures)

pub returns-in_default-clause-named : goal.returns-in_default-clause-named
returns-in_default-clause-named c = c.in_ok-set_name.ensures ∙ named_so c.args.self.now c.args.path.now c.args.parent c.args.name.now c.args.node c.requires.place

pub returns-in_default-clause-known : goal.returns-in_default-clause-known
returns-in_default-clause-known c = still_known c.args.self.now c.args.path.now c.args.parent c.args.name.now c.args.node c.requires.place c.args.known.now c.requires.known c.set_name.new.self c.in_ok-set_name.ensures
