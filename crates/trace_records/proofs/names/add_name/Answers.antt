use Rattle.std.proofs.Common.{Some}
use Rattle.std.proofs.lemmas.Map.Text.{btree_map_updates_str}
use Rattle.trace_records.proofs.names.add_name.Goals as goal

pub returns : goal.returns
returns c p = btree_map_updates_str c.args.path.now c.args.names.now c.insert.new.self (Some c.args.is_directory) c.in_ok-insert.ensures.updates p
