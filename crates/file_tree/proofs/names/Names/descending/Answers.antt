use Rattle.std.specs.Prelude.{map}
use Rattle.file_tree.specs.Listed.{as_name, AreListed}
use Rattle.file_tree.proofs.Split.{sorted_seen_names}
use Rattle.file_tree.proofs.names.Names.descending.Goals as goal

pub new-requires : goal.new-requires
new-requires c =
    let listed : AreListed c.self.inside.short.entries (map as_name c.self.inside.long.entries) = (c.self.invariant.0, c.self.invariant.1, c.iter.ensures.ordered, sorted_seen_names c.self.inside.long.entries c.iter-2.ensures.ordered) in
    rw (c.iter.ensures.rest, c.iter-2.ensures.rest) listed
