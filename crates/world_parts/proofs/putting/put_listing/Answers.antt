use Rattle.std.proofs.Common.{true, false, sym}
use Rattle.std.specs.Option.{is_some}
use Rattle.file_tree.specs.Tree as tree
use Rattle.world_parts.proofs.PutTables.{copied-some, listed-same}
use Rattle.world_parts.proofs.putting.put_listing.Goals as goal

pub returns-else-is_some : goal.returns-else-is_some
returns-else-is_some c =
    listed-same c.args.nodes.now c.args.node (is_some (tree.names c.args.part.now c.args.node)) false
    (copied-some c.names.result (tree.names c.args.part.now c.args.node) false c.names.ensures c.if-is_none.ensures)
    (copied-some c.names-then-is_none.result (tree.names c.args.nodes.now c.args.node) false c.names-then-is_none.ensures (sym c.if-is_some.ensures))

pub returns-else-is_none-2 : goal.returns-else-is_none-2
returns-else-is_none-2 c =
    listed-same c.args.nodes.now c.args.node (is_some (tree.names c.args.part.now c.args.node)) true
    (copied-some c.names.result (tree.names c.args.part.now c.args.node) true c.names.ensures c.if-is_none.ensures)
    (copied-some c.names-2.result (tree.names c.args.nodes.now c.args.node) true c.names-2.ensures c.if-is_none-2.ensures)
