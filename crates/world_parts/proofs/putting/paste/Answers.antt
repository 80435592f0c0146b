use Rattle.std.specs.Prelude.{[], unwrap_or}
use Rattle.file_tree.specs.Tree as tree
use Rattle.world_parts.specs.Putting.{pasted}
use Rattle.world_parts.proofs.PutTables.{rewritten-none}
use Rattle.world_parts.proofs.putting.paste.Goals as goal

pub returns-in_default : goal.returns-in_default
returns-in_default c = rewritten-none c.args.nodes.now c.args.node (λ bs. pasted bs (unwrap_or (tree.bytes c.args.part.now c.args.node) []) c.args.low c.args.high) c.in_default.ensures.value
