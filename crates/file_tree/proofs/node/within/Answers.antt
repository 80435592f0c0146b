use Rattle.file_tree.proofs.Ranges.{range_of-within, zeroed-within}
use Rattle.file_tree.proofs.node.within.Goals as goal

pub returns-clause-taken : goal.returns-clause-taken
returns-clause-taken c = rw (c.min.ensures, c.min-end.ensures, c.len.ensures.value) (range_of-within c.args.bytes.now c.args.lo c.args.hi)

pub returns-clause-cleared : goal.returns-clause-cleared
returns-clause-cleared c = rw (c.min.ensures, c.min-end.ensures, c.len.ensures.value) (zeroed-within c.args.bytes.now c.args.lo c.args.hi)
