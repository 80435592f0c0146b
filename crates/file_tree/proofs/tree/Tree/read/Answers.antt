use Rattle.std.proofs.Common.{ap, sym, ◌∙◌}
use Rattle.file_tree.proofs.tree.Tree.read.Goals as goal
use Rattle.extent_bytes.proofs.Lists.{range_of-none}
use Rattle.file_tree.proofs.Ranges.{held}

pub returns-in_default : goal.returns-in_default
returns-in_default c = c.new.ensures.items ∙ sym (ap (held c.args.lo c.args.hi) (sym c.in_default.ensures) ∙ range_of-none c.args.lo c.args.hi)
