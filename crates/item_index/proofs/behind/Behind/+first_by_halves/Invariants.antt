use Rattle.std.proofs.Common.{length}
use Rattle.item_index.proofs.behind.Behind.+first_by_halves.Given as goal

abbrev pub decreases-first_by_halves : goal.decreases-first_by_halves
decreases-first_by_halves l = length l.uses.now
