use Rattle.std.proofs.Common.{◌≤◌, length}
use Rattle.world_parts.proofs.imaging.first_between.Given as goal

abbrev pub invariant-loop-first : goal.invariant-loop-first
invariant-loop-first l = l.first ≤ length l.pending

abbrev pub decreases-loop-first : goal.decreases-loop-first
decreases-loop-first l = l.first
