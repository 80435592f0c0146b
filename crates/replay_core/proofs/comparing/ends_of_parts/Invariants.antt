use Rattle.std.proofs.Common.{◌≤◌, All}
use Rattle.replay_core.proofs.comparing.ends_of_parts.Given as goal

abbrev pub invariant-loop-place : goal.invariant-loop-place
invariant-loop-place l = All (λ end. end ≤ l.count) l.ends.items
