use Rattle.std.proofs.Common.{◌≤◌, ◌≡◌, length, drop, eqb}
use Rattle.std.specs.Prelude.{All, false}
use Rattle.world_parts.proofs.known.name_start.Given as goal

-- no slash is from here on
abbrev pub invariant-loop-start : goal.invariant-loop-start
invariant-loop-start l = record { bound : l.start ≤ length l.path; name : All (λ b. eqb b 47 ≡ false) (drop l.start l.path) }

abbrev pub decreases-loop-start : goal.decreases-loop-start
decreases-loop-start l = l.start
