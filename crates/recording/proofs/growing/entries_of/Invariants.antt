use Rattle.std.proofs.Common.{◌≡◌, map}
use Rattle.recording.specs.Growing.{submitted}
use Rattle.recording.proofs.growing.entries_of.Given as goal

-- the entries so far
abbrev pub invariant-loop-entry : goal.invariant-loop-entry
invariant-loop-entry l = l.made.items ≡ map submitted l.yielded
