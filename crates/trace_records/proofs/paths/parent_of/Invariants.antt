use Rattle.std.proofs.Common.{◌≡◌, ◌≤◌, take}
use Rattle.trace_format.specs.Paths.{parent_of}
use Rattle.trace_records.proofs.paths.parent_of.Given as goal

abbrev pub invariant-loop-i : goal.invariant-loop-i
invariant-loop-i l = record { parent : parent_of (take l.i l.path) ≡ take l.last l.path; within : l.last ≤ l.i }
