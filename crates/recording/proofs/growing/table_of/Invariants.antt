use Rattle.std.proofs.Common.{◌≡◌, drop}
use Rattle.recording.specs.Growing.{filled, table_of}
use Rattle.recording.proofs.growing.table_of.Given as goal

-- with the descriptors that are left it is the whole table
abbrev pub invariant-loop-descriptor : goal.invariant-loop-descriptor
invariant-loop-descriptor l = filled l.table.items (drop l.descriptor-index l.full) ≡ table_of l.size l.full
