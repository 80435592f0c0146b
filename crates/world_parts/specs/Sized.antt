-- A helper: items whose bytes fit a file.
use Rattle.std.specs.Prelude.{All, ◌≤◌}
use Rattle.trace_records.specs.declared.start.Item.{Item}
use Rattle.trace_records.specs.declared.start.Node.{Node}
use Rattle.trace_records.specs.declared.start.Node.TheVariants.{Directory, File, OtherName}
use Rattle.trace_records.specs.declared.start.Range.{Range}
use Rattle.trace_records.specs.Start.{range_end}
use Rattle.entry_checks.specs.Operation.{file_limit}

-- the ranges of a file end within its size, and that is at most the largest
abbrev pub IsSizedNode : Node → Type 0
IsSizedNode Directory = Unit {0}
IsSizedNode (File size ranges) = All (λ (r : Range). range_end r ≤ size) ranges × (size ≤ file_limit)
IsSizedNode (OtherName number) = Unit {0}

abbrev pub IsSized : Item → Type 0
IsSized x = IsSizedNode x.node
