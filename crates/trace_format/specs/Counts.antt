-- The model: how many steps records have, and how many a trace has at most.
use Rattle.std.specs.Prelude.{ℕ, ◌+◌, List, [], ◌∷◌, length}
use Rattle.trace_format.specs.declared.trace.Record.{Record}
use Rattle.trace_format.specs.declared.trace.Record.TheVariants.{Enter, Fill}

-- how many steps a record has: its entries, or one fill
abbrev pub step_count : Record → ℕ
step_count (Enter ring entries) = length entries
step_count (Fill ring buffer offset bytes) = 1

-- how many steps a list of records has
abbrev pub places_in : List Record → ℕ
places_in [] = 0
places_in (r ∷ records) = step_count r + places_in records

-- how many steps, and how many records, a trace has at most
abbrev pub places_limit : ℕ
places_limit = 1048576
