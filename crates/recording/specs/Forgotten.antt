-- The model: a recording whose steps are forgotten.
use Rattle.std.specs.Prelude.{ℕ, List, [], map}
use Rattle.std.specs.List.{range_with_len}
use Rattle.trace_records.specs.declared.record.FullSlot.{FullSlot}
use Rattle.recording.specs.Actions.{Step, register}

-- a step that fills slots of ring 0, in a record of its own
abbrev pub filling : List FullSlot → ℕ → Step
filling slots place = record { ring = 0; from_record = place; action = register slots }

-- a step that does nothing, as it fills no slots
abbrev pub blank : ℕ → Step
blank = filling []

-- so many of them
abbrev pub blanks : ℕ → List Step
blanks count = map blank (range_with_len 0 count)
